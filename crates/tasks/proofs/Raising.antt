-- Loads and first supernodes as they are added up the tree. Assumes nothing.
use mathlib.Core.Path.{◌≡◌, refl, sym, ap, ap₂, ◌∙◌}
use mathlib.Core.Logic.{⊎_elim, ◌≢◌}
use mathlib.Core.Bool.{Bool, true, false}
use mathlib.Core.List.{List}
use Prim.Native.Nat.{ℕ, zero, suc, ◌+◌, ◌-◌, ◌≤◌, ◌<◌, min}
use native.Mathlib.Omega.{arith}
use native.Mathlib.Nat.{eq-or-lt_of_le, not-suc-le-zero, add-zero}
use native.Mathlib.Numerals.{add-one}
use lib.Dec.{ltb}
use lib.ListN.{length, get_or, set, length-set}
use lib.Seq.{get_or-set_same, get_or-set_other}
use Rattle.statement.specs.Lists.{sum}
use Rattle.statement.specs.Shape.{Shape, supernodes, parent_of}
use Rattle.statement.specs.Tasks.{weight, subtree_start}
use Rattle.laws.specs.Pass.{Loads, raise, loads}
use Rattle.laws.proofs.Bools.{split_at, ltb_yes}
use Rattle.laws.proofs.Sum.{sum_ext}
use Rattle.laws.proofs.Ranks.{list_length, list_at}
use Rattle.laws.proofs.Loads.{loads_are, begins_are}
use Rattle.areas.specs.Buckets.{Holds}
use Rattle.tasks.specs.Given.{Above, Parented, Loaded}

-- ---- one supernode hands its own on

module _ (S : Shape) (m : ℕ) (t : Loads) where
  record Raised (u : Loads) : Type 0 where
    pub long_load : length u.load ≡ length t.load
    pub long_begin : length u.begin ≡ length t.begin
    pub load_at : parent_of S m < supernodes S → supernodes S ≡ length t.load → get_or u.load (parent_of S m) 0 ≡ get_or t.load (parent_of S m) 0 + get_or t.load m 0
    pub begin_at : parent_of S m < supernodes S → supernodes S ≡ length t.begin → get_or u.begin (parent_of S m) 0 ≡ min (get_or t.begin (parent_of S m) 0) (get_or t.begin m 0)
    pub load_off : (R : ℕ) → R ≢ parent_of S m → get_or u.load R 0 ≡ get_or t.load R 0
    pub begin_off : (R : ℕ) → R ≢ parent_of S m → get_or u.begin R 0 ≡ get_or t.begin R 0

  raised : Raised (raise S m t)
  unfolding raise
  raised = go (ltb (parent_of S m) (supernodes S)) refl
    where
      go : (b : Bool) → ltb (parent_of S m) (supernodes S) ≡ b → Raised (elim b as (λ _. Loads) [
        | true ↦ record { load = set t.load (parent_of S m) (get_or t.load (parent_of S m) 0 + get_or t.load m 0); begin = set t.begin (parent_of S m) (min (get_or t.begin (parent_of S m) 0) (get_or t.begin m 0)) }
        | false ↦ t
      ])
      go true e = record {
        long_load = length-set t.load (parent_of S m) _;
        long_begin = length-set t.begin (parent_of S m) _;
        load_at = λ h k. get_or-set_same t.load (parent_of S m) _ 0 (omega arith);
        begin_at = λ h k. get_or-set_same t.begin (parent_of S m) _ 0 (omega arith);
        load_off = λ R ne. get_or-set_other t.load (parent_of S m) R _ 0 ne;
        begin_off = λ R ne. get_or-set_other t.begin (parent_of S m) R _ 0 ne;
      }
      go false e = record {
        long_load = refl;
        long_begin = refl;
        load_at = λ h k. let z : ◌≡◌ {A = Bool} true false = sym (ltb_yes h) ∙ e in let y : ◌≡◌ {A = ℕ} 0 1 = cc in absurd (omega arith);
        begin_at = λ h k. let z : ◌≡◌ {A = Bool} true false = sym (ltb_yes h) ∙ e in let y : ◌≡◌ {A = ℕ} 0 1 = cc in absurd (omega arith);
        load_off = λ R ne. refl;
        begin_off = λ R ne. refl;
      }

module _ (S : Shape) where
  raise_next : (m : ℕ) → Raised S m (loads S m) (loads S (suc m))
  unfolding loads
  raise_next m = raised S m (loads S m)

  long : (m : ℕ) → (length (loads S m).load ≡ supernodes S) × (length (loads S m).begin ≡ supernodes S)
  long zero = unfold loads in (list_length (weight S) (supernodes S), list_length (λ K. K) (supernodes S))
  long (suc m) = ((raise_next m).long_load ∙ (long m).0, (raise_next m).long_begin ∙ (long m).1)

  first_load : (R : ℕ) → R < supernodes S → get_or (loads S 0).load R 0 ≡ weight S R
  unfolding loads
  first_load R h = list_at (weight S) (supernodes S) R 0 h

  first_begin : (R : ℕ) → R < supernodes S → get_or (loads S 0).begin R 0 ≡ R
  unfolding loads
  first_begin R h = list_at (λ K. K) (supernodes S) R 0 h

-- the parents rise
rising : {S : Shape} {ns : ℕ} {up : List ℕ} → Parented S ns up → Above ns up → (K : ℕ) → K < supernodes S → K < parent_of S K
rising g a K h = let k : K < _ = rw g.number at h in omega (arith, a.rise K k, g.are.at K k)

-- ---- sums

-- a sum with its first term apart
sum_head : (f : ℕ → ℕ) (m : ℕ) → sum f (suc m) ≡ f 0 + sum (λ i. f (suc i)) m
unfolding sum
sum_head f zero = omega arith
sum_head f (suc m) = omega (arith, sum_head f m)

sum_bump : (f g : ℕ → ℕ) (i x m : ℕ) → i < m → g i ≡ f i + x → ((j : ℕ) → j ≢ i → g j ≡ f j) → sum g m ≡ sum f m + x
unfolding sum
sum_bump f g i x zero h e o = absurd (not-suc-le-zero h)
sum_bump f g i x (suc m) h e o = ⊎_elim
    (λ (q : suc i ≡ suc m). let z : m ≡ i = omega arith in omega (arith, ap g z, ap f z, e, sum_ext g f m (λ j l. o j (let y : j ≢ i = omega arith in y))))
    (λ (q : suc i < suc m). omega (arith, sum_bump f g i x m (omega arith) e o, o m (let y : m ≢ i = omega arith in y))) (eq-or-lt_of_le h)

sum_member : (f : ℕ → ℕ) (i m : ℕ) → i < m → f i ≤ sum f m
unfolding sum
sum_member f i zero h = absurd (not-suc-le-zero h)
sum_member f i (suc m) h = ⊎_elim (λ (q : suc i ≡ suc m). let z : m ≡ i = omega arith in omega (arith, ap f z)) (λ (q : suc i < suc m). omega (arith, sum_member f i m (omega arith))) (eq-or-lt_of_le h)

-- ---- loads

-- what stands from slot k to slot ns: the total, whatever has been handed on
abbrev pub tail : ℕ → List ℕ → ℕ → ℕ
tail ns l k = sum (λ i. get_or l (k + i) 0) (suc ns - k)

tail_all : (ns : ℕ) (d : List ℕ) → tail ns d 0 ≡ sum (λ j. get_or d j 0) (suc ns)
tail_all ns d = ap (sum (λ i. get_or d (0 + i) 0)) (let z : suc ns - 0 ≡ suc ns = omega arith in z) ∙ sum_ext (λ i. get_or d (0 + i) 0) (λ j. get_or d j 0) (suc ns) (λ i _. ap (λ x. get_or d x 0) (let z : 0 + i ≡ i = omega arith in z))

tail_end : (ns : ℕ) (l : List ℕ) → tail ns l ns ≡ get_or l ns 0
tail_end ns l = ap (sum (λ i. get_or l (ns + i) 0)) (let z : suc ns - ns ≡ 1 = omega arith in z) ∙ one
  where
    one : sum (λ i. get_or l (ns + i) 0) 1 ≡ get_or l ns 0
    one = unfold sum in omega (arith, ap (λ x. get_or l x 0) (add-zero ns))

pub record Loading (ns : ℕ) (up d s : List ℕ) (k : ℕ) : Type 0 where
  pub to : k ≤ ns
  pub len : length s ≡ length d
  pub keeps : tail ns s k ≡ tail ns d 0
  pub is : (S : Shape) → Parented S ns up → Holds (weight S) ns d → (R : ℕ) → R < ns → get_or s R 0 ≡ get_or (loads S k).load R 0

pub loading_begin : (ns : ℕ) (up d : List ℕ) → Loading ns up d d 0
loading_begin ns up d = record { to = omega arith; len = refl; keeps = refl; is = λ S g w R h. w.at R h ∙ sym (first_load S R (rw g.number h)) }

module _ {ns : ℕ} {up d s : List ℕ} {k : ℕ} (w : Loading ns up d s k) (a : Above ns up) (nd : ns < length d) where
  module _ (h : k < ns) where
    parts : tail ns s k ≡ get_or s k 0 + tail ns s (suc k)
    parts = ap (sum (λ i. get_or s (k + i) 0)) (let e : suc ns - k ≡ suc (suc ns - suc k) = omega arith in e) ∙ sum_head (λ i. get_or s (k + i) 0) (suc ns - suc k)
        ∙ ap (λ x. get_or s x 0 + sum (λ i. get_or s (k + suc i) 0) (suc ns - suc k)) (add-zero k)
        ∙ ap (λ x. get_or s k 0 + x) (sum_ext (λ i. get_or s (k + suc i) 0) (λ i. get_or s (suc k + i) 0) (suc ns - suc k) (λ i _. ap (λ x. get_or s x 0) (let z : k + suc i ≡ suc k + i = omega arith in z)))

    abbrev p : ℕ
    p = get_or up k 0

    at_p : suc k + (p - suc k) ≡ p
    at_p = omega (arith, a.rise k h)

    pub loading_fits : get_or s (get_or up k 0) 0 + get_or s k 0 ≤ sum (λ j. get_or d j 0) (suc ns)
    loading_fits = omega (arith, tail_all ns d, w.keeps, parts, ap (λ x. get_or s x 0) at_p, sum_member (λ i. get_or s (suc k + i) 0) (p - suc k) (suc ns - suc k) (omega (arith, a.rise k h, a.to k h)))

    pub loading_more : Loading ns up d (set s (get_or up k 0) (get_or s (get_or up k 0) 0 + get_or s k 0)) (k + 1)
    loading_more = record {
      to = omega arith;
      len = length-set s p _ ∙ w.len;
      keeps = rw (add-one k) (omega (arith, bumped, parts, w.keeps));
      is = λ S g f. rw (add-one k) (split_at p
          (λ R. let e = g.are.at k h in let P : parent_of S k < supernodes S = omega (arith, g.number) in
          get_or-set_same s p _ 0 (omega (arith, w.len)) ∙ ap₂ (λ x y. x + y) (w.is S g f p R ∙ ap (λ z. get_or (loads S k).load z 0) e) (w.is S g f k h) ∙ sym (ap (λ z. get_or (loads S (suc k)).load z 0) e ∙ (raise_next S k).load_at P (sym (long S k).0)))
          (λ R ne l. get_or-set_other s p R _ 0 ne ∙ w.is S g f R l ∙ sym ((raise_next S k).load_off R (λ q. ne (q ∙ sym (g.are.at k h))))));
    }
      where
        bumped : tail ns (set s p (get_or s p 0 + get_or s k 0)) (suc k) ≡ tail ns s (suc k) + get_or s k 0
        bumped = sum_bump (λ i. get_or s (suc k + i) 0) (λ i. get_or (set s p (get_or s p 0 + get_or s k 0)) (suc k + i) 0) (p - suc k) (get_or s k 0) (suc ns - suc k)
            (omega (arith, a.rise k h, a.to k h))
            (rw at_p (get_or-set_same s p _ 0 (omega (arith, a.to k h, w.len))))
            (λ j ne. get_or-set_other s p (suc k + j) _ 0 (let z : suc k + j ≢ p = omega (arith, at_p) in z))

  pub loading_over : ns ≤ k → Loaded ns up d s
  loading_over h = let e : k ≡ ns = omega (arith, w.to) in record {
    total = sym (tail_end ns s) ∙ ap (tail ns s) (sym e) ∙ w.keeps ∙ tail_all ns d;
    are = λ S g f. record {
      fits = omega (arith, w.len);
      at = λ R l. w.is S g f R l ∙ ap (λ z. get_or (loads S z).load R 0) (e ∙ sym g.number) ∙ loads_are S (rising g a) R (rw g.number l);
    };
  }

-- ---- first supernodes

pub record Leading (ns : ℕ) (up d s : List ℕ) (k : ℕ) : Type 0 where
  pub to : k ≤ ns
  pub len : length s ≡ length d
  pub is : (S : Shape) → Parented S ns up → (R : ℕ) → R < ns → get_or s R 0 ≡ get_or (loads S k).begin R 0

pub leading_begin : (ns : ℕ) (up d : List ℕ) → Holds (λ k. k) ns d → Leading ns up d d 0
leading_begin ns up d f = record { to = omega arith; len = refl; is = λ S g R h. f.at R h ∙ sym (first_begin S R (rw g.number h)) }

module _ {ns : ℕ} {up d s : List ℕ} {k : ℕ} (w : Leading ns up d s k) (a : Above ns up) (nd : ns < length d) where
  pub leading_more : k < ns → {x : ℕ} → x ≡ min (get_or s (get_or up k 0) 0) (get_or s k 0) → Leading ns up d (set s (get_or up k 0) x) (k + 1)
  leading_more h {x} ex = record {
    to = omega arith;
    len = length-set s (get_or up k 0) x ∙ w.len;
    is = λ S g. rw (add-one k) (split_at (get_or up k 0)
        (λ R. let e = g.are.at k h in let P : parent_of S k < supernodes S = omega (arith, g.number) in
        get_or-set_same s (get_or up k 0) x 0 (omega (arith, w.len)) ∙ ex ∙ ap₂ min (w.is S g (get_or up k 0) R ∙ ap (λ z. get_or (loads S k).begin z 0) e) (w.is S g k h) ∙ sym (ap (λ z. get_or (loads S (suc k)).begin z 0) e ∙ (raise_next S k).begin_at P (sym (long S k).1)))
        (λ R ne l. get_or-set_other s (get_or up k 0) R x 0 ne ∙ w.is S g R l ∙ sym ((raise_next S k).begin_off R (λ q. ne (q ∙ sym (g.are.at k h))))));
  }

  pub leading_over : ns ≤ k → (S : Shape) → Parented S ns up → Holds (subtree_start S) ns s
  leading_over h S g = let e : k ≡ ns = omega (arith, w.to) in record {
    fits = omega (arith, w.len);
    at = λ R l. w.is S g R l ∙ ap (λ z. get_or (loads S z).begin R 0) (e ∙ sym g.number) ∙ begins_are S (rising g a) R (rw g.number l);
  }
