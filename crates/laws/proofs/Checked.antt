-- What number 11's checks tell. Assumes nothing.
use mathlib.Core.Path.{◌≡◌, refl, sym, ap, ◌∙◌}
use mathlib.Core.Bool.{Bool, true, false, ◌&&◌}
use mathlib.Core.List.{List}
use Prim.Native.Nat.{ℕ, zero, suc, ◌+◌, ◌-◌, ◌≤◌, ◌<◌}
use native.Mathlib.Omega.{arith}
use native.Mathlib.Nat.{le_refl}
use native.Mathlib.Decide.{le_ind}
use native.Mathlib.Numerals.{add-one}
use lib.Dec.{T, leb, ltb, eqb, leb→le, ltb→lt, eqb→eq}
use lib.ListN.{length, get_or, take}
use lib.Seq.{length-take-le}
use Rattle.statement.specs.Lists.{every}
use Rattle.statement.specs.Input.{columns_limit}
use Rattle.statement.specs.Shape.{Shape, supernodes, first, width, height, rows_of, offset}
use Rattle.statement.specs.Solve.{FactorAreas, shape_in, is_full, full_record, permutes, rising_columns, good_supernode, rising_rows, sized, viewable, solvable}
use Rattle.statement.specs.declared.Record.{Record}
use Rattle.laws.specs.Lent.{laid, Fitted, Framed, Walkable}
use Rattle.laws.proofs.Bools.{and_both}
use Rattle.laws.proofs.Every.{every_at}
use Rattle.laws.proofs.Permuted.{Permuted, permuted}

-- ---- (c)

-- what rises strictly is at k at least k
grows : (f : ℕ → ℕ) (k : ℕ) → ((i : ℕ) → i < k → f i < f (suc i)) → k ≤ f k
grows f zero h = omega arith
grows f (suc k) h = omega (arith, grows f k (λ i l. h i (omega arith)), h k (omega arith))

-- what never falls is at a later place not less
pub climbs : (f : ℕ → ℕ) (m : ℕ) → ((i : ℕ) → i < m → f i ≤ f (suc i)) → (i j : ℕ) → i ≤ j → j ≤ m → f i ≤ f j
climbs f m h i j l = le_ind (λ x. x ≤ m → f i ≤ f x) (λ _. le_refl _) (λ x _ u k. omega (arith, h x k, u (let z : x ≤ m = omega arith in z))) j l

module _ (R : Record) (S : Shape) (h : T (rising_columns R S)) where
  columns : T (eqb (first S 0) 0) × T (eqb (first S R.supernodes) R.n && every (λ K. ltb (first S K) (first S (suc K))) R.supernodes)
  unfolding rising_columns
  columns = and_both (eqb (first S 0) 0) _ h

  columns_last : T (eqb (first S R.supernodes) R.n) × T (every (λ K. ltb (first S K) (first S (suc K))) R.supernodes)
  columns_last = and_both (eqb (first S R.supernodes) R.n) _ columns.1

  pub columns_from : first S 0 ≡ 0
  columns_from = eqb→eq (first S 0) 0 columns.0

  pub columns_end : first S R.supernodes ≡ R.n
  columns_end = eqb→eq (first S R.supernodes) R.n columns_last.0

  pub columns_rise : (K : ℕ) → K < R.supernodes → first S K < first S (suc K)
  columns_rise K l = ltb→lt (first S K) (first S (suc K)) (every_at (λ K. ltb (first S K) (first S (suc K))) R.supernodes columns_last.1 K l)

  -- no more supernodes than columns
  pub columns_few : R.supernodes ≤ R.n
  columns_few = omega (arith, grows (first S) R.supernodes columns_rise, columns_end)

-- ---- (d)

-- the starts alone
abbrev pub rising_starts : Record → List ℕ → Bool
rising_starts R s = (eqb (get_or s 0 0) 0 && eqb (get_or s R.supernodes 0) R.rows) && every (λ K. leb (get_or s K 0) (get_or s (suc K) 0)) R.supernodes

module _ (R : Record) (s : List ℕ) (h : T (rising_starts R s)) where
  starts_both : T (eqb (get_or s 0 0) 0 && eqb (get_or s R.supernodes 0) R.rows) × T (every (λ K. leb (get_or s K 0) (get_or s (suc K) 0)) R.supernodes)
  starts_both = and_both (eqb (get_or s 0 0) 0 && eqb (get_or s R.supernodes 0) R.rows) _ h

  pub starts_end : get_or s R.supernodes 0 ≡ R.rows
  starts_end = eqb→eq (get_or s R.supernodes 0) R.rows (and_both (eqb (get_or s 0 0) 0) _ starts_both.0).1

  starts_down : (K : ℕ) → K < R.supernodes → get_or s K 0 ≤ get_or s (suc K) 0
  starts_down K l = leb→le (get_or s K 0) (get_or s (suc K) 0) (every_at (λ K. leb (get_or s K 0) (get_or s (suc K) 0)) R.supernodes starts_both.1 K l)

  starts_to : (K : ℕ) → K ≤ R.supernodes → get_or s K 0 ≤ R.rows
  starts_to K l = omega (arith, climbs (λ K. get_or s K 0) R.supernodes starts_down K R.supernodes l (le_refl _), starts_end)

-- the rows of one supernode
module _ (S : Shape) (K : ℕ) (h : T (good_supernode S K)) where
  abbrev l : List ℕ
  l = rows_of S K

  good : T (every (λ x. ltb (get_or l x 0) (get_or l (suc x) 0)) (length l - 1)) × T (leb (width S K) (length l) && (every (λ c. eqb (get_or l c 0) (first S K + c)) (width S K) && every (λ x. ltb (get_or l x 0) S.n) (length l)))
  unfolding good_supernode
  good = and_both (every (λ x. ltb (get_or l x 0) (get_or l (suc x) 0)) (length l - 1)) _ h

  good_wide : T (leb (width S K) (length l)) × T (every (λ c. eqb (get_or l c 0) (first S K + c)) (width S K) && every (λ x. ltb (get_or l x 0) S.n) (length l))
  good_wide = and_both (leb (width S K) (length l)) _ good.1

  good_tall : width S K ≤ height S K
  good_tall = leb→le (width S K) (length l) good_wide.0

  good_below : (x : ℕ) → x < height S K → get_or l x 0 < S.n
  good_below x q = ltb→lt (get_or l x 0) S.n (every_at (λ x. ltb (get_or l x 0) S.n) (length l) (and_both (every (λ c. eqb (get_or l c 0) (first S K + c)) (width S K)) _ good_wide.1).1 x q)

  good_rise : (x : ℕ) → x < height S K - 1 → get_or l x 0 < get_or l (suc x) 0
  good_rise x q = ltb→lt (get_or l x 0) (get_or l (suc x) 0) (every_at (λ x. ltb (get_or l x 0) (get_or l (suc x) 0)) (length l - 1) good.0 x q)

  -- rows that rise strictly and stay below n are at most n
  good_few : height S K ≤ S.n
  good_few = go (length l) refl
    where
      go : (m : ℕ) → length l ≡ m → m ≤ S.n
      go zero e = omega arith
      go (suc m) e = omega (arith, grows (λ x. get_or l x 0) m (λ x q. good_rise x (omega arith)), good_below m (omega arith))

-- ---- together

module _ (R : Record) (S : Shape) (fit : Fitted R S) (hc : T (rising_columns R S)) where
  many : supernodes S ≡ R.supernodes
  many = omega (arith, fit.firsts)

  pub framed : T (rising_starts R S.starts) → Framed S
  framed hs = record {
    some = omega (arith, fit.firsts);
    long = omega (arith, fit.starts, fit.firsts);
    from = columns_from R S hc;
    rise = λ K l. columns_rise R S hc K (omega (arith, many));
    ends = ap (first S) many ∙ columns_end R S hc ∙ sym fit.columns;
    down = λ K l. starts_down R S.starts hs K (omega (arith, many));
    inside = λ K l. omega (arith, fit.rows, starts_to R S.starts hs (suc K) (omega (arith, many)));
  }

  pub walkable : T (rising_starts R S.starts) → T (every (good_supernode S) R.supernodes) → Walkable S
  walkable hs hg = record {
    framed = framed hs;
    tall = λ K l. good_tall S K (each K l);
    few = λ K l. good_few S K (each K l);
    below = λ K p l q. good_below S K (each K l) p q;
  }
    where
      each : (K : ℕ) → K < supernodes S → T (good_supernode S K)
      each K l = every_at (good_supernode S) R.supernodes hg K (omega (arith, many))

-- (d) in two parts
regroup : (a b c : Bool) → a && (b && c) ≡ (a && b) && c
regroup true b c = refl
regroup false b c = refl

pub rows_parts : (R : Record) (S : Shape) → rising_rows R S ≡ rising_starts R S.starts && every (good_supernode S) R.supernodes
unfolding rising_rows
rows_parts R S = regroup (eqb (get_or S.starts 0 0) 0 && eqb (get_or S.starts R.supernodes 0) R.rows) (every (λ K. leb (get_or S.starts K 0) (get_or S.starts (suc K) 0)) R.supernodes) (every (good_supernode S) R.supernodes)

-- (a)
pub record Roomy (R : Record) (f : FactorAreas) : Type 0 where
  pub small : R.n ≤ 32768
  pub permutation : R.n ≤ length f.permutation
  pub firsts : R.n + 1 ≤ length f.firsts
  pub starts : R.n + 1 ≤ length f.starts
  pub rows : R.rows ≤ length f.rows
  pub values : R.entries ≤ length f.values

pub roomy : (R : Record) (f : FactorAreas) → T (full_record R f) → Roomy R f
unfolding full_record
roomy R f h =
    let a = and_both (is_full R.state && leb R.n columns_limit) _ h in
    let b = and_both (leb R.n (length f.permutation) && leb (R.n + 1) (length f.firsts)) _ a.1 in
    let c = and_both (leb R.n (length f.permutation)) _ b.0 in
    let d = and_both (leb (R.n + 1) (length f.starts)) _ b.1 in
    let e = and_both (leb R.rows (length f.rows)) _ d.1 in
    record {
      small = leb→le R.n 32768 (and_both (is_full R.state) _ a.0).1;
      permutation = leb→le R.n (length f.permutation) c.0;
      firsts = leb→le (R.n + 1) (length f.firsts) c.1;
      starts = leb→le (R.n + 1) (length f.starts) d.0;
      rows = leb→le R.rows (length f.rows) e.0;
      values = leb→le R.entries (length f.values) e.1;
    }

-- all but (b)
pub fitted : (R : Record) (f : FactorAreas) → Roomy R f → R.supernodes ≤ R.n → Fitted R (shape_in R f)
unfolding shape_in
fitted R f r h = record {
  columns = refl;
  firsts = length-take-le (suc R.supernodes) f.firsts (omega (arith, r.firsts));
  starts = length-take-le (suc R.supernodes) f.starts (omega (arith, r.starts));
  rows = length-take-le R.rows f.rows r.rows;
}

-- the lent parts are what the record's counts cut out
pub cut : (R : Record) (f : FactorAreas) → laid R.n (take (R.supernodes + 1) f.firsts) (take (R.supernodes + 1) f.starts) (take R.rows f.rows) ≡ shape_in R f
unfolding shape_in
cut R f = ap (λ m. laid R.n (take m f.firsts) (take m f.starts) (take R.rows f.rows)) (add-one R.supernodes)

pub record Viewed (R : Record) (f : FactorAreas) : Type 0 where
  pub roomy : Roomy R f
  pub fitted : Fitted R (shape_in R f)
  pub few : R.supernodes ≤ R.n
  pub walkable : Walkable (shape_in R f)
  pub entries : R.entries ≡ offset (shape_in R f) R.supernodes

pub viewed : (R : Record) (f : FactorAreas) → T (viewable R f) → Viewed R f
unfolding viewable
viewed R f h =
    let S = shape_in R f in
    let a = and_both (full_record R f) _ h in
    let b = and_both (rising_columns R S) _ a.1 in
    let c = and_both (rising_rows R S) _ b.1 in
    let d = and_both (rising_starts R S.starts) (every (good_supernode S) R.supernodes) (rw (rows_parts R S) at c.0) in
    let r = roomy R f a.0 in
    let k = columns_few R S b.0 in
    let t = fitted R f r k in
    record {
      roomy = r;
      fitted = t;
      few = k;
      walkable = walkable R S t b.0 d.0 d.1;
      entries = unfold sized in eqb→eq R.entries (offset S R.supernodes) c.1;
    }

-- all
pub record Ready (R : Record) (f : FactorAreas) : Type 0 where
  pub viewed : Viewed R f
  pub permuted : Permuted R.n f.permutation

pub ready : (R : Record) (f : FactorAreas) → T (solvable R f) → Ready R f
unfolding solvable
ready R f h =
    let a = and_both (viewable R f) (permutes R.n f.permutation) h in
    let v = viewed R f a.0 in
    record { viewed = v; permuted = permuted R.n f.permutation v.roomy.permutation a.1 }
