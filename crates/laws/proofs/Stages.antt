-- Tests in order: what each answers exactly when, put together once for all calls. Assumes nothing.
use mathlib.Core.Path.{◌≡◌, refl, sym, ap, ◌∙◌, subst}
use mathlib.Core.Logic.Iff
use mathlib.Core.Logic.{◌⊎◌, inl, inr, ⊎_elim, ◌≢◌, ◌↔◌}
use mathlib.Core.Bool.{Bool, true, false, cond, not, ◌&&◌}
use mathlib.Core.List.{List, [], ◌∷◌, ◌++◌}
use mathlib.Core.Option.{Option, none, some}
use Prim.Native.Nat.{ℕ, zero, suc, ◌≤◌, ◌<◌}
use native.Mathlib.Omega.{arith}
use native.Mathlib.Nat.{not-suc-le-zero}
use lib.Dec.{T, T_not, ltb, eqb, ltb→lt, nltb→le, eqb→eq}
use lib.ListN.{length}
use Rattle.statement.specs.Lists.{has, least}
use Rattle.statement.specs.Answers.{number, test, or_else}
use Rattle.laws.specs.Answered.{answered}
use Rattle.statement.specs.Areas.{Need, short}
use Rattle.laws.specs.Given.{First, nth, Met, Lowest}
use Rattle.laws.proofs.Bools.{or_cases, or_left, or_right, and_both, eqb_of, le-or-lt, lt_or_le, ltb_reads, nltb_reads}
use Rattle.laws.proofs.Fill.{least_is}
use Rattle.statement.specs.declared.Answer.{Answer}
use Rattle.statement.specs.declared.Answer.TheVariants.{Accepted, ShortArea}

pub or_iff : {A B C D : Type 0} → A ↔ C → B ↔ D → (A ⊎ B) ↔ (C ⊎ D)
or_iff p q = (⊎_elim (λ x. inl (p.0 x)) (λ y. inr (q.0 y)), ⊎_elim (λ x. inl (p.1 x)) (λ y. inr (q.1 y)))

-- ---- the first that passes

pub some_none : {A : Type 0} {a : A} → some a ≡ none → ⊥
some_none e = let z : ◌≡◌ {A = ℕ} 0 1 = cc in omega arith

-- x is c of the first number below m of which P holds
abbrev pub Found : {A : Type 0} → (ℕ → Type 0) → ℕ → (ℕ → A) → A → Type 0
Found P m c x = (k : ℕ) × First P m k × (x ≡ c k)

-- a number that is told by c
pub named_is : {A : Type 0} (W : ℕ → Type 0) (c : ℕ → A) → ((j k : ℕ) → c j ≡ c k → j ≡ k) → (q : ℕ) → ((k : ℕ) × W k × (c q ≡ c k)) ↔ W q
named_is W c one q = (λ z. subst W (one z.0 q (sym z.2)) z.1, λ w. (q, w, refl))

pub found_same : {A : Type 0} (P P' : ℕ → Type 0) (m : ℕ) (c : ℕ → A) (x : A) → ((i : ℕ) → i < m → P i ↔ P' i) → Found P m c x ↔ Found P' m c x
found_same P P' m c x h = (go P P' (λ i l. (h i l).0) (λ i l. (h i l).1), go P' P (λ i l. (h i l).1) (λ i l. (h i l).0))
  where
    go : (P P' : ℕ → Type 0) → ((i : ℕ) → i < m → P i → P' i) → ((i : ℕ) → i < m → P' i → P i) → Found P m c x → Found P' m c x
    go P P' to from (k, f, e) = (k, record { below = f.below; holds = to k f.below f.holds; before = λ i l p. f.before i l (from i (omega (arith, f.below)) p) }, e)

-- a search along a list: the head, or else the tail
pub found_step : {A : Type 0} (P : ℕ → Type 0) (m : ℕ) (c c' : ℕ → A) (x : A) (b : Bool) (rest : Option A) → T b ↔ P 0 → ((i : ℕ) → c (suc i) ≡ c' i)
    → (rest ≡ some x) ↔ Found (λ i. P (suc i)) m c' x → (cond b (some (c 0)) rest ≡ some x) ↔ Found P (suc m) c x
found_step P m c c' x true rest t s r = (
  λ e. (0, record { below = omega arith; holds = t.0 tt; before = λ i l. absurd (not-suc-le-zero l) }, cc),
  λ h. head h.0 h.1 h.2,
)
  where
    head : (k : ℕ) → First P (suc m) k → x ≡ c k → some (c 0) ≡ some x
    head zero f e = cc
    head (suc k) f e = absurd (f.before 0 (omega arith) (t.0 tt))
found_step P m c c' x false rest t s r = (λ e. tail (r.0 e), λ h. back h.0 h.1 h.2)
  where
    tail : Found (λ i. P (suc i)) m c' x → Found P (suc m) c x
    tail (k, f, e) = (suc k, record { below = omega (arith, f.below); holds = f.holds; before = before }, e ∙ sym (s k))
      where
        before : (i : ℕ) → i < suc k → P i → ⊥
        before zero l p = t.1 p
        before (suc i) l p = f.before i (omega arith) p

    back : (k : ℕ) → First P (suc m) k → x ≡ c k → rest ≡ some x
    back zero f e = absurd (t.1 f.holds)
    back (suc k) f e = r.1 (k, record { below = omega (arith, f.below); holds = f.holds; before = λ i l p. f.before (suc i) (omega arith) p }, e ∙ s k)

-- ---- a stage: the tests f, made once K has passed, after which Q has; they answer numbers of ns alone, and x exactly when `When x`

pub record Stage (K : Type 0) (f : Option Answer) (ns : List ℕ) (Q : Type 0) : Type 1 where
  pub When : Answer → Type 0
  pub given : (x : Answer) → (K × (f ≡ some x)) ↔ When x
  pub passed : (K × (f ≡ none)) ↔ Q
  pub numbers : K → (x : Answer) → f ≡ some x → T (has (number x) ns)

-- of two conditions, those that are possible
abbrev pub pick : Bool → Bool → Type 0 → Type 0 → Type 0
pick true true A B = A ⊎ B
pick true false A B = A
pick false true A B = B
pick false false A B = ⊥

pick_left : (A B : Type 0) (a b : Bool) → T a → A → pick a b A B
pick_left A B true true t x = inl x
pick_left A B true false t x = x
pick_left A B false b t x = absurd t

pick_right : (A B : Type 0) (a b : Bool) → T b → B → pick a b A B
pick_right A B true true t x = inr x
pick_right A B false true t x = x
pick_right A B a false t x = absurd t

pick_cases : (A B : Type 0) (a b : Bool) → pick a b A B → A ⊎ B
pick_cases A B true true x = x
pick_cases A B true false x = inl x
pick_cases A B false true x = inr x
pick_cases A B false false x = absurd x

pub has_before : (m : ℕ) (ns ms : List ℕ) → T (has m ns) → T (has m (ns ++ ms))
unfolding has
has_before m [] ms t = absurd t
has_before m (n ∷ ns) ms t = ⊎_elim (or_left (eqb n m) _) (λ u. or_right (eqb n m) _ (has_before m ns ms u)) (or_cases (eqb n m) (has m ns) t)

pub has_after : (m : ℕ) (ns ms : List ℕ) → T (has m ms) → T (has m (ns ++ ms))
unfolding has
has_after m [] ms t = t
has_after m (n ∷ ns) ms t = or_right (eqb n m) _ (has_after m ns ms t)

module _ {K Q Q' : Type 0} {ns ms : List ℕ} where
  abbrev pub Either : {f g : Option Answer} → Stage K f ns Q → Stage Q g ms Q' → Answer → Type 0
  Either a b x = pick (has (number x) ns) (has (number x) ms) (a.When x) (b.When x)

  pub chain_given : (f g : Option Answer) (a : Stage K f ns Q) (b : Stage Q g ms Q') (x : Answer) → (K × (or_else f g ≡ some x)) ↔ Either a b x
  unfolding or_else
  chain_given none g a b x = (
    λ h. let q = a.passed.0 (h.0, refl) in pick_right (a.When x) (b.When x) (has (number x) ns) (has (number x) ms) (b.numbers q x h.1) ((b.given x).0 (q, h.1)),
    λ h. ⊎_elim (λ p. absurd (some_none (sym ((a.given x).1 p).1))) (λ p. let z = (b.given x).1 p in ((a.passed.1 z.0).0, z.1)) (pick_cases (a.When x) (b.When x) (has (number x) ns) (has (number x) ms) h),
  )
  chain_given (some y) g a b x = (
    λ h. pick_left (a.When x) (b.When x) (has (number x) ns) (has (number x) ms) (a.numbers h.0 x h.1) ((a.given x).0 h),
    λ h. ⊎_elim (λ p. (a.given x).1 p) (λ p. absurd (some_none (a.passed.1 ((b.given x).1 p).0).1)) (pick_cases (a.When x) (b.When x) (has (number x) ns) (has (number x) ms) h),
  )

  pub chain_passed : (f g : Option Answer) (a : Stage K f ns Q) (b : Stage Q g ms Q') → (K × (or_else f g ≡ none)) ↔ Q'
  unfolding or_else
  chain_passed none g a b = (λ h. b.passed.0 (a.passed.0 (h.0, refl), h.1), λ h. let z = b.passed.1 h in ((a.passed.1 z.0).0, z.1))
  chain_passed (some y) g a b = (λ h. absurd (some_none h.1), λ h. absurd (some_none (a.passed.1 (b.passed.1 h).0).1))

  pub chain_numbers : (f g : Option Answer) (a : Stage K f ns Q) (b : Stage Q g ms Q') → K → (x : Answer) → or_else f g ≡ some x → T (has (number x) (ns ++ ms))
  unfolding or_else
  chain_numbers none g a b k x e = has_after (number x) ns ms (b.numbers (a.passed.0 (k, refl)) x e)
  chain_numbers (some y) g a b k x e = has_before (number x) ns ms (a.numbers k x e)

  abbrev pub chain : {f g : Option Answer} → Stage K f ns Q → Stage Q g ms Q' → Stage K (or_else f g) (ns ++ ms) Q'
  chain {f} {g} a b = record { When = Either a b; given = chain_given f g a b; passed = chain_passed f g a b; numbers = chain_numbers f g a b }

-- a stage whose tests come to the same
abbrev pub renamed : {K Q : Type 0} {ns : List ℕ} {f f' : Option Answer} → f' ≡ f → Stage K f ns Q → Stage K f' ns Q
renamed e s = record {
  When = s.When;
  given = λ x. (λ y. (s.given x).0 (y.0, sym e ∙ y.1), λ y. let z = (s.given x).1 y in (z.0, e ∙ z.1));
  passed = (λ y. s.passed.0 (y.0, sym e ∙ y.1), λ y. let z = s.passed.1 y in (z.0, e ∙ z.1));
  numbers = λ k x y. s.numbers k x (sym e ∙ y);
}

pub test_or : (b : Bool) (c : Answer) (rest : Option Answer) → test b c rest ≡ or_else (test b c none) rest
unfolding test or_else
test_or true c rest = refl
test_or false c rest = refl

-- a test and the rest
abbrev pub testing : {K Q Q' : Type 0} {ns ms : List ℕ} {g : Option Answer} (b : Bool) (c : Answer) → Stage K (test b c none) ns Q → Stage Q g ms Q' → Stage K (test b c g) (ns ++ ms) Q'
testing {g} b c s t = renamed (test_or b c g) (chain s t)

-- ---- what one test, a search and a list of needs answer, whatever has passed

pub record Answers (f : Option Answer) (ns : List ℕ) (P : Answer → Type 0) (Q : Type 0) : Type 0 where
  pub given : (x : Answer) → (f ≡ some x) ↔ P x
  pub passed : (f ≡ none) ↔ Q
  pub numbers : (x : Answer) → P x → T (has (number x) ns)

module _ {Q : Type 0} {f : Option Answer} {ns : List ℕ} {P : Answer → Type 0} where
  -- as the first stage
  abbrev pub opening : Answers f ns P Q → Stage Unit f ns Q
  opening s = record {
    When = P;
    given = λ x. (λ y. (s.given x).0 y.1, λ y. (tt, (s.given x).1 y));
    passed = (λ y. s.passed.0 y.1, λ y. (tt, s.passed.1 y));
    numbers = λ _ x e. s.numbers x ((s.given x).0 e);
  }

  -- once K has passed
  abbrev pub after : {K : Type 0} → (K → Answers f ns P Q) → Stage K f ns (K × Q)
  after {K} s = record {
    When = λ x. K × P x;
    given = λ x. (λ y. (y.0, ((s y.0).given x).0 y.1), λ y. (y.0, ((s y.0).given x).1 y.1));
    passed = (λ y. (y.0, (s y.0).passed.0 y.1), λ y. (y.0, (s y.0).passed.1 y.1));
    numbers = λ k x e. (s k).numbers x (((s k).given x).0 e);
  }

pub number_has : (a x : Answer) → x ≡ a → T (has (number x) (number a ∷ []))
unfolding has
number_has a x e = or_left (eqb (number a) (number x)) false (eqb_of (sym (ap number e)))

pub test_answers : {B Q : Type 0} (b : Bool) (a : Answer) → T b ↔ B → T (not b) ↔ Q → Answers (test b a none) (number a ∷ []) (λ x. B × (x ≡ a)) Q
unfolding test
test_answers true a t n = record {
  given = λ x. (λ e. (t.0 tt, cc), λ h. ap some (sym h.1));
  passed = (λ e. absurd (some_none e), λ q. absurd (n.1 q));
  numbers = λ x h. number_has a x h.1;
}
test_answers false a t n = record {
  given = λ x. (λ e. absurd (some_none (sym e)), λ h. absurd (t.1 h.0));
  passed = (λ _. n.0 tt, λ _. refl);
  numbers = λ x h. number_has a x h.1;
}

-- a search that comes to `at`: the first number below m of which P holds, if there is one
module _ (P : ℕ → Type 0) (m at : ℕ) (holds : at < m → P at) (before : (i : ℕ) → i < at → i < m → P i → ⊥) (c : ℕ → Answer) where
  found_at : (x : Answer) → ((at < m) × (x ≡ c at)) ↔ Found P m c x
  found_at x = (
    λ h. (at, record { below = h.0; holds = holds h.0; before = λ i l. before i l (omega (arith, h.0)) }, h.1),
    λ (k, g, e). let q = same k g in (omega (arith, g.below), e ∙ ap c q),
  )
    where
      same : (k : ℕ) → First P m k → k ≡ at
      same k g = ⊎_elim
          (λ (l : k ≤ at). ⊎_elim (λ (u : at ≤ k). omega arith) (λ (u : k < at). absurd (before k u g.below g.holds)) (le-or-lt at k))
          (λ (l : at < k). absurd (g.before at l (holds (omega (arith, g.below))))) (le-or-lt k at)

  none_at : (m ≤ at) ↔ ((i : ℕ) → i < m → P i → ⊥)
  none_at = (λ h i l. before i (omega arith) l, λ h. ⊎_elim (λ (l : at < m). absurd (h at l (holds l))) (λ (l : m ≤ at). l) (lt_or_le at m))

  pub search_answers : Answers (test (ltb at m) (c at) none) (number (c at) ∷ []) (Found P m c) ((i : ℕ) → i < m → P i → ⊥)
  search_answers =
      let s = test_answers (ltb at m) (c at) (ltb_reads at m) (nltb_reads at m) in
      record {
        given = λ x. Iff.trans (s.given x) (found_at x);
        passed = Iff.trans s.passed none_at;
        numbers = λ x h. s.numbers x ((found_at x).1 h);
      }

pub least_answers : (f : ℕ → Bool) (P : ℕ → Type 0) → ((i : ℕ) → T (f i) ↔ P i) → (m : ℕ) (c : ℕ → Answer)
    → Answers (test (ltb (least f 0 m) m) (c (least f 0 m)) none) (number (c (least f 0 m)) ∷ []) (Found P m c) ((i : ℕ) → i < m → P i → ⊥)
least_answers f P reads m c =
    let s = least_is f 0 m in
    search_answers P m (least f 0 m) (λ h. (reads (least f 0 m)).0 (s.at (omega arith))) (λ i l _ p. s.none i (omega arith) l ((reads i).1 p)) c

abbrev pub named : List Need → ℕ → Answer
named l k = ShortArea (nth l k).area (nth l k).need

abbrev pub Short : List Need → ℕ → Type 0
Short l k = (nth l k).length < (nth l k).need

short_given : (l : List Need) (x : Answer) → (short l ≡ some x) ↔ Found (Short l) (length l) (named l) x
unfolding short
short_given [] x = (λ e. absurd (some_none (sym e)), λ h. absurd (not-suc-le-zero h.1.below))
short_given (y ∷ l) x = found_step (Short (y ∷ l)) (length l) (named (y ∷ l)) (named l) x (ltb y.length y.need) (short l) (ltb_reads y.length y.need) (λ i. refl) (short_given l x)

pub short_passed : (l : List Need) → (short l ≡ none) ↔ Met l
unfolding short
short_passed [] = (λ e k h. absurd (not-suc-le-zero h), λ h. refl)
short_passed (y ∷ l) = go (ltb y.length y.need) refl (short_passed l)
  where
    go : (b : Bool) → ltb y.length y.need ≡ b → (short l ≡ none) ↔ Met l → (cond b (some (ShortArea y.area y.need)) (short l) ≡ none) ↔ Met (y ∷ l)
    go true q r = (λ e. absurd (some_none e), λ h. absurd (omega (arith, h 0 (omega arith), ltb→lt y.length y.need (rw q tt))))
    go false q r = (λ e. met (r.0 e), λ h. r.1 (λ k l. h (suc k) (omega arith)))
      where
        met : Met l → Met (y ∷ l)
        met h zero u = nltb→le y.length y.need (rw q tt)
        met h (suc k) u = h k (omega arith)

pub short_answers : (l : List Need) → Answers (short l) (5 ∷ []) (Found (Short l) (length l) (named l)) (Met l)
short_answers l = record { given = short_given l; passed = short_passed l; numbers = λ x h. number_has (named l h.0) x h.2 }

pub lowest : (l : List Need) (a d : ℕ) → Found (Short l) (length l) (named l) (ShortArea a d) ↔ Lowest l a d
lowest l a d = (λ h. record { place = h.0; first = h.1; area = fst h.0 h.2; need = snd h.0 h.2 }, λ h. (h.place, h.first, named_of h.place h.area h.need))
  where
    fst : (k : ℕ) → ShortArea a d ≡ named l k → a ≡ (nth l k).area
    fst k e = cc

    snd : (k : ℕ) → ShortArea a d ≡ named l k → d ≡ (nth l k).need
    snd k e = cc

    named_of : (k : ℕ) → a ≡ (nth l k).area → d ≡ (nth l k).need → ShortArea a d ≡ named l k
    named_of k p q = cc

-- ---- what a call answers

zero_has : (x : Answer) (ns : List ℕ) → T (not (has 0 ns)) → T (has (number x) ns) → x ≢ Accepted
zero_has x ns n h e = T_not (has 0 ns) n (let z : number x ≡ 0 = ap number e in rw z at h)

module _ {Q : Type 0} {ns : List ℕ} where
  pub reply : (f : Option Answer) (s : Stage Unit f ns Q) (x : Answer) → number x ≢ 0 → (answered f ≡ x) ↔ s.When x
  unfolding answered
  reply none s x ne = (λ e. absurd (ne (ap number (sym e))), λ h. absurd (some_none (sym ((s.given x).1 h).1)))
  reply (some y) s x ne = (λ e. (s.given x).0 (tt, ap some e), λ h. let e : some y ≡ some x = ((s.given x).1 h).1 in cc)

  pub reply_accepted : (f : Option Answer) → Stage Unit f ns Q → T (not (has 0 ns)) → (answered f ≡ Accepted) ↔ Q
  unfolding answered
  reply_accepted none s n = (λ _. s.passed.0 (tt, refl), λ _. refl)
  reply_accepted (some y) s n = (λ e. absurd (zero_has y ns n (s.numbers tt y refl) e), λ q. absurd (some_none (s.passed.1 q).1))

  pub reply_number : (f : Option Answer) → Stage Unit f ns Q → T (has (number (answered f)) (0 ∷ ns))
  unfolding answered has
  reply_number none s = tt
  reply_number (some y) s = or_right (eqb 0 (number y)) _ (s.numbers tt y refl)

-- a list of numbers within another
unfoldable pub inside : List ℕ → List ℕ → Bool
inside [] ms = true
inside (n ∷ ns) ms = has n ms && inside ns ms

pub has_inside : (m : ℕ) (ns ms : List ℕ) → T (inside ns ms) → T (has m ns) → T (has m ms)
unfolding inside has
has_inside m [] ms t h = absurd h
has_inside m (n ∷ ns) ms t h =
    let u = and_both (has n ms) (inside ns ms) t in
    ⊎_elim (λ e. rw (eqb→eq n m e) at u.0) (λ k. has_inside m ns ms u.1 k) (or_cases (eqb n m) (has m ns) h)
