-- Numbers 8 and 9: the position and the column that a list and its first t come to. Assumes nothing.
use mathlib.Core.Path.{◌≡◌, refl, sym, ap, ◌∙◌}
use mathlib.Core.Logic.{◌⊎◌, inl, inr, ⊎_elim, ◌↔◌}
use mathlib.Core.Bool.{Bool, true, false, cond, not, ◌&&◌, ◌||◌}
use mathlib.Core.List.{List, [], ◌∷◌}
use mathlib.Core.Option.{none, some}
use Prim.Native.Nat.{ℕ, zero, suc, ◌+◌, ◌≤◌, ◌<◌, min}
use native.Mathlib.Omega.{arith}
use native.Mathlib.Nat.{not-suc-le-zero}
use lib.Dec.{T, T_not, not_T, ltb, eqb, leb, eqb→eq, eqb_refl, leb→le, le→leb, ltb→lt, nltb→le}
use lib.ListN.{length, get_or, take}
use lib.Ieee.{Float}
use borrow.Author.Tests.{eqb-true, leb-true}
use Rattle.statement.specs.Lists.{has, least}
use Rattle.statement.specs.Shape.{Shape, supernodes, parent_of}
use Rattle.statement.specs.Run.{State, start, Fate, done, failed, skipped, fate, run, ready, first_bad, order_fault, blocked}
use Rattle.statement.specs.Demands.{Names, Breaks}
use Rattle.statement.specs.declared.Factored.{Factored}
use Rattle.laws.specs.Built.{Sound}
use Rattle.laws.specs.Given.{First, Before, BadEntry, WrongAt}
use Rattle.laws.proofs.Fails.{fails_exactly}
use Rattle.laws.proofs.Order.{named, fails, least_of, least_of_le}
use Rattle.laws.proofs.Demand.{inv, least_of_mem, ready_reads}
use Rattle.laws.proofs.Names.{names_good, in_order}
use Rattle.laws.proofs.Bools.{or_cases, or_left, or_right, eqb_of, T_dec, T_true, le-or-lt, and_l, and_r, eqb_reads, nltb_reads}
use Rattle.laws.proofs.Stages.{some_none, Found, found_same, found_step}

-- ---- number 8

-- those named before position k of the list r, after those on a
abbrev seen : List ℕ → List ℕ → ℕ → List ℕ
seen a r k = named a (take k r)

seen_reads : (x : ℕ) (a r : List ℕ) (k : ℕ) → k ≤ length r → T (has x (seen a r k)) ↔ (T (has x a) ⊎ Before r k x)
unfolding has
seen_reads x a r zero h = (inl, ⊎_elim (λ t. t) (λ z. absurd (not-suc-le-zero z.1)))
seen_reads x a [] (suc k) h = absurd (not-suc-le-zero h)
seen_reads x a (J ∷ r) (suc k) h = go (seen_reads x (J ∷ a) r k (omega arith))
  where
    first : T (eqb J x || has x a) → T (has x a) ⊎ Before (J ∷ r) (suc k) x
    first t = ⊎_elim (λ e. inr (0, omega arith, eqb→eq J x e)) inl (or_cases (eqb J x) (has x a) t)

    back : (y : ℕ) → y < suc k → get_or (J ∷ r) y 0 ≡ x → T (eqb J x || has x a) ⊎ Before r k x
    back zero l e = inl (or_left (eqb J x) _ (eqb_of e))
    back (suc y) l e = inr (y, omega arith, e)

    go : T (has x (seen (J ∷ a) r k)) ↔ (T (eqb J x || has x a) ⊎ Before r k x) → T (has x (seen (J ∷ a) r k)) ↔ (T (has x a) ⊎ Before (J ∷ r) (suc k) x)
    go s = (
      λ t. ⊎_elim first (λ z. inr (suc z.0, omega (arith, z.1), z.2)) (s.0 t),
      λ t. s.1 (⊎_elim (λ u. inl (or_right (eqb J x) _ u)) (λ z. back z.0 z.1 z.2) t),
    )

-- a test of three parts fails
parts : (a b c : Bool) → T (not (a && not b && c)) ↔ (T (not a) ⊎ (T b ⊎ (T a × T (not c))))
parts true true c = (λ _. inr (inl tt), λ _. tt)
parts true false c = (λ t. inr (inr (tt, t)), ⊎_elim (λ u. absurd u) (⊎_elim (λ u. absurd u) (λ u. u.1)))
parts false b c = (λ _. inl tt, λ _. tt)

before_reads : (x : ℕ) (r : List ℕ) (k : ℕ) → k ≤ length r → T (has x (seen [] r k)) ↔ Before r k x
unfolding has
before_reads x r k h = let s = seen_reads x [] r k h in (λ t. ⊎_elim (λ u. absurd u) (λ z. z) (s.0 t), λ z. s.1 (inr z))

module _ (S : Shape) where
  unfoldable good : List ℕ → ℕ → Bool
  good a J = ltb J (supernodes S) && not (has J a) && ready S a J J

  abbrev Bad : List ℕ → List ℕ → ℕ → Type 0
  Bad a r k = T (not (good (seen a r k) (get_or r k 0)))

  -- the search as the first bad entry
  bad_given : (a r : List ℕ) (p q : ℕ) → (first_bad S a r p ≡ some q) ↔ Found (Bad a r) (length r) (λ k. p + k) q
  unfolding first_bad good
  bad_given a [] p q = (λ e. absurd (some_none (sym e)), λ h. absurd (not-suc-le-zero h.1.below))
  bad_given a (J ∷ r) p q = rw (swap (good a J)) (found_step (Bad a (J ∷ r)) (length r) (λ k. p + k) (λ k. suc p + k) q (not (good a J)) (first_bad S (J ∷ a) r (suc p)) (λ t. t, λ t. t) (λ i. omega arith) (bad_given (J ∷ a) r (suc p) q))
    where
      swap : (b : Bool) → cond b (first_bad S (J ∷ a) r (suc p)) (some p) ≡ cond (not b) (some (p + 0)) (first_bad S (J ∷ a) r (suc p))
      swap true = refl
      swap false = ap some (omega arith)

  good_none : (a r : List ℕ) (p : ℕ) → first_bad S a r p ≡ none → (k : ℕ) → k < length r → Bad a r k → ⊥
  unfolding first_bad good
  good_none a [] p e k h b = absurd (not-suc-le-zero h)
  good_none a (J ∷ r) p e k h b = go (good a J) refl (λ e k h b. good_none (J ∷ a) r (suc p) e k h b) e k h b
    where
      go : (x : Bool) → good a J ≡ x → (first_bad S (J ∷ a) r (suc p) ≡ none → (k : ℕ) → k < length r → Bad (J ∷ a) r k → ⊥) → cond x (first_bad S (J ∷ a) r (suc p)) (some p) ≡ none → (k : ℕ) → k < suc (length r) → Bad a (J ∷ r) k → ⊥
      go false q f e k h b = some_none e
      go true q f e zero h b = rw q at b
      go true q f e (suc k) h b = f e k (omega arith) b

  module _ (up : (K : ℕ) → K < supernodes S → K < parent_of S K) (l : List ℕ) where
    bad_reads : (k : ℕ) → k < length l → Bad [] l k ↔ BadEntry S l k
    unfolding good has
    bad_reads k h = (
      λ t. ⊎_elim
          (λ u. inl (nltb→le J (supernodes S) u))
          (⊎_elim (λ u. inr (inl ((on J).0 u))) (λ u.
          let z = (ready_reads S (seen [] l k) J J).0 u.1 in
          inr (inr (z.0, omega (arith, z.1, ltb→lt J (supernodes S) u.0), z.2, λ b. T_not (has z.0 (seen [] l k)) z.3 ((on z.0).1 b)))))
          ((parts (ltb J (supernodes S)) (has J (seen [] l k)) (ready S (seen [] l k) J J)).0 t),
      λ b. (parts (ltb J (supernodes S)) (has J (seen [] l k)) (ready S (seen [] l k) J J)).1 (⊎_elim
          (λ u. inl ((nltb_reads J (supernodes S)).1 u))
          (⊎_elim (λ u. inr (inl ((on J).1 u))) (λ z. ⊎_elim
          (λ u. inr (inr (u, (ready_reads S (seen [] l k) J J).1 (z.0, omega (arith, up z.0 z.1, z.2), z.2, not_T (has z.0 (seen [] l k)) (λ t. z.3 ((on z.0).0 t))))))
          inl (T_dec (ltb J (supernodes S)))))
          b),
    )
      where
        J : ℕ
        J = get_or l k 0

        on : (x : ℕ) → T (has x (seen [] l k)) ↔ Before l k x
        on x = before_reads x l k (omega arith)

    -- number 8's position
    pub order_given : (t p : ℕ) → (order_fault S l t ≡ some p) ↔ WrongAt S l t p
    unfolding order_fault
    order_given t p = go (eqb (length l) (supernodes S)) (leb t (supernodes S)) (eqb_reads (length l) (supernodes S)) (leb→le t (supernodes S), le→leb t (supernodes S))
      where
        entries : (first_bad S [] l 0 ≡ some p) ↔ First (BadEntry S l) (length l) p
        entries = (
          λ e.
              let z = (found_same (Bad [] l) (BadEntry S l) (length l) (λ k. 0 + k) p bad_reads).0 ((bad_given [] l 0 p).0 e) in
              let q : z.0 ≡ p = omega (arith, z.2) in
              rw q at z.1,
          λ f. (bad_given [] l 0 p).1 ((found_same (Bad [] l) (BadEntry S l) (length l) (λ k. 0 + k) p bad_reads).1 (p, f, omega arith)),
        )

        go : (a b : Bool) → T a ↔ (length l ≡ supernodes S) → T b ↔ (t ≤ supernodes S) → (cond (a && b) (first_bad S [] l 0) (some (supernodes S)) ≡ some p) ↔ WrongAt S l t p
        go true true x y = (
          λ e. inr ((x.0 tt, y.0 tt), entries.0 e),
          ⊎_elim (λ u. absurd (⊎_elim (λ ne. ne (x.0 tt)) (λ (h : supernodes S < t). absurd (omega (arith, y.0 tt))) u.0)) (λ u. entries.1 u.1),
        )
        go true false x y = (
          λ e. inl (inr (⊎_elim (λ (h : t ≤ supernodes S). absurd (y.1 h)) (λ (h : supernodes S < t). h) (le-or-lt t (supernodes S))), cc),
          ⊎_elim (λ u. ap some (sym u.1)) (λ u. absurd (y.1 u.0.1)),
        )
        go false b x y = (λ e. inl (inl (λ q. x.1 q), cc), ⊎_elim (λ u. ap some (sym u.1)) (λ u. absurd (x.1 u.0.0)))

    names_of : first_bad S [] l 0 ≡ none → length l ≡ supernodes S → Names S l
    names_of e all = record {
      all = all;
      inside = λ x h. ⊎_elim (λ (u : supernodes S ≤ get_or l x 0). absurd (bad x h (inl u))) (λ (u : get_or l x 0 < supernodes S). u) (le-or-lt (supernodes S) (get_or l x 0));
      once = λ x y u h q. bad y h (inr (inl (x, u, q)));
      children = λ x K h k q. ⊎_elim (λ t. (before_reads K l x (omega arith)).0 t)
          (λ t. absurd (bad x h (inr (inr (K, k, q, λ z. T_not (has K (seen [] l x)) t ((before_reads K l x (omega arith)).1 z))))))
          (T_dec (has K (seen [] l x)));
    }
      where
        bad : (k : ℕ) → k < length l → BadEntry S l k → ⊥
        bad k h b = good_none [] l 0 e k h ((bad_reads k h).1 b)

    -- number 8 is not answered exactly when the list names each supernode once, children before parents, and t is not above their number
    pub order_exactly : (t : ℕ) → (order_fault S l t ≡ none) ↔ (Names S l × (t ≤ supernodes S))
    unfolding order_fault
    order_exactly t = (
      go (eqb (length l) (supernodes S) && leb t (supernodes S)) refl,
      λ m. in_order S up l t m.0.all m.1 (names_good S up l m.0),
    )
      where
        go : (b : Bool) → eqb (length l) (supernodes S) && leb t (supernodes S) ≡ b → cond b (first_bad S [] l 0) (some (supernodes S)) ≡ none → Names S l × (t ≤ supernodes S)
        go false q e = absurd (some_none e)
        go true q e = (names_of e (eqb-true (length l) (supernodes S) (and_l _ _ q)), leb-true t (supernodes S) (and_r (eqb (length l) (supernodes S)) _ q))

-- ---- number 9

least_failed : (n : ℕ) (f : ℕ → Fate) (l : List ℕ) → least_of n f l < n → (K : ℕ) × T (has K l) × (f K ≡ failed (record { 0 = least_of n f l }))
unfolding least_of has
least_failed n f [] h = absurd (omega arith)
least_failed n f (J ∷ l) h = go (f J) refl h (least_failed n f l)
  where
    m : ℕ
    m = least_of n f l

    old : (k : ℕ) → k ≡ m → k < n → (m < n → (K : ℕ) × T (has K l) × (f K ≡ failed (record { 0 = m }))) → (K : ℕ) × T (eqb J K || has K l) × (f K ≡ failed (record { 0 = k }))
    old k q h ih = let z = ih (omega arith) in rw q (z.0, or_right (eqb J z.0) _ z.1, z.2)

    go : (x : Fate) → f J ≡ x → min (fails n x) m < n → (m < n → (K : ℕ) × T (has K l) × (f K ≡ failed (record { 0 = m }))) → (K : ℕ) × T (eqb J K || has K l) × (f K ≡ failed (record { 0 = min (fails n x) m }))
    go (done g) e h ih = old (min n m) (omega (arith, least_of_le n f l)) h ih
    go skipped e h ih = old (min n m) (omega (arith, least_of_le n f l)) h ih
    go (failed c) e h ih = ⊎_elim
        (λ (u : c.0 ≤ m). let q : min c.0 m ≡ c.0 = omega arith in rw q (J, or_left (eqb J J) _ (eqb_refl J), e))
        (λ (u : m < c.0). old (min c.0 m) (omega arith) h ih) (le-or-lt c.0 m)

module _ (S : Shape) (A : ℕ → ℕ → Float) (ok : Sound S) (l : List ℕ) (m : Names S l) (t : ℕ) (h : t ≤ supernodes S) where
  abbrev pub end : State
  end = run S A (start S) (take t l)

  abbrev pub Failing : Factored → Type 0
  Failing c = (K : ℕ) × Before l t K × (blocked S end.halted K K ≡ false) × Breaks S A end.values K c

  low : end.least.0 ≡ least_of S.n (fate S A end) (seen [] l t)
  low = (inv S A ok l (names_good S ok.up l m) t).low

  pub least_fails : end.least.0 < S.n → Failing end.least
  least_fails u =
      let z = least_failed S.n (fate S A end) (seen [] l t) (omega (arith, low)) in
      let x = (fails_exactly S A end z.0 end.least).0 (z.2 ∙ ap (λ c. failed (record { 0 = c })) (sym low)) in
      (z.0, (before_reads z.0 l t (omega (arith, m.all))).0 z.1, x.0, x.1)

  pub none_fails : (c : Factored) → c.0 < end.least.0 → Failing c → ⊥
  none_fails c u z = absurd (omega (arith, low, rw ((fails_exactly S A end z.0 c).1 (z.2, z.3)) at (least_of_mem S.n (fate S A end) (seen [] l t) z.0 (T_true _ ((before_reads z.0 l t (omega (arith, m.all))).1 z.1)))))
