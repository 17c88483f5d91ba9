-- What becomes of each supernode at its turn, along a list that names each once, children before parents. Assumes nothing.
use mathlib.Core.Path.{◌≡◌, refl, sym, ap, ◌∙◌}
use mathlib.Core.Logic.{◌↔◌, ⊎_elim}
use mathlib.Core.Bool.{Bool, true, false, ◌||◌}
use mathlib.Core.List.{List, [], ◌∷◌}
use mathlib.Core.Option.{none}
use Prim.Native.Nat.{ℕ, zero, suc, ◌≤◌, ◌<◌}
use native.Mathlib.Omega.{arith}
use lib.Dec.{eqb}
use lib.ListN.{length, get_or, take}
use borrow.Author.Tests.{eqb-true}
use lib.Ieee.{Float}
use Rattle.statement.specs.Lists.{has}
use Rattle.statement.specs.Shape.{Shape, supernodes, stretch, zeros}
use Rattle.statement.specs.Run.{State, start, Fate, done, failed, skipped, fate, run, first_bad}
use Rattle.statement.specs.Demands.{Names, Breaks}
use Rattle.statement.specs.Run.{Under, child, deeper}
use Rattle.statement.specs.declared.Factored.{Factored}
use Rattle.laws.specs.Built.{Sound}
use Rattle.laws.proofs.Bools.{le-or-lt}
use Rattle.laws.proofs.Order.{has_same, has_more, never, bits, named, Inv, fate_same}
use Rattle.laws.proofs.Demand.{inv, named_has, stopped_named, bound}
use Rattle.laws.proofs.Fails.{fails_exactly}
use Rattle.laws.proofs.Listed.{least_fails, none_fails}
use Rattle.laws.proofs.Names.{names_good}
use Rattle.laws.proofs.Skip.{skipped_fallen, fallen_skipped}

pub has_at : (l : List ℕ) (y t : ℕ) → y < t → y < length l → has (get_or l y 0) (take t l) ≡ true
unfolding has
has_at [] y t h k = absurd (omega arith)
has_at (x ∷ l) y zero h k = absurd (omega arith)
has_at (x ∷ l) zero (suc t) h k = has_same x (take t l)
has_at (x ∷ l) (suc y) (suc t) h k = has_more (get_or l y 0) x (take t l) (has_at l y t (omega arith) (omega arith))

pub at_has : (l : List ℕ) (t K : ℕ) → has K (take t l) ≡ true → (y : ℕ) × (y < t) × (get_or l y 0 ≡ K)
unfolding has
at_has l zero K e = never e refl
at_has [] (suc t) K e = never e refl
at_has (x ∷ l) (suc t) K e = go (eqb x K) refl (at_has l t K) e
  where
    go : (b : Bool) → eqb x K ≡ b → (has K (take t l) ≡ true → (y : ℕ) × (y < t) × (get_or l y 0 ≡ K)) → b || has K (take t l) ≡ true → (y : ℕ) × (y < suc t) × (get_or (x ∷ l) y 0 ≡ K)
    go true q f e = (0, omega arith, eqb-true x K q)
    go false q f e = let z = f e in (suc z.0, omega (arith, z.1), z.2)

module _ (S : Shape) (A : ℕ → ℕ → Float) (ok : Sound S) (q : List ℕ) (m : Names S q) where
  good : first_bad S [] q 0 ≡ none
  good = names_good S ok.up q m

  abbrev pub Go : ℕ → State
  Go t = run S A (start S) (take t q)

  abbrev pub turn : ℕ → Fate
  turn y = fate S A (Go y) (get_or q y 0)

  -- a descendant is named before
  before_at : {K J : ℕ} → Under S K J → (x : ℕ) → x < length q → J ≡ get_or q x 0 → (y : ℕ) × (y < x) × (get_or q y 0 ≡ K)
  before_at (child {K} {J} k e) x h p = m.children x K h k (e ∙ p)
  before_at (deeper {K} {J} k u) x h p =
      let a = before_at u x h p in
      let b = m.children a.0 K (omega (arith, a.1)) k (sym a.2) in
      (b.0, omega (arith, a.1, b.1), b.2)

  -- the fate at the turn is the fate at the end
  pub turn_is : (t y : ℕ) → y < t → t ≤ supernodes S → turn y ≡ fate S A (Go t) (get_or q y 0)
  turn_is t y h k = fate_same S A ok (Go y) (Go t) (get_or q y 0) (m.inside y (omega (arith, m.all))) (λ D u. same D (before_at u y (omega (arith, m.all)) refl))
    where
      same : (D : ℕ) → (z : ℕ) × (z < y) × (get_or q z 0 ≡ D) → (stretch S (Go y).values D ≡ stretch S (Go t).values D) × (has D (Go y).halted ≡ has D (Go t).halted)
      same D z =
          let a = stopped_named S A ok q good y D (ap (λ x. has x (take y q)) (sym z.2) ∙ has_at q z.0 y z.1 (omega (arith, z.1, m.all))) in
          let b = stopped_named S A ok q good t D (ap (λ x. has x (take t q)) (sym z.2) ∙ has_at q z.0 t (omega (arith, z.1)) (omega (arith, z.1, m.all))) in
          (a.0 ∙ sym b.0, a.1 ∙ sym b.1)

  module _ (t : ℕ) (k : t ≤ supernodes S) where
    i : Inv S A ok (named [] (take t q)) (Go t)
    i = inv S A ok q good t

    on : (y : ℕ) → y < t → has (get_or q y 0) (named [] (take t q)) ≡ true
    on y h = named_has S A ok (take t q) (get_or q y 0) ∙ has_at q y t h (omega (arith, m.all))

    pub breaks : (y : ℕ) (c : Factored) → turn y ≡ failed c → Breaks S A (Go y).values (get_or q y 0) c
    breaks y c e = ((fails_exactly S A (Go y) (get_or q y 0) c).0 e).1

    -- so the column is below n
    pub low : (y : ℕ) (c : Factored) → y < t → turn y ≡ failed c → c.0 < S.n
    low y c h e =
        let b = breaks y c e in
        omega (arith, b.under, b.is, bound S A ok (Go y) (get_or q y 0) (m.inside y (omega (arith, m.all))))

    pub skips : (y : ℕ) → y < t → (turn y ≡ skipped) ↔ ((x : ℕ) × (c : Factored) × (x < y) × Under S (get_or q x 0) (get_or q y 0) × (turn x ≡ failed c))
    skips y h = (to, from)
      where
        J : ℕ
        J = get_or q y 0

        to : turn y ≡ skipped → (x : ℕ) × (c : Factored) × (x < y) × Under S (get_or q x 0) J × (turn x ≡ failed c)
        to e =
            let z = skipped_fallen S A ok (named [] (take t q)) (Go t) i J (on y h) (sym (turn_is t y h k) ∙ e) in
            let b = before_at z.2 y (omega (arith, m.all)) refl in
            (b.0, z.1, b.1, rw b.2 z.2, turn_is t b.0 (omega (arith, b.1)) k ∙ ap (fate S A (Go t)) b.2 ∙ z.3)

        from : (x : ℕ) × (c : Factored) × (x < y) × Under S (get_or q x 0) J × (turn x ≡ failed c) → turn y ≡ skipped
        from z = turn_is t y h k ∙ fallen_skipped S A ok (named [] (take t q)) (Go t) i J (on y h) (get_or q z.0 0, z.1, z.3, sym (turn_is t z.0 (omega (arith, z.2)) k) ∙ z.4)

    pub holds : (y : ℕ) → y < t → stretch S (Go t).values (get_or q y 0) ≡ bits S (get_or q y 0) (turn y)
    holds y h = i.kept (get_or q y 0) (on y h) ∙ ap (bits S (get_or q y 0)) (sym (turn_is t y h k))

    pub makes : (y : ℕ) (f : List Float) → y < t → turn y ≡ done f → stretch S (Go t).values (get_or q y 0) ≡ f
    makes y f h e = holds y h ∙ ap (bits S (get_or q y 0)) e

    pub clears : (y : ℕ) → y < t → ((f : List Float) → turn y ≡ done f → ⊥) → stretch S (Go t).values (get_or q y 0) ≡ zeros S (get_or q y 0)
    clears y h n = holds y h ∙ go (turn y) refl
      where
        go : (x : Fate) → turn y ≡ x → bits S (get_or q y 0) x ≡ zeros S (get_or q y 0)
        go (done f) e = absurd (n f e)
        go (failed c) e = refl
        go skipped e = refl

    pub least : (Go t).least.0 < S.n → (y : ℕ) × (y < t) × (turn y ≡ failed (Go t).least)
    least u =
        let z = least_fails S A ok q m t k u in
        let b = z.1 in
        (b.0, b.1, turn_is t b.0 b.1 k ∙ ap (fate S A (Go t)) b.2 ∙ (fails_exactly S A (Go t) z.0 (Go t).least).1 (z.2, z.3))

    pub lowest : (y : ℕ) (c : Factored) → y < t → turn y ≡ failed c → (Go t).least.0 ≤ c.0
    lowest y c h e =
        let f = (fails_exactly S A (Go t) (get_or q y 0) c).0 (sym (turn_is t y h k) ∙ e) in
        ⊎_elim (λ (u : (Go t).least.0 ≤ c.0). u) (λ (u : c.0 < (Go t).least.0). absurd (none_fails S A ok q m t k c u (get_or q y 0, (y, h, refl), f.0, f.1))) (le-or-lt (Go t).least.0 c.0)
