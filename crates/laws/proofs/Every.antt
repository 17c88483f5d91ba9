-- A test at every number below m, and a loop that makes it. Assumes nothing.
use mathlib.Core.Path.{◌≡◌, refl, sym}
use mathlib.Core.Logic.{⊎_elim}
use mathlib.Core.Bool.{Bool, true, false, ◌&&◌}
use Prim.Native.Nat.{ℕ, zero, suc, ◌+◌, ◌≤◌, ◌<◌}
use native.Mathlib.Omega.{arith}
use native.Mathlib.Nat.{eq-or-lt_of_le, le_of_suc-le-suc}
use native.Mathlib.Numerals.{add-one}
use lib.Dec.{T}
use Rattle.statement.specs.Lists.{every}
use Rattle.laws.proofs.Bools.{and_both}

pub every_at : (f : ℕ → Bool) (m : ℕ) → T (every f m) → (i : ℕ) → i < m → T (f i)
unfolding every
every_at f zero h i l = absurd (omega arith)
every_at f (suc m) h i l =
    let b = and_both (every f m) (f m) h in
    ⊎_elim (λ p. rw p b.1) (λ p. every_at f m b.0 i p) (eq-or-lt_of_le (le_of_suc-le-suc l))

and-false : (a b : Bool) → b ≡ false → a && b ≡ false
and-false true b e = e
and-false false b e = refl

pub every_not : (f : ℕ → Bool) (m i : ℕ) → i < m → f i ≡ false → every f m ≡ false
unfolding every
every_not f zero i l e = absurd (omega arith)
every_not f (suc m) i l e = ⊎_elim (λ p. and-false (every f m) (f m) (rw (← p) e)) (λ p. rw (every_not f m i p e)) (eq-or-lt_of_le (le_of_suc-le-suc l))

pub every_all : (f : ℕ → Bool) (m : ℕ) → ((i : ℕ) → i < m → f i ≡ true) → every f m ≡ true
unfolding every
every_all f zero h = refl
every_all f (suc m) h = rw (every_all f m (λ i l. h i (omega arith)), h m (omega arith))

pub every_ext : (f g : ℕ → Bool) (m : ℕ) → ((i : ℕ) → i < m → f i ≡ g i) → every f m ≡ every g m
unfolding every
every_ext f g zero h = refl
every_ext f g (suc m) h = rw (every_ext f g m (λ i l. h i (omega arith)), h m (omega arith))

-- those below i pass
pub record Tested (f : ℕ → Bool) (m i : ℕ) : Type 0 where
  pub to : i ≤ m
  pub is : every f i ≡ true

pub tested_start : (f : ℕ → Bool) (m : ℕ) → Tested f m 0
unfolding every
tested_start f m = record { to = omega arith; is = refl }

module _ {f : ℕ → Bool} {m i : ℕ} (w : Tested f m i) where
  pub tested_more : i < m → f i ≡ true → Tested f m (i + 1)
  unfolding every
  tested_more h e = record { to = omega arith; is = rw (add-one i, w.is, e) }

  pub tested_stop : i < m → f i ≡ false → false ≡ every f m
  tested_stop h e = sym (every_not f m i h e)

  pub tested_over : m ≤ i → true ≡ every f m
  tested_over h = let e : i ≡ m = omega (arith, w.to) in sym (rw e at w.is)
