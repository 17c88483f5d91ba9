-- The parts of number 11's checks, as the code takes them. Assumes nothing.
use mathlib.Core.Path.{◌≡◌, refl, sym}
use mathlib.Core.Bool.{Bool, true, false, ◌&&◌}
use mathlib.Core.List.{List, []}
use Prim.Native.Nat.{ℕ, zero, suc, ◌+◌, ◌-◌, ◌*◌, ◌≤◌, ◌<◌}
use native.Mathlib.Omega.{arith}
use lib.Dec.{not_T, leb}
use lib.ListN.{length, get_or}
use Rattle.std.specs.List.{IsAllAdjacentAnswer}
use Rattle.std.specs.Ordering.{is_some_and, is_le, nat_cmp}
use Rattle.std.proofs.Common.{Some}
use Rattle.std.specs.Bool.{MatchBool}
use Rattle.std.specs.List.Sorted.{IsNonDecreasing}
use Rattle.std.proofs.lemmas.List.Sorted.{non_decreasing_from_is_sorted}
use native.Mathlib.Numerals.{add-one}
use borrow.Author.Tests.{le-leb, lt-leb}
use Rattle.statement.specs.Lists.{every}
use Rattle.statement.specs.Shape.{Shape, trapezoid}
use Rattle.statement.specs.Solve.{FactorAreas, shape_in, full_record, good_supernode, rising_columns, rising_rows, sized, viewable}
use Rattle.statement.specs.declared.Record.{Record}
use Rattle.laws.specs.Lent.{laid, Fitted, Walkable}
use Rattle.laws.proofs.Bools.{and_both, T_false}
use Rattle.laws.proofs.Every.{every_all, every_not}
use Rattle.laws.proofs.Taken.{true_T}
use Rattle.laws.proofs.Checked.{columns_few, Roomy, roomy, fitted, rising_starts, rows_parts, walkable}

-- more supernodes than columns: (c) fails
pub too_many : (R : Record) (S : Shape) → R.n < R.supernodes → rising_columns R S ≡ false
too_many R S h = T_false (rising_columns R S) (not_T (rising_columns R S) (λ t. omega (arith, columns_few R S t)))

pub trapezoid_bound : (m w : ℕ) → m ≤ 32768 → trapezoid m w ≤ 32768 * w
unfolding trapezoid
trapezoid_bound m zero h = omega arith
trapezoid_bound m (suc w) h = omega (arith, trapezoid_bound m w h)

-- what the library's test of a sorted list answers
pub sorted : (l : List ℕ) (r : Bool) → IsAllAdjacentAnswer (λ x y b. is_some_and is_le (Some (nat_cmp x y)) ≡ b) l r → r ≡ every (λ i. leb (get_or l i 0) (get_or l (suc i) 0)) (length l - 1)
sorted l r h = go r (non_decreasing_from_is_sorted l r h)
  where
    up : ℕ → Bool
    up i = leb (get_or l i 0) (get_or l (suc i) 0)

    go : (r : Bool) → MatchBool r (IsNonDecreasing l) ((k : ℕ) × (k + 1 < length l) × ((d : ℕ) → get_or l (k + 1) d < get_or l k d)) → r ≡ every up (length l - 1)
    go true n = sym (every_all up (length l - 1) (λ i k. le-leb _ _ (n i (suc i) 0 (omega arith) (omega arith))))
    go false n = sym (every_not up (length l - 1) n.0 (omega (arith, n.1)) (lt-leb _ _ (rw add-one at (n.2 0))))

-- (c) reads the first columns alone
pub columns_same : (R : Record) (n : ℕ) (firsts starts rows : List ℕ) → rising_columns R (laid R.n firsts [] []) ≡ rising_columns R (laid n firsts starts rows)
unfolding rising_columns
columns_same R n firsts starts rows = refl

pub walkable_of : (R : Record) (S : Shape) → Fitted R S → rising_columns R S ≡ true → rising_rows R S ≡ true → Walkable S
walkable_of R S fit c r =
    let d = and_both (rising_starts R S.starts) (every (good_supernode S) R.supernodes) (rw (rows_parts R S) at (true_T r)) in
    walkable R S fit (true_T c) d.0 d.1

module _ (R : Record) (f : FactorAreas) where
  and-false : (a b : Bool) → b ≡ false → a && b ≡ false
  and-false true b e = e
  and-false false b e = refl

  pub view_many : R.n < R.supernodes → false ≡ viewable R f
  unfolding viewable
  view_many h = sym (and-false (full_record R f) _ (rw (too_many R (shape_in R f) h)))

  module _ (h : full_record R f ≡ true) where
    pub room : Roomy R f
    room = roomy R f (true_T h)

    pub part_fits : R.supernodes ≤ R.n → Fitted R (shape_in R f)
    part_fits k = fitted R f room k

    pub view_rest : viewable R f ≡ rising_columns R (shape_in R f) && (rising_rows R (shape_in R f) && sized R (shape_in R f))
    unfolding viewable
    view_rest = rw h
