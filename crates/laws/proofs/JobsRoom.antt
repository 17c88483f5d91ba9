-- At most 1 + 2 + .. + n structure rows, and fewer updates: 8,256 of each for n to 128. Assumes nothing.
use mathlib.Core.Path.{◌≡◌, refl}
use mathlib.Core.Bool.{Bool, true, false}
use mathlib.Core.List.{List}
use Prim.Native.Nat.{ℕ, zero, suc, ◌+◌, ◌-◌, ◌≤◌, ◌<◌}
use native.Mathlib.Omega.{arith}
use native.Mathlib.Nat.{le_refl, sub-zero}
use lib.Dec.{T}
use lib.ListN.{length, length-append}
use Rattle.statement.specs.Lists.{bit, tally, joined}
use Rattle.statement.specs.Fill.{fill}
use Rattle.statement.specs.Shape.{supernodes}
use Rattle.statement.specs.Supernodes.{shape_of, update, updates_of, updates}
use Rattle.laws.proofs.Bools.{rises}
use Rattle.laws.proofs.Tally.{count_to}
use Rattle.laws.proofs.Select.{select_length}
use Rattle.laws.proofs.Fill.{fill→, fill_lower}
use Rattle.laws.proofs.Shapes.{b, f, N, rows, first_rank, supernodes_few}
use Rattle.laws.proofs.Bounds.{joined_most, update_one}

-- 1 + 2 + .. + n
unfoldable pub triangle : ℕ → ℕ
triangle zero = 0
triangle (suc k) = triangle k + suc k

pub triangle_grows : (k m : ℕ) → k ≤ m → triangle k ≤ triangle m
triangle_grows k m h = rises triangle m (λ x l. unfold triangle in omega arith) k m h (le_refl m)

module _ {A : Type 0} (g : ℕ → List A) where
  joined_rises : (m : ℕ) → ((i : ℕ) → i < m → length (g i) ≤ suc i) → length (joined g m) ≤ triangle m
  unfolding joined triangle
  joined_rises zero h = le_refl 0
  joined_rises (suc m) h = omega (arith, length-append (joined g m) (g m), joined_rises m (λ i l. h i (omega arith)), h m (le_refl (suc m)))

  joined_falls : (n m : ℕ) → m ≤ n → ((i : ℕ) → i < m → length (g i) ≤ n - i) → length (joined g m) + triangle (n - m) ≤ triangle n
  unfolding joined
  joined_falls n zero l h = rw (sub-zero n) (omega arith)
  joined_falls n (suc m) l h =
      omega (arith, length-append (joined g m) (g m), joined_falls n m (omega arith) (λ i q. h i (omega arith)), h m (le_refl (suc m)), step (n - suc m) (n - m) (omega arith))
    where
      step : (k x : ℕ) → x ≡ suc k → triangle x ≡ triangle k + suc k
      step k x e = rw e (unfold triangle in refl)

-- a test that nothing below j passes
tally_from : (t : ℕ → Bool) (j m : ℕ) → ((i : ℕ) → i < j → T (t i) → ⊥) → tally t m ≤ m - j
unfolding tally
tally_from t j zero h = omega arith
tally_from t j (suc m) h = go (t m) refl (tally_from t j m h)
  where
    go : (b : Bool) → t m ≡ b → tally t m ≤ m - j → tally t m + bit b ≤ suc m - j
    go true e i = let k : m < j → ⊥ = (λ l. h m l (rw e tt)) in omega arith
    go false e i = omega arith

module _ (p : ℕ → ℕ → Bool) (n : ℕ) (upper : (i k : ℕ) → T (p i k) → i ≤ k) where
  rows_left : (K : ℕ) → K < N p n upper → length (rows p n upper K) ≤ n - K
  rows_left K h =
      let j = f p n upper K in
      omega (
        arith,
        select_length (λ i. fill p i j) n,
        tally_from (λ i. fill p i j) j n (λ i l t. omega (arith, fill_lower p n upper (fill→ p i j t))),
        first_rank p n upper K (omega arith),
        count_to (b p n upper) j,
      )

  pub rows_triangle : length (shape_of p n).rows ≤ triangle n
  unfolding shape_of
  rows_triangle = omega (arith, joined_falls (rows p n upper) n (N p n upper) (supernodes_few p n upper) rows_left)

  pub updates_triangle : length (updates (shape_of p n)) ≤ triangle n
  unfolding updates updates_of
  updates_triangle =
      let S = shape_of p n in
      let few : supernodes S ≤ n = unfold shape_of in supernodes_few p n upper in
      omega (arith, joined_rises (updates_of S) (supernodes S) (λ J h. omega (arith, joined_most (update S J) 1 J (λ K _. update_one S J K))), triangle_grows (supernodes S) n few)
