-- Areas that hold the lists of the analysis's structure are what the offsets ask for. Assumes nothing.
use mathlib.Core.Path.{◌≡◌, ap, ◌∙◌}
use mathlib.Core.Bool.{Bool}
use mathlib.Core.List.{List, ◌++◌}
use Prim.Native.Nat.{ℕ, suc, ◌≤◌, ◌<◌}
use native.Mathlib.Omega.{arith}
use lib.Dec.{T}
use lib.ListN.{length, get_or, length-append, get_or-append}
use Rattle.statement.specs.Lists.{joined}
use Rattle.statement.specs.Fill.{fill}
use Rattle.statement.specs.Shape.{supernodes, first, height}
use Rattle.statement.specs.Supernodes.{shape_of}
use Rattle.laws.proofs.Tally.{count_to}
use Rattle.laws.proofs.Select.{select_length}
use Rattle.laws.proofs.Ranks.{list_length, list_at, joined_grows}
use Rattle.laws.proofs.Shapes.{N, f, rows, rows_are, firsts_length, shape_built, supernodes_few}
use Rattle.offsets.specs.Lent.{Rising, Of}
use Rattle.offsets.proofs.Sums.{held_of}

module _ (p : ℕ → ℕ → Bool) (n : ℕ) (upper : (i k : ℕ) → T (p i k) → i ≤ k) (few : n ≤ 32768)
    (x y d e : List ℕ) (hx : x ≡ (shape_of p n).firsts ++ d) (hy : y ≡ (shape_of p n).starts ++ e) where
  many : length (shape_of p n).firsts ≡ suc (supernodes (shape_of p n))
  unfolding shape_of
  many = firsts_length p n upper

  starts_many : length (shape_of p n).starts ≡ suc (supernodes (shape_of p n))
  unfolding shape_of
  starts_many = list_length _ _

  first_at : (K : ℕ) → K ≤ supernodes (shape_of p n) → get_or x K 0 ≡ first (shape_of p n) K
  first_at K k = ap (λ l. get_or l K 0) hx ∙ get_or-append (shape_of p n).firsts d 0 K (omega (arith, many))

  start_at : (K : ℕ) → K ≤ supernodes (shape_of p n) → get_or y K 0 ≡ get_or (shape_of p n).starts K 0
  start_at K k = ap (λ l. get_or l K 0) hy ∙ get_or-append (shape_of p n).starts e 0 K (omega (arith, starts_many))

  start_is : (K : ℕ) → K ≤ supernodes (shape_of p n) → get_or (shape_of p n).starts K 0 ≡ length (joined (rows p n upper) K)
  unfolding shape_of
  start_is K k = list_at (λ K. length (joined (rows p n upper) K)) (suc (N p n upper)) K 0 (omega arith)

  start_in_lem : (K : ℕ) → K < supernodes (shape_of p n) → get_or (shape_of p n).starts (suc K) 0 ≤ length (shape_of p n).rows
  unfolding shape_of
  start_in_lem K k = rw (start_is (suc K) k) (joined_grows (rows p n upper) (suc K) (N p n upper) k)

  pub shape_of_lem : Of (shape_of p n) x y (supernodes (shape_of p n))
  shape_of_lem = held_of (shape_of p n) x y (supernodes (shape_of p n)) first_at start_at start_in_lem

  low : (K : ℕ) → K < supernodes (shape_of p n) → height (shape_of p n) K ≤ n
  low K k = omega (arith, ap length (rows_are p n upper K (same k)), select_length (λ i. fill p i (f p n upper K)) n, count_to (λ i. fill p i (f p n upper K)) n)
    where
      same : K < supernodes (shape_of p n) → K < N p n upper
      same k = unfold shape_of in k

  pub shape_rising : Rising x y (supernodes (shape_of p n))
  shape_rising = record {
    few = omega (arith, fewer);
    firsts = rw hx (omega (arith, length-append (shape_of p n).firsts d, many));
    starts = rw hy (omega (arith, length-append (shape_of p n).starts e, starts_many));
    columns = λ K k. omega (arith, first_at K (omega arith), first_at (suc K) k, (shape_built p n upper).rise K k);
    rows = λ K k. omega (arith, start_at K (omega arith), start_at (suc K) k, start_is K (omega arith), start_is (suc K) k, joined_grows (rows p n upper) K (suc K) (omega arith));
    tall = λ K k. rw (shape_of_lem.width K k, shape_of_lem.height K k) ((shape_built p n upper).tall K k);
    small = λ K k. rw (shape_of_lem.height K k) (omega (arith, low K k));
  }
    where
      fewer : supernodes (shape_of p n) ≤ n
      fewer = unfold shape_of in omega (arith, supernodes_few p n upper)
