-- The tests before the structure is built, and what stands in the areas once they pass. Definitions only.
use Rattle.std.specs.Prelude.{◌≡◌, List, ◌++◌, ℕ, ◌*◌, ltb, drop, replicate}
use Rattle.std.proofs.Math.Option.{Option, none}
use Rattle.statement.specs.Lists.{list, sum}
use Rattle.statement.specs.Input.{Matrix, WellFormed, pattern}
use Rattle.statement.specs.Fill.{parent, count, entries}
use Rattle.statement.specs.Answers.{test, or_else}
use Rattle.laws.specs.Answered.{answered}
use Rattle.statement.specs.Areas.{short}
use Rattle.statement.specs.Calls.{input_fault, factor_needs}
use Rattle.statement.specs.declared.Answer.{Answer}
use Rattle.statement.specs.declared.Answer.TheVariants.{Accepted, OverCap}
use Rattle.statement.specs.declared.Room.{Room}

-- 1, 2, 3, 4, 5 (areas 1 to 8), 6
unfoldable pub measure_fault : Matrix → ℕ → Room → Option Answer
measure_fault M cap r =
    or_else (input_fault M) (
    or_else (short (factor_needs M r)) (
    test (ltb cap (entries (pattern M) M.n)) (OverCap (entries (pattern M) M.n) cap) none))

-- the areas before (₀) and after: parents in top, counts in groups, marks cleared in tasks
pub record Sized (M : Matrix) (cap : ℕ) (r : Room) (entries' work' : ℕ) (groups₀ tasks₀ top₀ groups tasks top : List ℕ) : Type 0 where
  pub calm : measure_fault M cap r ≡ none
  pub well : WellFormed M
  pub room : short (factor_needs M r) ≡ none
  pub entries : entries' ≡ entries (pattern M) M.n
  pub work : work' ≡ sum (λ j. count (pattern M) M.n j * count (pattern M) M.n j) M.n
  pub four : groups ≡ list (count (pattern M) M.n) M.n ++ drop M.n groups₀
  pub five : tasks ≡ replicate M.n 0 ++ drop M.n tasks₀
  pub six : top ≡ list (parent (pattern M) M.n) M.n ++ drop M.n top₀
