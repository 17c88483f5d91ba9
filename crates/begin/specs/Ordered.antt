-- Number 8, and what stands in the scratch once it passes. Definitions only.
use Rattle.std.specs.Prelude.{◌≡◌, List, ℕ, ◌+◌, ◌<◌, get_or, Float}
use Rattle.std.proofs.Math.Option.{Option, none}
use Rattle.statement.specs.Input.{Matrix}
use Rattle.statement.specs.Run.{order_fault}
use Rattle.statement.specs.Calls.{analysis, order_of, stop_of, wrong_position}
use Rattle.statement.specs.declared.Answer.{Answer}
use Rattle.statement.specs.declared.Order.{Order}
use Rattle.statement.specs.declared.Stop.{Stop}
use Rattle.laws.specs.Numbered.{shape_for}
use Rattle.updates.specs.Layout.{names_at}
use Rattle.ready.specs.Known.{Laid}

-- 8
unfoldable pub order_test : Matrix → Order → List ℕ → Stop → Option Answer
order_test M o l e = wrong_position (order_fault (analysis M).shape (order_of (analysis M).shape o l) (stop_of (analysis M).shape e))

-- the order is legal, the run's scratch stands, and after it the names
pub record Ordered (M : Matrix) (o : Order) (l : List ℕ) (e : Stop) (ns : ℕ) (words : List ℕ) (floats : List Float) : Type 0 where
  pub legal : order_test M o l e ≡ none
  pub scratch : Laid M ns words floats
  pub names : (p : ℕ) → p < stop_of (shape_for M) e → get_or words (names_at M.n + p) 0 ≡ get_or (order_of (shape_for M) o l) p 0
