-- `input::first_column` meets its contract: the columns before k break no rule. Assumes nothing.
use mathlib.Core.Bool.{not}
use Rattle.statement.specs.Input.{column, good_rows}
use Rattle.areas.proofs.Search.{Searched}
use Rattle.input.proofs.first_column.Given as goal

abbrev pub invariant-loop-k : goal.invariant-loop-k
invariant-loop-k l = Searched (λ k. not (good_rows k (column l.matrix.starts.now l.matrix.rows.now k))) 0 l.matrix.n l.k
