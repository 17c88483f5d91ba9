-- `solving::forward_column` meets its contract: one column's rule, over its rows or over a run. Assumes nothing.
use mathlib.Core.Path.{sym, ◌∙◌}
use native.Mathlib.Omega.{arith}
use lib.ListN.{get_or, set, length-set}
use lib.Ieee.{nan, binary64, div}
use Rattle.statement.specs.Solve.{less_below}
use Rattle.solving.proofs.Runs.{by_rows, as_run, as_many, below_low, run_in}
use Rattle.solving.proofs.Rules.{forward_is}
use Rattle.solving.proofs.forward_column.Goals as goal

pub is_run-requires : goal.is_run-requires
is_run-requires c =
    let pre' = c.requires in
    pre'.rising

pub subtract_run-requires : goal.subtract_run-requires
subtract_run-requires c =
    let pre' = c.requires in
    let is-run' = c.is_run in
    let if1' = c.if-is_run in
    rw length-set (run_in pre' (sym is-run'.ensures ∙ if1'.true))

pub subtract-requires : goal.subtract-requires
subtract-requires c =
    let pre' = c.requires in record { rows_len = as_many pre'; by_index = λ i l. rw length-set (below_low pre' i l) }

pub shape_of-x-then-is_run : goal.shape_of-x-then-is_run
shape_of-x-then-is_run c =
    let subtract-run' = c.subtract_run in
    simp length-set at subtract-run'.auto.x

pub returns-then-is_run : goal.returns-then-is_run
returns-then-is_run c =
    let args' = c.args in
    let pre' = c.requires in
    let subtract-run' = c.subtract_run in
    let is-run' = c.is_run in
    let if1' = c.if-is_run in
    λ S v e p. let y = div binary64 (get_or args'.x.now args'.q nan) (get_or args'.values.now 0 nan) in
    forward_is args'.rows.now args'.values.now args'.q args'.x.now _ (omega (arith, pre'.rising.some, pre'.long)) pre'.inside S v e p (as_run pre' (less_below (set args'.x.now args'.q y) y) (sym is-run'.ensures ∙ if1'.true) subtract-run'.ensures)

pub shape_of-x-else-is_run : goal.shape_of-x-else-is_run
shape_of-x-else-is_run c =
    let subtract' = c.subtract in
    simp length-set at subtract'.auto.x

pub returns-else-is_run : goal.returns-else-is_run
returns-else-is_run c =
    let args' = c.args in
    let pre' = c.requires in
    let subtract' = c.subtract in
    λ S v e p. let y = div binary64 (get_or args'.x.now args'.q nan) (get_or args'.values.now 0 nan) in
    forward_is args'.rows.now args'.values.now args'.q args'.x.now _ (omega (arith, pre'.rising.some, pre'.long)) pre'.inside S v e p (by_rows pre' (less_below (set args'.x.now args'.q y) y) subtract'.ensures)
