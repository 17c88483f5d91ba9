-- `solving::reduce_column` meets its contract: over the rows, or over a run. Assumes nothing.
use mathlib.Core.Path.{sym, ◌∙◌}
use Rattle.statement.specs.Solve.{less_above}
use Rattle.solving.proofs.Runs.{by_rows, as_run, as_many, below_low, run_in}
use Rattle.solving.proofs.reduce_column.Goals as goal

pub is_run-requires : goal.is_run-requires
is_run-requires c =
    let pre' = c.requires in
    pre'.rising

pub reduce_run-requires : goal.reduce_run-requires
reduce_run-requires c =
    let pre' = c.requires in
    let is-run' = c.is_run in
    let if1' = c.if-is_run in
    run_in pre' (sym is-run'.ensures ∙ if1'.true)

pub reduce-requires : goal.reduce-requires
reduce-requires c =
    let pre' = c.requires in record { rows_len = as_many pre'; by_index = below_low pre' }

pub returns-then-is_run : goal.returns-then-is_run
returns-then-is_run c =
    let reduce-run' = c.reduce_run in
    let pre' = c.requires in
    let args' = c.args in
    let is-run' = c.is_run in
    let if1' = c.if-is_run in
    as_run pre' (less_above args'.t args'.x.now) (sym is-run'.ensures ∙ if1'.true) reduce-run'.ensures

pub returns-else-is_run : goal.returns-else-is_run
returns-else-is_run c =
    let reduce' = c.reduce in
    let pre' = c.requires in
    let args' = c.args in
    by_rows pre' (less_above args'.t args'.x.now) reduce'.ensures
