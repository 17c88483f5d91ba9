-- `solving::backward_column` meets its contract: one column's rule. Assumes nothing.
use mathlib.Core.List.{[]}
use native.Mathlib.Omega.{arith}
use Rattle.solving.proofs.Rules.{backward_is}
use Rattle.solving.proofs.backward_column.Goals as goal

pub reduce_column-z-requires : goal.reduce_column-z-requires
reduce_column-z-requires c =
    let pre' = c.requires in
    pre'

pub returns : goal.returns
returns c =
    let args' = c.args in
    let pre' = c.requires in
    let reduce-column' = c.reduce_column-z in
    λ S v e p. backward_is args'.rows.now args'.values.now args'.q args'.x.now [] (omega (arith, pre'.rising.some, pre'.long)) pre'.inside S v e p _ reduce-column'.ensures
