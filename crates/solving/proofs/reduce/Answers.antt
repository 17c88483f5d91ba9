use mathlib.Core.Path.{refl, sym, ◌∙◌}
use native.Mathlib.Omega.{arith}
use Rattle.solving.proofs.Rules.{above_more, above_over}
use Rattle.solving.proofs.reduce.Goals as goal

pub loop-i-init : goal.loop-i-init
loop-i-init c = (omega arith, refl)

pub offset_bounds-x-row : goal.offset_bounds-x-row
offset_bounds-x-row c =
    let pre' = c.requires in
    let loop' = c.loop-i in
    omega (arith, pre'.by_index loop'.i (omega arith))

pub bounds-x-row : goal.bounds-x-row
bounds-x-row c =
    let pre' = c.requires in
    let loop' = c.loop-i in
    omega (arith, pre'.by_index loop'.i (omega arith))

pub loop-i-preserved : goal.loop-i-preserved
loop-i-preserved c =
    let loop' = c.loop-i in
    let args' = c.args in
    let pre' = c.requires in
    (omega arith, loop'.invariant.1 ∙ above_more args'.rows.now args'.values.now loop'.i (omega arith) pre'.rows_len args'.x.now loop'.t (pre'.by_index loop'.i (omega arith)))

pub returns : goal.returns
returns c =
    let loop' = c.loop-i in
    let args' = c.args in
    sym (loop'.invariant.1 ∙ above_over args'.rows.now args'.values.now loop'.i (omega arith) args'.x.now loop'.t)
