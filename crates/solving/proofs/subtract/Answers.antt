use mathlib.Core.Path.{refl, sym, ◌∙◌}
use native.Mathlib.Omega.{arith}
use lib.ListN.{length-set}
use Rattle.solving.proofs.Rules.{below_more, below_over}
use Rattle.solving.proofs.subtract.Goals as goal

pub loop-i-init : goal.loop-i-init
loop-i-init c = (omega arith, refl, refl)

pub offset_bounds-x-r : goal.offset_bounds-x-r
offset_bounds-x-r c =
    let pre' = c.requires in
    let loop' = c.loop-i in
    omega (arith, pre'.by_index loop'.i (omega arith))

pub bounds-x-r : goal.bounds-x-r
bounds-x-r c =
    let pre' = c.requires in
    let loop' = c.loop-i in
    omega (arith, pre'.by_index loop'.i (omega arith))

pub offset_bounds-x-r-in-loop-i : goal.offset_bounds-x-r-in-loop-i
offset_bounds-x-r-in-loop-i c =
    let pre' = c.requires in
    let loop' = c.loop-i in
    omega (arith, pre'.by_index loop'.i (omega arith))

pub bounds-x-r-in-loop-i : goal.bounds-x-r-in-loop-i
bounds-x-r-in-loop-i c =
    let pre' = c.requires in
    let loop' = c.loop-i in
    omega (arith, pre'.by_index loop'.i (omega arith))

pub loop-i-preserved : goal.loop-i-preserved
loop-i-preserved c =
    let loop' = c.loop-i in
    let args' = c.args in
    let pre' = c.requires in
    (omega arith, simp length-set loop'.invariant.1, loop'.invariant.2 ∙ below_more args'.rows.now args'.values.now loop'.i (omega arith) pre'.rows_len loop'.x _ (omega (arith, pre'.by_index loop'.i (omega arith))))

pub shape_of-x : goal.shape_of-x
shape_of-x c =
    let loop' = c.loop-i in
    loop'.invariant.1

pub returns : goal.returns
returns c =
    let loop' = c.loop-i in
    let args' = c.args in
    sym (loop'.invariant.2 ∙ below_over args'.rows.now args'.values.now loop'.i (omega arith) loop'.x _)
