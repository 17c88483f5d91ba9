use native.Mathlib.Omega.{arith}
use Rattle.laws.proofs.Permuted.{permuted}
use Rattle.solving.proofs.Order.{back_start, back_more, back_over}
use Rattle.laws.proofs.Taken.{true_T}
use Rattle.solving.proofs.scatter.Goals as goal

pub loop-q-init : goal.loop-q-init
loop-q-init c = back_start _ _ _

pub offset_bounds-x-q : goal.offset_bounds-x-q
offset_bounds-x-q c =
    let loop' = c.loop-q in
    let pre' = c.requires in
    omega (arith, loop'.invariant.long, pre'.x_in_bounds.1, (permuted _ _ pre'.x_in_bounds.0 (true_T pre'.permutation_value)).low loop'.q (omega arith))

pub offset_bounds-b-k : goal.offset_bounds-b-k
offset_bounds-b-k c =
    let loop' = c.loop-q in
    let pre' = c.requires in
    omega (arith, loop'.invariant.long, pre'.x_in_bounds.1, (permuted _ _ pre'.x_in_bounds.0 (true_T pre'.permutation_value)).low loop'.q (omega arith))

pub bounds-b-k : goal.bounds-b-k
bounds-b-k c =
    let loop' = c.loop-q in
    let pre' = c.requires in
    omega (arith, loop'.invariant.long, pre'.x_in_bounds.1, (permuted _ _ pre'.x_in_bounds.0 (true_T pre'.permutation_value)).low loop'.q (omega arith))

pub loop-q-preserved : goal.loop-q-preserved
loop-q-preserved c =
    let loop' = c.loop-q in
    let pre' = c.requires in
    back_more loop'.invariant (permuted _ _ pre'.x_in_bounds.0 (true_T pre'.permutation_value)) pre'.x_in_bounds.1 (omega arith)

pub shape_of-b : goal.shape_of-b
shape_of-b c =
    let loop' = c.loop-q in
    loop'.invariant.long

pub returns : goal.returns
returns c =
    let loop' = c.loop-q in
    let pre' = c.requires in
    back_over loop'.invariant (permuted _ _ pre'.x_in_bounds.0 (true_T pre'.permutation_value)) pre'.x_in_bounds.1 (omega arith)
