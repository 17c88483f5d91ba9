-- `forward_four::forward4` meets its contract: the quotients, then the rest. Assumes nothing.
use native.Mathlib.Omega.{arith}
use lib.ListN.{length-set}
use Rattle.forward_four.proofs.Columns.{four_is}
use Rattle.forward_four.proofs.forward4.Goals as goal

pub bounds-x-q-6 : goal.bounds-x-q-6
bounds-x-q-6 c =
    let pre' = c.requires in
    simp length-set (omega (arith, pre'.room, pre'.first))

pub bounds-x-q-7 : goal.bounds-x-q-7
bounds-x-q-7 c =
    let pre' = c.requires in
    simp length-set (omega (arith, pre'.room, pre'.first))

pub bounds-x-q-8 : goal.bounds-x-q-8
bounds-x-q-8 c =
    let pre' = c.requires in
    simp length-set (omega (arith, pre'.room, pre'.first))

pub subtract4-requires : goal.subtract4-requires
subtract4-requires c =
    let pre' = c.requires in
    simp length-set (omega (arith, pre'.room, pre'.first, pre'.second, pre'.third, pre'.some))

pub shape_of-x : goal.shape_of-x
shape_of-x c =
    let subtract4' = c.subtract4 in
    simp length-set at subtract4'.ensures.size

pub returns : goal.returns
returns c =
    let start = c in
    let args' = start.args in
    let subtract4' = c.subtract4 in
    four_is args'.x.now args'.v0.now args'.v1.now args'.v2.now args'.v3.now args'.q start.requires _ subtract4'.ensures
