use mathlib.Core.Path.{refl, ap, ◌∙◌}
use Prim.Native.Nat.{◌+◌}
use native.Mathlib.Omega.{arith}
use Rattle.statement.specs.Solve.{forward}
use Rattle.laws.proofs.Taken.{yes}
use Rattle.solving.proofs.Walk.{column_within}
use Rattle.solving.proofs.Fours.{block_rising, four_columns, four_more}
use Rattle.solving.proofs.forward_fours.Goals as goal

pub is_run-requires : goal.is_run-requires
is_run-requires c =
    let pre' = c.requires in
    block_rising pre'

pub returns-then-not-is_run : goal.returns-then-not-is_run
returns-then-not-is_run c = record { upper_bound = omega arith; x_after = λ S K v z s h. h ∙ ap (forward S v z) (omega arith) }

pub loop-c-init : goal.loop-c-init
loop-c-init c = (omega arith, refl, λ S K v z s h. h ∙ ap (forward S v z) (omega arith))

pub overflow_add-c : goal.overflow_add-c
overflow_add-c c =
    let pre' = c.requires in
    omega (arith, pre'.wide, pre'.few)

pub column-requires : goal.column-requires
column-requires c =
    let pre' = c.requires in
    let loop' = c.loop-c in
    column_within pre' loop'.c (omega arith)

pub overflow_add-c-in-loop-c : goal.overflow_add-c-in-loop-c
overflow_add-c-in-loop-c c =
    let pre' = c.requires in
    omega (arith, pre'.wide, pre'.few)

pub column-requires-in-loop-c : goal.column-requires-in-loop-c
column-requires-in-loop-c c =
    let pre' = c.requires in
    let loop' = c.loop-c in
    column_within pre' (loop'.c + 1) (omega arith)

pub overflow_add-c-in-loop-c-2 : goal.overflow_add-c-in-loop-c-2
overflow_add-c-in-loop-c-2 c =
    let pre' = c.requires in
    omega (arith, pre'.wide, pre'.few)

pub column-requires-in-loop-c-2 : goal.column-requires-in-loop-c-2
column-requires-in-loop-c-2 c =
    let pre' = c.requires in
    let loop' = c.loop-c in
    column_within pre' (loop'.c + 2) (omega arith)

pub overflow_add-c-in-loop-c-3 : goal.overflow_add-c-in-loop-c-3
overflow_add-c-in-loop-c-3 c =
    let pre' = c.requires in
    omega (arith, pre'.wide, pre'.few)

pub column-requires-in-loop-c-3 : goal.column-requires-in-loop-c-3
column-requires-in-loop-c-3 c =
    let pre' = c.requires in
    let loop' = c.loop-c in
    column_within pre' (loop'.c + 3) (omega arith)

pub overflow_add-f : goal.overflow_add-f
overflow_add-f c =
    let pre' = c.requires in
    omega (arith, pre'.cols)

pub forward4-requires : goal.forward4-requires
forward4-requires c =
    let loop' = c.loop-c in
    let pre' = c.requires in
    let is-run' = c.is_run in
    let if1' = c.if-not-is_run in
    let panel-column' = c.column in
    let panel-column2' = c.column-in-loop-c in
    let panel-column3' = c.column-in-loop-c-2 in
    let panel-column4' = c.column-in-loop-c-3 in
    rw loop'.invariant.1 (four_columns pre' (yes is-run'.ensures if1'.false) loop'.c (omega arith) _ _ _ _ panel-column'.ensures panel-column2'.ensures panel-column3'.ensures panel-column4'.ensures)

pub loop-c-preserved : goal.loop-c-preserved
loop-c-preserved c =
    let loop-test' = c.loop-c-test in
    let forward4' = c.forward4 in
    let loop' = c.loop-c in
    let pre' = c.requires in
    let is-run' = c.is_run in
    let if1' = c.if-not-is_run in
    let panel-column' = c.column in
    let panel-column2' = c.column-in-loop-c in
    let panel-column3' = c.column-in-loop-c-2 in
    let panel-column4' = c.column-in-loop-c-3 in
    (omega (arith, loop-test'.true), forward4'.auto.x ∙ loop'.invariant.1, λ S K v z s h. four_more pre' (yes is-run'.ensures if1'.false) loop'.c loop-test'.true _ _ _ _ panel-column'.ensures panel-column2'.ensures panel-column3'.ensures panel-column4'.ensures S K v s z loop'.x _ (loop'.invariant.2 S K v z s h) forward4'.ensures)

pub shape_of-x : goal.shape_of-x
shape_of-x c =
    let loop' = c.loop-c in
    loop'.invariant.1

pub returns : goal.returns
returns c =
    let loop' = c.loop-c in record { upper_bound = loop'.invariant.0; x_after = loop'.invariant.2 }
