use mathlib.Core.Path.{◌≡◌, refl, ◌∙◌}
use native.Mathlib.Omega.{arith}
use Rattle.solving.proofs.Walk.{column_within, one_column, column_rows, column_values, forward_more}
use Rattle.solving.proofs.forward_columns.Goals as goal

pub forward_fours-done-requires : goal.forward_fours-done-requires
forward_fours-done-requires c =
    let pre' = c.requires in
    pre'

pub loop-c-init : goal.loop-c-init
loop-c-init c =
    let forward-fours' = c.forward_fours-done in
    (forward-fours'.ensures.upper_bound, refl, λ S K v z s h. h)

pub offset_bounds-rows-c : goal.offset_bounds-rows-c
offset_bounds-rows-c c =
    let pre' = c.requires in
    omega (arith, pre'.wide)

pub slice_bounds-forward_column-count : goal.slice_bounds-forward_column-count
slice_bounds-forward_column-count c =
    let pre' = c.requires in
    omega (arith, pre'.wide)

pub slice_bounds-forward_column-start : goal.slice_bounds-forward_column-start
slice_bounds-forward_column-start c =
    let pre' = c.requires in
    omega (arith, pre'.wide)

pub slice_bounds-forward_column-end : goal.slice_bounds-forward_column-end
slice_bounds-forward_column-end c =
    let pre' = c.requires in
    omega (arith, pre'.wide)

pub column-requires : goal.column-requires
column-requires c =
    let pre' = c.requires in
    let loop' = c.loop-c in
    column_within pre' loop'.c c.loop-c-test.true

pub overflow_add-f : goal.overflow_add-f
overflow_add-f c =
    let pre' = c.requires in
    omega (arith, pre'.cols)

pub forward_column-requires : goal.forward_column-requires
forward_column-requires c =
    let loop' = c.loop-c in
    let forward-fours' = c.forward_fours-done in
    let pre' = c.requires in
    let panel-column' = c.column in
    rw (loop'.invariant.1 ∙ forward-fours'.auto.x) (one_column pre' loop'.c c.loop-c-test.true _ panel-column'.ensures)

pub loop-c-preserved : goal.loop-c-preserved
loop-c-preserved c =
    let forward-column' = c.forward_column in
    let loop' = c.loop-c in
    let args' = c.args in
    let pre' = c.requires in
    let panel-column' = c.column in
    (omega (arith), forward-column'.auto.x ∙ loop'.invariant.1, λ S K v z s h. forward_more S v args'.f z loop'.x _ loop'.c (loop'.invariant.2 S K v z s h) (forward-column'.ensures S v (column_rows pre' loop'.c c.loop-c-test.true _ panel-column'.ensures S K v s) (column_values pre' loop'.c c.loop-c-test.true _ panel-column'.ensures S K v s)))

pub shape_of-x : goal.shape_of-x
shape_of-x c =
    let loop' = c.loop-c in
    let forward-fours' = c.forward_fours-done in
    loop'.invariant.1 ∙ forward-fours'.auto.x

pub returns : goal.returns
returns c =
    let loop' = c.loop-c in
    let args' = c.args in
    let forward-fours' = c.forward_fours-done in
    let e : loop'.c ≡ args'.w = omega (arith) in
    λ S K v z s h. rw (← e) (loop'.invariant.2 S K v z s (forward-fours'.ensures.x_after S K v z s h))
