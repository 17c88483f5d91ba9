use mathlib.Core.Path.{◌≡◌, refl, ap, ◌∙◌}
use Prim.Native.Nat.{◌+◌, ◌-◌}
use native.Mathlib.Omega.{arith}
use Rattle.statement.specs.Solve.{backward}
use Rattle.solving.proofs.Walk.{column_within, one_column, column_rows, column_values, backward_less}
use Rattle.solving.proofs.backward_columns.Goals as goal

pub loop-c-init : goal.loop-c-init
loop-c-init c = (omega arith, refl, λ S K v s. refl)

pub offset_bounds-rows-c : goal.offset_bounds-rows-c
offset_bounds-rows-c c =
    let pre' = c.requires in
    omega (arith, pre'.wide)

pub slice_bounds-backward_column-count : goal.slice_bounds-backward_column-count
slice_bounds-backward_column-count c =
    let pre' = c.requires in
    omega (arith, pre'.wide)

pub slice_bounds-backward_column-start : goal.slice_bounds-backward_column-start
slice_bounds-backward_column-start c =
    let pre' = c.requires in
    omega (arith, pre'.wide)

pub slice_bounds-backward_column-end : goal.slice_bounds-backward_column-end
slice_bounds-backward_column-end c =
    let pre' = c.requires in
    omega (arith, pre'.wide)

pub column-requires : goal.column-requires
column-requires c =
    let pre' = c.requires in
    let loop' = c.loop-c in
    column_within (pre') (loop'.c - 1) (omega arith)

pub overflow_add-f : goal.overflow_add-f
overflow_add-f c =
    let pre' = c.requires in
    omega (arith, pre'.cols)

pub backward_column-requires : goal.backward_column-requires
backward_column-requires c =
    let loop' = c.loop-c in
    let pre' = c.requires in
    let panel-column' = c.column in
    rw loop'.invariant.1 (one_column (pre') (loop'.c - 1) (omega arith) _ panel-column'.ensures)

pub loop-c-preserved : goal.loop-c-preserved
loop-c-preserved c =
    let loop' = c.loop-c in
    let backward-column' = c.backward_column in
    let args' = c.args in
    let pre' = c.requires in
    let panel-column' = c.column in
    let d = loop'.c - 1 in
    let g : loop'.c ≡ d + 1 = omega arith in
    (omega arith, backward-column'.auto.x ∙ loop'.invariant.1, λ S K v s. loop'.invariant.2 S K v s ∙ backward_less S v args'.f loop'.x _ loop'.c d g (backward-column'.ensures S v (column_rows (pre') d (omega arith) _ panel-column'.ensures S K v s) (column_values (pre') d (omega arith) _ panel-column'.ensures S K v s)))

pub shape_of-x : goal.shape_of-x
shape_of-x c =
    let loop' = c.loop-c in
    loop'.invariant.1

pub returns : goal.returns
returns c =
    let args' = c.args in
    let loop' = c.loop-c in
    let q : args'.f + loop'.c ≡ args'.f = omega arith in
    λ S K v s. loop'.invariant.2 S K v s ∙ ap (backward S v loop'.x) q
