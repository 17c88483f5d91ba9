-- `solving::backward_supernode` meets its contract: its columns in turn. Assumes nothing.
use mathlib.Core.Path.{◌≡◌}
use Prim.Native.Nat.{◌-◌}
use native.Mathlib.Omega.{arith}
use Rattle.statement.specs.Shape.{offset}
use Rattle.laws.proofs.Walked.{whole}
use Rattle.solving.specs.Shown.{shape_of}
use Rattle.solving.proofs.Order.{stretch_in}
use Rattle.solving.proofs.Walk.{next_at, block_of, backward_done}
use Rattle.solving.proofs.backward_supernode.Goals as goal

pub overflow_sub-w : goal.overflow_sub-w
overflow_sub-w c = let p = whole _ c.args.factor.now.valid.walked.walk _ c.requires.k_in_bounds in omega arith

pub offset_bounds-factor-s : goal.offset_bounds-factor-s
offset_bounds-factor-s c = let p = whole _ c.args.factor.now.valid.walked.walk _ c.requires.k_in_bounds in omega arith

pub slice_bounds-backward_columns-count : goal.slice_bounds-backward_columns-count
slice_bounds-backward_columns-count c = let p = whole _ c.args.factor.now.valid.walked.walk _ c.requires.k_in_bounds in omega arith

pub slice_bounds-backward_columns-start : goal.slice_bounds-backward_columns-start
slice_bounds-backward_columns-start c = let p = whole _ c.args.factor.now.valid.walked.walk _ c.requires.k_in_bounds in omega arith

pub slice_bounds-backward_columns-end : goal.slice_bounds-backward_columns-end
slice_bounds-backward_columns-end c = let p = whole _ c.args.factor.now.valid.walked.walk _ c.requires.k_in_bounds in omega arith

pub overflow_sub-e : goal.overflow_sub-e
overflow_sub-e c = let p = whole _ c.args.factor.now.valid.walked.walk _ c.requires.k_in_bounds in omega arith

pub column_start-requires : goal.column_start-requires
column_start-requires c = let p = whole _ c.args.factor.now.valid.walked.walk _ c.requires.k_in_bounds in (p.wide, omega (arith, p.few, c.args.factor.now.valid.few))

pub overflow_sub-off : goal.overflow_sub-off
overflow_sub-off c = let f = c.args.factor.now in omega (arith, c.requires.end_value, c.column_start.ensures, next_at _ f.valid.walked _ c.requires.k_in_bounds)

pub offset_bounds-factor-off : goal.offset_bounds-factor-off
offset_bounds-factor-off c = let f = c.args.factor.now in omega (arith, c.requires.end_value, stretch_in f.valid _ c.requires.k_in_bounds)

pub slice_bounds-backward_columns-count-2 : goal.slice_bounds-backward_columns-count-2
slice_bounds-backward_columns-count-2 c = let f = c.args.factor.now in omega (arith, c.requires.end_value, stretch_in f.valid _ c.requires.k_in_bounds)

pub slice_bounds-backward_columns-start-2 : goal.slice_bounds-backward_columns-start-2
slice_bounds-backward_columns-start-2 c = let f = c.args.factor.now in omega (arith, c.requires.end_value, stretch_in f.valid _ c.requires.k_in_bounds)

pub backward_columns-requires : goal.backward_columns-requires
backward_columns-requires c =
    let f = c.args.factor.now in
    let e : c.args.end - c.column_start.result ≡ offset (shape_of f) c.args.k = omega (arith, c.requires.end_value, c.column_start.ensures, next_at _ f.valid.walked _ c.requires.k_in_bounds) in
    rw c.requires.x_len (block_of _ f.valid.walked _ c.requires.k_in_bounds f.values.now _ e (stretch_in f.valid _ c.requires.k_in_bounds) f.valid.few)

pub shape_of-x : goal.shape_of-x
shape_of-x c = c.backward_columns.auto.x

pub returns : goal.returns
returns c =
    let f = c.args.factor.now in
    let e : c.args.end - c.column_start.result ≡ offset (shape_of f) c.args.k = omega (arith, c.requires.end_value, c.column_start.ensures, next_at _ f.valid.walked _ c.requires.k_in_bounds) in
    record { value = e; k_value = backward_done _ f.valid.walked _ c.requires.k_in_bounds f.values.now _ e _ _ c.backward_columns.ensures }
