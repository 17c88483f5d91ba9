-- `solving::forward_supernode` meets its contract: its columns in turn. Assumes nothing.
use native.Mathlib.Omega.{arith}
use Rattle.laws.proofs.Walked.{whole}
use Rattle.solving.proofs.Order.{stretch_in}
use Rattle.solving.proofs.Walk.{next_at, block_of, forward_done}
use Rattle.solving.proofs.forward_supernode.Goals as goal

pub overflow_sub-w : goal.overflow_sub-w
overflow_sub-w c = let p = whole _ c.args.factor.now.valid.walked.walk _ c.requires.k_in_bounds in omega arith

pub offset_bounds-factor-s : goal.offset_bounds-factor-s
offset_bounds-factor-s c = let p = whole _ c.args.factor.now.valid.walked.walk _ c.requires.k_in_bounds in omega arith

pub slice_bounds-forward_columns-count : goal.slice_bounds-forward_columns-count
slice_bounds-forward_columns-count c = let p = whole _ c.args.factor.now.valid.walked.walk _ c.requires.k_in_bounds in omega arith

pub slice_bounds-forward_columns-start : goal.slice_bounds-forward_columns-start
slice_bounds-forward_columns-start c = let p = whole _ c.args.factor.now.valid.walked.walk _ c.requires.k_in_bounds in omega arith

pub slice_bounds-forward_columns-end : goal.slice_bounds-forward_columns-end
slice_bounds-forward_columns-end c = let p = whole _ c.args.factor.now.valid.walked.walk _ c.requires.k_in_bounds in omega arith

pub overflow_sub-e : goal.overflow_sub-e
overflow_sub-e c = let p = whole _ c.args.factor.now.valid.walked.walk _ c.requires.k_in_bounds in omega arith

pub column_start-requires : goal.column_start-requires
column_start-requires c = let p = whole _ c.args.factor.now.valid.walked.walk _ c.requires.k_in_bounds in (p.wide, omega (arith, p.few, c.args.factor.now.valid.few))

pub offset_bounds-factor-off : goal.offset_bounds-factor-off
offset_bounds-factor-off c = let f = c.args.factor.now in omega (arith, c.requires.off_value, stretch_in f.valid _ c.requires.k_in_bounds, next_at _ f.valid.walked _ c.requires.k_in_bounds)

pub slice_bounds-forward_columns-count-2 : goal.slice_bounds-forward_columns-count-2
slice_bounds-forward_columns-count-2 c = let f = c.args.factor.now in omega (arith, c.requires.off_value, stretch_in f.valid _ c.requires.k_in_bounds, next_at _ f.valid.walked _ c.requires.k_in_bounds)

pub slice_bounds-forward_columns-start-2 : goal.slice_bounds-forward_columns-start-2
slice_bounds-forward_columns-start-2 c = let f = c.args.factor.now in omega (arith, c.requires.off_value, stretch_in f.valid _ c.requires.k_in_bounds, next_at _ f.valid.walked _ c.requires.k_in_bounds)

pub forward_columns-requires : goal.forward_columns-requires
forward_columns-requires c =
    let f = c.args.factor.now in
    rw c.requires.x_len (block_of _ f.valid.walked _ c.requires.k_in_bounds f.values.now _ c.requires.off_value (stretch_in f.valid _ c.requires.k_in_bounds) f.valid.few)

pub overflow_add-result : goal.overflow_add-result
overflow_add-result c = let f = c.args.factor.now in omega (arith, c.requires.off_value, stretch_in f.valid _ c.requires.k_in_bounds, c.column_start.ensures, next_at _ f.valid.walked _ c.requires.k_in_bounds)

pub shape_of-x : goal.shape_of-x
shape_of-x c = c.forward_columns.auto.x

pub returns : goal.returns
returns c =
    let f = c.args.factor.now in
    record {
      value = omega (arith, c.requires.off_value, c.column_start.ensures, next_at _ f.valid.walked _ c.requires.k_in_bounds);
      x_after = forward_done _ f.valid.walked _ c.requires.k_in_bounds f.values.now _ c.requires.off_value _ _ c.forward_columns.ensures;
    }
