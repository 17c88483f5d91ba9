-- `solve::column_part` meets its contract: the column of its supernode's panel. Assumes nothing.
use mathlib.Core.Path.{◌∙◌}
use native.Mathlib.Omega.{arith}
use Rattle.laws.proofs.Walked.{whole}
use Rattle.solve.proofs.Viewed.{part_in, part_within, part_is}
use Rattle.solve.proofs.column_part.Goals as goal

pub owner-k-requires : goal.owner-k-requires
owner-k-requires c =
    let pre' = c.requires in record { by_index = c.args.walked.now.valid.framed.rise; firsts_bound = (omega (arith, c.args.walked.now.valid.framed.from), omega (arith, c.args.walked.now.valid.framed.ends, pre'.n_bound.1)) }

pub overflow_sub-c : goal.overflow_sub-c
overflow_sub-c c =
    let owner' = c.owner-k in
    omega (arith, owner'.ensures.from)

pub overflow_add-m : goal.overflow_add-m
overflow_add-m c =
    let owner' = c.owner-k in
    omega (arith, owner'.ensures.inside)

pub overflow_sub-m : goal.overflow_sub-m
overflow_sub-m c =
    let pre' = c.requires in
    let owner' = c.owner-k in
    omega (arith, (whole _ c.args.walked.now.valid owner'.result owner'.ensures.inside).node.down)

pub offset-off-requires : goal.offset-off-requires
offset-off-requires c =
    let pre' = c.requires in
    let owner' = c.owner-k in (pre'.n_bound.0, omega (arith, owner'.ensures.inside))

pub offset_bounds-values-off : goal.offset_bounds-values-off
offset_bounds-values-off c =
    let pre' = c.requires in
    let args' = c.args in
    let owner' = c.owner-k in
    let offset' = c.offset-off in
    omega (arith, part_in _ c.args.walked.now.valid args'.q _ owner'.ensures, pre'.firsts_in_bounds, offset'.ensures)

pub slice_bounds-column-count : goal.slice_bounds-column-count
slice_bounds-column-count c =
    let pre' = c.requires in
    let args' = c.args in
    let owner' = c.owner-k in
    let offset' = c.offset-off in
    omega (arith, part_in _ c.args.walked.now.valid args'.q _ owner'.ensures, pre'.firsts_in_bounds, offset'.ensures)

pub slice_bounds-column-start : goal.slice_bounds-column-start
slice_bounds-column-start c =
    let pre' = c.requires in
    let args' = c.args in
    let owner' = c.owner-k in
    let offset' = c.offset-off in
    omega (arith, part_in _ c.args.walked.now.valid args'.q _ owner'.ensures, pre'.firsts_in_bounds, offset'.ensures)

pub column-requires : goal.column-requires
column-requires c =
    let pre' = c.requires in
    let args' = c.args in
    let owner' = c.owner-k in
    let offset' = c.offset-off in
    part_within _ c.args.walked.now.valid args'.q _ owner'.ensures args'.values.now _ offset'.ensures pre'.firsts_in_bounds pre'.n_bound.0

pub returns : goal.returns
returns c =
    let panel-column' = c.column in
    let pre' = c.requires in
    let args' = c.args in
    let owner' = c.owner-k in
    let offset' = c.offset-off in
    panel-column'.ensures ∙ part_is _ c.args.walked.now.valid args'.q _ owner'.ensures args'.values.now _ offset'.ensures
