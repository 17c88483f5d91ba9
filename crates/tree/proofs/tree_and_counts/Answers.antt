-- `tree::tree_and_counts` meets its contract. Assumes nothing.
use lib.Seq.{length-take-le}
use mathlib.Core.Path.{sym}
use Rattle.tree.proofs.tree_and_counts.Goals as goal

pub slice_bounds-all-end-2 : goal.slice_bounds-all-end-2
slice_bounds-all-end-2 c = sym (length-take-le _ _ c.requires.n_in_bounds.0)

pub slice_bounds-all-end-4 : goal.slice_bounds-all-end-4
slice_bounds-all-end-4 c = sym (length-take-le _ _ c.requires.n_in_bounds.1)

pub slice_bounds-all-end-6 : goal.slice_bounds-all-end-6
slice_bounds-all-end-6 c = sym (length-take-le _ _ c.requires.n_in_bounds.2)

pub all-requires : goal.all-requires
all-requires c = let q = c.requires in record { parents_len = (length-take-le _ _ q.n_in_bounds.0, length-take-le _ _ q.n_in_bounds.1, length-take-le _ _ q.n_in_bounds.2) }

pub returns : goal.returns
returns c = let e = c.all.ensures in record { parents_after = rw e.parents_after; counts_after = rw e.counts_after; marks_after = rw e.marks_after }
