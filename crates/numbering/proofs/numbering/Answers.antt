-- `numbering::numbering` meets its contract, call by call. Assumes nothing.
use Rattle.statement.specs.Input.{stored}
use Rattle.laws.proofs.Input.{upper}
use Rattle.numbering.proofs.Chain.{tree, columns, parents, parents', done}
use native.Mathlib.Omega.{arith}
use Rattle.numbering.proofs.numbering.Goals as goal

pub order-requires : goal.order-requires
order-requires c = let q = c.requires in let a = c.args in let s = stored a.matrix.now.starts.now a.matrix.now.rows.now in let u = upper a.matrix.now.n a.matrix.now.starts.now a.matrix.now.rows.now a.matrix.now.valid in let t = a.top.now in let g = a.groups.now in let e = q.top_value in record { tree = tree s a.matrix.now.n u t g e.0 e.1; n_in_bounds = (q.enough.six, q.enough.three, q.enough.two, q.enough.five, q.enough.one) }

pub renumber-requires : goal.renumber-requires
renumber-requires c = let q = c.requires in let a = c.args in let s = stored a.matrix.now.starts.now a.matrix.now.rows.now in let u = upper a.matrix.now.n a.matrix.now.starts.now a.matrix.now.rows.now a.matrix.now.valid in let t = a.top.now in let g = a.groups.now in let e = q.top_value in let o = c.order.ensures in record { n_in_bounds = (omega (arith, q.enough), omega (arith, q.enough), q.enough.six, q.enough.four, q.enough.seven); by_index = columns s a.matrix.now.n u t g e.0 e.1 _ _ a.permutation.now a.tasks.now o.perm_after o.place_after; by_index_2 = parents s a.matrix.now.n u t g e.0 e.1 _ _ a.permutation.now a.tasks.now o.perm_after o.place_after }

pub supernodes-requires : goal.supernodes-requires
supernodes-requires c = let q = c.requires in let a = c.args in let s = stored a.matrix.now.starts.now a.matrix.now.rows.now in let u = upper a.matrix.now.n a.matrix.now.starts.now a.matrix.now.rows.now a.matrix.now.valid in let t = a.top.now in let g = a.groups.now in let e = q.top_value in let o = c.order.ensures in let m = c.renumber.ensures in record { n_in_bounds = (omega (arith, q.enough), omega (arith, q.enough), omega (arith, q.enough)); by_index = parents' s a.matrix.now.n u t g e.0 e.1 _ _ a.permutation.now a.tasks.now o.perm_after o.place_after _ _ m.parents_after m.counts_after; n_in_bounds_2 = (omega (arith, q.enough), omega (arith, q.enough)) }

pub returns : goal.returns
returns c = let q = c.requires in let a = c.args in let s = stored a.matrix.now.starts.now a.matrix.now.rows.now in let u = upper a.matrix.now.n a.matrix.now.starts.now a.matrix.now.rows.now a.matrix.now.valid in let t = a.top.now in let g = a.groups.now in let e = q.top_value in let o = c.order.ensures in let m = c.renumber.ensures in let p = c.supernodes.ensures in done s a.matrix.now.n u t g e.0 e.1 _ _ a.permutation.now a.tasks.now o.perm_after o.place_after _ _ m.parents_after m.counts_after _ a.firsts.now a.starts.now _ _ _ _ _ _ o.size_after.1 o.size_after.0 p.value p.first_after p.owner_after p.kids_after
