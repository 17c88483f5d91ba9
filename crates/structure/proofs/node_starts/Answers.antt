-- `structure::node_starts` meets its contract, call by call. Assumes nothing.
use Rattle.laws.specs.Numbered.{shape}
use Rattle.statement.specs.Input.{stored}
use Rattle.areas.proofs.Tail.{tail_written}
use Rattle.structure.proofs.Areas.{last_start}
use Rattle.structure.proofs.node_starts.Goals as goal

pub returns : goal.returns
returns c = let q = c.requires in let a = c.args in let s = c.row_starts.ensures in record { value = last_start a.supernodes.now.matrix.n a.supernodes.now.number a.supernodes.now.matrix.starts.now a.supernodes.now.matrix.rows.now _ _ a.supernodes.now.known.number s; starts_after = s; tasks_after = tail_written a.supernodes.now.matrix.n a.tasks.now (shape (stored a.supernodes.now.matrix.starts.now a.supernodes.now.matrix.rows.now) a.supernodes.now.matrix.n).parents _ a.supernodes.now.number c.supernode_parents.ensures }
