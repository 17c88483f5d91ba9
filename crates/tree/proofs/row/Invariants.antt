-- `tree::row` meets its contract. Assumes nothing.
use Rattle.tree.proofs.Steps.{Rowing}
use Rattle.tree.proofs.row.Given as goal

abbrev pub invariant-loop-p : goal.invariant-loop-p
invariant-loop-p l = Rowing l.matrix.starts.now l.matrix.rows.now l.matrix.n l.k l.parents l.counts l.marks l.p
