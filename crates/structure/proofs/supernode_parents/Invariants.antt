-- `structure::supernode_parents` meets its contract: the first k parents stand at the front. Assumes nothing.
use Rattle.structure.specs.Line.{factored_pattern}
use Rattle.structure.specs.Node.{above}
use Rattle.areas.proofs.Front.{Front}
use Rattle.structure.proofs.supernode_parents.Given as goal

abbrev pub invariant-loop-k : goal.invariant-loop-k
invariant-loop-k l = Front (above (factored_pattern l.supernodes.matrix.n l.supernodes.matrix.starts.now l.supernodes.matrix.rows.now) l.supernodes.matrix.n) l.supernodes.number l.initial.to l.to l.k
