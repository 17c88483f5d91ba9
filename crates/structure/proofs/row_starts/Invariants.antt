-- `structure::row_starts` meets its contract: the first k sums stand at the front. Assumes nothing.
use Rattle.structure.proofs.Begun.{first_count}
use Rattle.areas.proofs.Summing.{Summing}
use Rattle.structure.proofs.row_starts.Given as goal

abbrev pub invariant-loop-k : goal.invariant-loop-k
invariant-loop-k l = Summing (first_count l.supernodes.matrix.n l.supernodes.matrix.starts.now l.supernodes.matrix.rows.now) l.supernodes.number l.initial.to l.to l.k
