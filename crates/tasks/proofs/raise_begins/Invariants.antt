-- `tasks::raise_begins` meets its contract: after k turns the supernodes below k have handed their first on. Assumes nothing.
use Rattle.tasks.proofs.Raising.{Leading}
use Rattle.tasks.proofs.raise_begins.Given as goal

abbrev pub invariant-loop-k : goal.invariant-loop-k
invariant-loop-k l = Leading l.supernodes.number l.supernodes.parents.now l.initial.to l.to l.k
