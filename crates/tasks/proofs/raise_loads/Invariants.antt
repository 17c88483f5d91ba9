-- `tasks::raise_loads` meets its contract: what stands from slot k on keeps its sum, and no sum is more than the total. Assumes nothing.
use Rattle.tasks.proofs.Raising.{Loading}
use Rattle.tasks.proofs.raise_loads.Given as goal

abbrev pub invariant-loop-k : goal.invariant-loop-k
invariant-loop-k l = Loading l.supernodes.number l.supernodes.parents.now l.initial.to l.to l.k
