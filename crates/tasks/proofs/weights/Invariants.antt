-- `tasks::weights` meets its contract: the weights are written from the front. Assumes nothing.
use Rattle.tasks.specs.Given.{weight_in}
use Rattle.areas.proofs.Front.{Front}
use Rattle.tasks.proofs.weights.Given as goal

abbrev pub invariant-loop-k : goal.invariant-loop-k
invariant-loop-k l = Front (weight_in l.supernodes.firsts.now l.supernodes.starts.now) l.supernodes.number l.initial.to l.to l.k
