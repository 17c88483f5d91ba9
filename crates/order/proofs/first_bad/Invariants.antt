-- `order::first_bad` meets its contract: no position before p is wrong, and left has the counts as they stand there. Assumes nothing.
use Rattle.order.proofs.Taking.{Taking}
use Rattle.order.proofs.first_bad.Given as goal

abbrev pub invariant-loop-p : goal.invariant-loop-p
invariant-loop-p l = Taking l.parents l.ns l.list l.left l.p
