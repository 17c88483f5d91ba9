-- `solving::scatter` meets its contract: the unknowns before q are back. Assumes nothing.
use Rattle.solving.proofs.Order.{Back}
use Rattle.solving.proofs.scatter.Given as goal

abbrev pub invariant-loop-q : goal.invariant-loop-q
invariant-loop-q l = Back l.permutation l.x l.initial.b l.b l.q
