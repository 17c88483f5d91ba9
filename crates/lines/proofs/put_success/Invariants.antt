-- `lines::put_success` meets its contract: the lines of the first k unknowns are written. Assumes nothing.
use Rattle.lines.proofs.Written.{Writing}
use Rattle.lines.proofs.put_success.Given as goal

abbrev pub invariant-loop-k : goal.invariant-loop-k
invariant-loop-k l = Writing l.initial.out l.x l.out l.k
