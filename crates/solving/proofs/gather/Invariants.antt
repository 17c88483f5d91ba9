-- `solving::gather` meets its contract: x from the front. Assumes nothing.
use lib.ListN.{length, get_or}
use Rattle.statement.specs.Input.{+0}
use Rattle.areas.proofs.Front.{Front}
use Rattle.solving.proofs.gather.Given as goal

abbrev pub invariant-loop-a : goal.invariant-loop-a
invariant-loop-a l = Front (λ a. get_or l.b (get_or l.permutation a 0) +0) (length l.initial.x) l.initial.x l.x l.a
