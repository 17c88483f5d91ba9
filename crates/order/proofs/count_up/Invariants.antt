-- `order::count_up` meets its contract: the words before i count up. Assumes nothing.
use Rattle.areas.proofs.Front.{Front}
use Rattle.order.proofs.count_up.Given as goal

abbrev pub invariant-loop-i : goal.invariant-loop-i
invariant-loop-i l = Front (λ i. i) l.t l.initial.to l.to l.i
