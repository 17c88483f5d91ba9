-- `tasks::own_begins` meets its contract: the numbers are written from the front. Assumes nothing.
use Rattle.areas.proofs.Front.{Front}
use Prim.Native.Nat.{suc}
use Rattle.tasks.proofs.own_begins.Given as goal

abbrev pub invariant-loop-k : goal.invariant-loop-k
invariant-loop-k l = Front (λ k. k) (suc l.ns) l.initial.to l.to l.k
