-- `postorder::places` meets its contract. Assumes nothing.
use Prim.Native.Nat.{◌≤◌}
use Rattle.postorder.proofs.Forest.{Placing}
use Rattle.postorder.specs.Order.{Tree}
use Rattle.postorder.proofs.places.Given as goal

abbrev pub invariant-loop-j : goal.invariant-loop-j
invariant-loop-j l = (t : Tree l.n l.parents) × (l.j ≤ l.n) × Placing l.n l.parents t l.j l.ends l.place
