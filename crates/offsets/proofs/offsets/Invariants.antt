-- `offsets::offsets` meets its contract: each start is the sum of the sizes before it. Assumes nothing.
use Rattle.offsets.proofs.Sums.{Placing}
use Prim.Native.Nat.{◌-◌}
use Rattle.offsets.proofs.offsets.Given as goal

abbrev pub invariant-loop-k : goal.invariant-loop-k
invariant-loop-k l = Placing l.firsts l.starts l.ns l.initial.to l.to l.at l.k
