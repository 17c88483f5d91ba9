-- `spread::store_through` meets its contract. Touched up to i, each at its own place. Assumes nothing.
use Prim.Native.Nat.{◌+◌, ◌≤◌}
use lib.ListN.{get_or}
use lib.Ieee.{nan}
use Rattle.areas.specs.Touch.{Touched}
use Rattle.spread.specs.Spread.{through}
use Rattle.spread.proofs.store_through.Given as goal

abbrev pub invariant-loop-i : goal.invariant-loop-i
invariant-loop-i l = (l.i ≤ l.n) × Touched nan l.initial.own l.own l.i (through l.place l.rows l.base l.at) (λ i. get_or l.vals (l.at + i) nan)
