-- `spread::subtract_through` meets its contract. Touched up to i, each at its own place. Assumes nothing.
use Prim.Native.Nat.{◌≤◌}
use lib.ListN.{get_or}
use lib.Ieee.{nan, binary64, sub}
use Rattle.areas.specs.Touch.{Touched}
use Rattle.spread.specs.Spread.{through}
use Rattle.spread.proofs.subtract_through.Given as goal

abbrev pub invariant-loop-i : goal.invariant-loop-i
invariant-loop-i l = (l.i ≤ l.n) × Touched nan l.initial.own l.own l.i (through l.place l.rows l.base l.at) (λ i. sub binary64 (get_or l.initial.own (through l.place l.rows l.base l.at i) nan) (get_or l.work i nan))
