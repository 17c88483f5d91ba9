-- `forward_four::subtract4` meets its contract. The loop subtracts four products at each place: Touched up to i. Assumes nothing.
use Prim.Native.Nat.{◌+◌, ◌≤◌}
use lib.ListN.{get_or}
use lib.Ieee.{nan}
use Rattle.areas.specs.Touch.{Touched}
use Rattle.forward_four.specs.Four.{less}
use Rattle.forward_four.proofs.subtract4.Given as goal

abbrev pub invariant-loop-i : goal.invariant-loop-i
invariant-loop-i l = (l.i ≤ l.n) × Touched nan l.initial.x l.x l.i (λ i. l.at + i) (λ i. less l.v3 l.y3 (1 + i) (less l.v2 l.y2 (2 + i) (less l.v1 l.y1 (3 + i) (less l.v0 l.y0 (4 + i) (get_or l.initial.x (l.at + i) nan)))))
