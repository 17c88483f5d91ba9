-- `products::divide` meets its contract. Touched up to i by quotients. Assumes nothing.
use Prim.Native.Nat.{◌+◌, ◌≤◌}
use lib.ListN.{get_or}
use lib.Ieee.{nan, binary64, div}
use Rattle.areas.specs.Touch.{Touched}
use Rattle.products.proofs.divide.Given as goal

abbrev pub invariant-loop-i : goal.invariant-loop-i
invariant-loop-i l = (l.i ≤ l.n) × Touched nan l.initial.own l.own l.i (λ i. l.at + i) (λ i. div binary64 (get_or l.initial.own (l.at + i) nan) l.r)
