-- `products::set1` meets its contract. Touched up to i by a sum of one. Assumes nothing.
use Prim.Native.Nat.{◌≤◌}
use lib.Ieee.{nan}
use Rattle.statement.specs.Input.{+0}
use Rattle.areas.specs.Touch.{Touched}
use Rattle.products.specs.Products.{plus}
use Rattle.products.proofs.set1.Given as goal

abbrev pub invariant-loop-i : goal.invariant-loop-i
invariant-loop-i l = (l.i ≤ l.n) × Touched nan l.initial.w l.w l.i (λ i. i) (λ i. plus l.v l.s0 i +0)
