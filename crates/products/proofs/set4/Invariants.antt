-- `products::set4` meets its contract. Touched up to i by sums of four. Assumes nothing.
use Prim.Native.Nat.{◌≤◌}
use lib.Ieee.{nan}
use Rattle.statement.specs.Input.{+0}
use Rattle.areas.specs.Touch.{Touched}
use Rattle.products.specs.Products.{plus4}
use Rattle.products.proofs.set4.Given as goal

abbrev pub invariant-loop-i : goal.invariant-loop-i
invariant-loop-i l = (l.i ≤ l.n) × Touched nan l.initial.w l.w l.i (λ i. i) (λ i. plus4 l.v l.s0 l.s1 l.s2 l.s3 i +0)
