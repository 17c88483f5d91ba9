-- `products::subtract_product` meets its contract. Touched up to i by sums of one; the source lies before the destination. Assumes nothing.
use Prim.Native.Nat.{◌+◌, ◌≤◌}
use lib.ListN.{get_or}
use lib.Ieee.{nan, binary64, sub}
use Rattle.statement.specs.Input.{+0}
use Rattle.areas.specs.Touch.{Touched}
use Rattle.products.specs.Products.{plus}
use Rattle.products.proofs.subtract_product.Given as goal

abbrev pub invariant-loop-i : goal.invariant-loop-i
invariant-loop-i l = (l.i ≤ l.n) × Touched nan l.initial.own l.own l.i (λ i. l.dst + i) (λ i. sub binary64 (get_or l.initial.own (l.dst + i) nan) (plus l.initial.own l.src i +0))
