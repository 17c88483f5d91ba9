-- `products::add` meets its contract. The first places of k columns are kept; then Touched up to i, and at the place i the products of k columns are
-- added. Assumes nothing.
use mathlib.Core.Path.{◌≡◌}
use Prim.Native.Nat.{ℕ, ◌≤◌, ◌<◌}
use lib.Ieee.{nan}
use lib.ListN.{get_or, length}
use Rattle.areas.specs.Touch.{Touched}
use Rattle.products.specs.Products.{pluses}
use Rattle.products.proofs.add.Given as goal

abbrev pub invariant-loop-k : goal.invariant-loop-k
invariant-loop-k g l = (l.k ≤ g.row.N) × (length l.first ≡ g.row.N) × ((j : ℕ) → j < l.k → get_or l.first j nan ≡ get_or l.v (get_or l.at j 0) nan)

abbrev pub invariant-loop-i : goal.invariant-loop-i
invariant-loop-i g l = (l.i ≤ l.n) × Touched nan l.initial.w l.w l.i (λ i. i) (λ i. pluses l.v l.at i (get_or l.initial.w i nan) g.row.N)

abbrev pub invariant-loop-k-2 : goal.invariant-loop-k-2
invariant-loop-k-2 g l = (l.k ≤ g.row.N) × (l.x ≡ pluses l.v l.at l.i (get_or l.w l.i nan) l.k)
