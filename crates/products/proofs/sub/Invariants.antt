-- `products::sub` meets its contract. The first places of k columns are kept; then Touched up to i, and at the place i the products of k columns are
-- subtracted. The columns lie before the destination. Assumes nothing.
use mathlib.Core.Path.{◌≡◌}
use Prim.Native.Nat.{ℕ, ◌+◌, ◌≤◌, ◌<◌}
use lib.ListN.{get_or, length}
use lib.Ieee.{nan}
use Rattle.areas.specs.Touch.{Touched}
use Rattle.products.specs.Products.{lesses}
use Rattle.products.proofs.sub.Given as goal

abbrev pub invariant-loop-k : goal.invariant-loop-k
invariant-loop-k g l = (l.k ≤ g.row.N) × (length l.first ≡ g.row.N) × ((j : ℕ) → j < l.k → get_or l.first j nan ≡ get_or l.own (get_or l.at j 0) nan)

abbrev pub invariant-loop-i : goal.invariant-loop-i
invariant-loop-i g l = (l.i ≤ l.n) × Touched nan l.initial.own l.own l.i (λ i. l.dst + i) (λ i. lesses l.initial.own l.at i (get_or l.initial.own (l.dst + i) nan) g.row.N)

abbrev pub invariant-loop-k-2 : goal.invariant-loop-k-2
invariant-loop-k-2 g l = (l.k ≤ g.row.N) × (l.x ≡ lesses l.fn.own l.at l.i (get_or l.own (l.dst + l.i) nan) l.k)
