-- `products::by` meets its contract. The sums over the columns below k stand in work; of the next N columns the first j places stand in `at`. Assumes
-- nothing.
use mathlib.Core.Path.{◌≡◌}
use Prim.Native.Nat.{ℕ, ◌+◌, ◌-◌, ◌≤◌, ◌<◌}
use lib.ListN.{get_or, length}
use Rattle.products.proofs.Rising as rise
use Rattle.products.proofs.by.Given as goal

abbrev pub invariant-loop-k : goal.invariant-loop-k
invariant-loop-k g l = (l.k ≤ l.kw) × rise.Stands l.m l.q l.k l.src × rise.Summed l.initial.work l.v l.m l.q (l.m - l.q) l.work l.k

abbrev pub decreases-loop-k : goal.decreases-loop-k
decreases-loop-k g l = l.kw - l.k

abbrev pub invariant-loop-j : goal.invariant-loop-j
invariant-loop-j g l = (l.j ≤ g.row.N) × (length l.at ≡ g.row.N) × rise.Stands l.m l.q (l.k + l.j) l.src × ((i : ℕ) → i < l.j → rise.Stands l.m l.q (l.k + i) (get_or l.at i 0))
