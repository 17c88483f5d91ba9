-- `panels::singles_by` meets its contract. Columns from `from` below k are subtracted singly; of the next N columns the first j places stand in `at`.
-- Assumes nothing.
use mathlib.Core.Path.{◌≡◌}
use Prim.Native.Nat.{ℕ, ◌+◌, ◌-◌, ◌≤◌, ◌<◌}
use lib.ListN.{get_or, length}
use Rattle.products.proofs.Rising as rise
use Rattle.panels.proofs.Columns as cols
use Rattle.panels.proofs.singles_by.Given as goal

abbrev pub invariant-loop-k : goal.invariant-loop-k
invariant-loop-k g l = (l.from ≤ l.k) × (l.k ≤ l.c) × rise.Stands l.m l.c l.k l.src × cols.Singled l.initial.own l.m l.c l.from l.dst l.own l.k

abbrev pub decreases-loop-k : goal.decreases-loop-k
decreases-loop-k g l = l.c - l.k

abbrev pub invariant-loop-j : goal.invariant-loop-j
invariant-loop-j g l = (l.j ≤ g.row.N) × (length l.at ≡ g.row.N) × rise.Stands l.m l.c (l.k + l.j) l.src × ((i : ℕ) → i < l.j → rise.Stands l.m l.c (l.k + i) (get_or l.at i 0))
