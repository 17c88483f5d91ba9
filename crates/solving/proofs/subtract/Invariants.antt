-- `solving::subtract` meets its contract: the rows that are left take x to the whole. Assumes nothing.
use mathlib.Core.Path.{◌≡◌}
use Prim.Native.Nat.{◌≤◌}
use lib.ListN.{length, drop}
use Rattle.statement.specs.Solve.{less_below}
use Rattle.solving.proofs.subtract.Given as goal

abbrev pub invariant-loop-i : goal.invariant-loop-i
invariant-loop-i l = (l.i ≤ length l.rows) × (length l.x ≡ length l.initial.x) × (less_below l.initial.x l.y l.rows l.values ≡ less_below l.x l.y (drop l.i l.rows) (drop l.i l.values))
