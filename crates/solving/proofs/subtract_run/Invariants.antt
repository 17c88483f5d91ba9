-- `solving::subtract_run` meets its contract: the places that are left take x to the whole. Assumes nothing.
use mathlib.Core.Path.{◌≡◌}
use Prim.Native.Nat.{◌≤◌}
use lib.ListN.{length, drop}
use Rattle.statement.specs.Lists.{rising}
use Rattle.statement.specs.Solve.{less_below}
use Rattle.solving.proofs.subtract_run.Given as goal

abbrev pub invariant-loop-i : goal.invariant-loop-i
invariant-loop-i l = (l.i ≤ length l.values) × (length l.x ≡ length l.initial.x) × (less_below l.initial.x l.y (rising l.at (length l.values)) l.values ≡ less_below l.x l.y (drop l.i (rising l.at (length l.values))) (drop l.i l.values))
