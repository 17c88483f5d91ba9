-- `solving::reduce_run` meets its contract: the places that are left take t to the whole. Assumes nothing.
use mathlib.Core.Path.{◌≡◌}
use Prim.Native.Nat.{◌≤◌}
use lib.ListN.{length, drop}
use Rattle.statement.specs.Lists.{rising}
use Rattle.statement.specs.Solve.{less_above}
use Rattle.solving.proofs.reduce_run.Given as goal

abbrev pub invariant-loop-i : goal.invariant-loop-i
invariant-loop-i l = (l.i ≤ length l.values) × (less_above l.z l.x (rising l.at (length l.values)) l.values ≡ less_above l.t l.x (drop l.i (rising l.at (length l.values))) (drop l.i l.values))
