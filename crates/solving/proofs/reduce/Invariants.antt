-- `solving::reduce` meets its contract: the rows that are left take t to the whole. Assumes nothing.
use mathlib.Core.Path.{◌≡◌}
use Prim.Native.Nat.{◌≤◌}
use lib.ListN.{length, drop}
use Rattle.statement.specs.Solve.{less_above}
use Rattle.solving.proofs.reduce.Given as goal

abbrev pub invariant-loop-i : goal.invariant-loop-i
invariant-loop-i l = (l.i ≤ length l.rows) × (less_above l.z l.x l.rows l.values ≡ less_above l.t l.x (drop l.i l.rows) (drop l.i l.values))
