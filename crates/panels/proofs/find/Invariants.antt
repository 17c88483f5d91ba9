-- `panels::find` meets its contract. The places before t do not hold i. Assumes nothing.
use mathlib.Core.Path.{◌≡◌}
use Prim.Native.Nat.{◌≤◌}
use Rattle.laws.specs.Lower.{among}
use Rattle.panels.proofs.find.Given as goal

abbrev pub invariant-loop-t : goal.invariant-loop-t
invariant-loop-t l = (l.t ≤ l.t1) × (among l.rows l.vals l.t0 l.t1 l.i ≡ among l.rows l.vals l.t l.t1 l.i)
