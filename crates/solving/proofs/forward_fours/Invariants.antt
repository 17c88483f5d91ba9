-- `solving::forward_fours` meets its contract: the columns before c are done, four at a time. Assumes nothing.
use mathlib.Core.Path.{◌≡◌}
use mathlib.Core.List.{List}
use Prim.Native.Nat.{ℕ, ◌+◌, ◌-◌, ◌≤◌}
use lib.ListN.{length}
use lib.Ieee.{Float}
use Rattle.statement.specs.Shape.{Shape}
use Rattle.statement.specs.Solve.{forward}
use Rattle.solving.specs.Walk.{Supernode}
use Rattle.solving.proofs.forward_fours.Given as goal

abbrev pub invariant-loop-c : goal.invariant-loop-c
invariant-loop-c l = (l.c ≤ l.w) × (length l.x ≡ length l.initial.x) × ((S : Shape) (K : ℕ) (v z : List Float) → Supernode S K v l.rows l.values l.f l.w → l.initial.x ≡ forward S v z l.f → l.x ≡ forward S v z (l.f + l.c))

abbrev pub decreases-loop-c : goal.decreases-loop-c
decreases-loop-c l = l.w - l.c
