-- `solving::forward_columns` meets its contract: the columns before c are done. Assumes nothing.
use mathlib.Core.List.{List}
use mathlib.Core.Path.{◌≡◌}
use Prim.Native.Nat.{ℕ, ◌+◌, ◌≤◌}
use lib.Ieee.{Float}
use lib.ListN.{length}
use Rattle.statement.specs.Solve.{forward}
use Rattle.statement.specs.Shape.{Shape}
use Rattle.solving.specs.Walk.{Supernode}
use Rattle.solving.proofs.forward_columns.Given as goal

abbrev pub invariant-loop-c : goal.invariant-loop-c
invariant-loop-c l = (l.c ≤ l.w) × (length l.x ≡ length l.initial.x) × ((S : Shape) (K : ℕ) (v z : List Float) → Supernode S K v l.rows l.values l.f l.w → l.initial.x ≡ forward S v z (l.f + l.done) → l.x ≡ forward S v z (l.f + l.c))
