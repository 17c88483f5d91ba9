-- `sides::solve_each` meets its contract: one right side after another. Assumes nothing.
use mathlib.Core.Path.{◌≡◌}
use lib.ListN.{length}
use Rattle.solving.specs.Shown.{shape_of}
use Rattle.sides.proofs.Each.{Each}
use Rattle.sides.proofs.solve_each.Given as goal

abbrev pub invariant-loop-j : goal.invariant-loop-j
invariant-loop-j l = record {
  unknowns : length l.x ≡ l.factor.n;
  done : Each l.factor.n l.factor.permutation.now (shape_of l.factor) l.factor.values.now l.sides l.initial.b l.b l.j;
}
