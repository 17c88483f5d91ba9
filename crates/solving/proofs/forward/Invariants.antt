-- `solving::forward` meets its contract: the supernodes before k are done, and off is where k's values start. Assumes nothing.
use mathlib.Core.Path.{◌≡◌}
use lib.ListN.{length, get_or}
use Rattle.statement.specs.Shape.{offset}
use Rattle.statement.specs.Solve.{forward}
use Rattle.solving.specs.Shown.{shape_of}
use Rattle.solving.proofs.forward.Given as goal

abbrev pub invariant-loop-k : goal.invariant-loop-k
invariant-loop-k l = record {
  off : l.off ≡ offset (shape_of l.factor) l.k;
  size : length l.x ≡ l.factor.n;
  done : l.x ≡ forward (shape_of l.factor) l.factor.values.now l.initial.x (get_or l.factor.firsts.now l.k 0);
}
