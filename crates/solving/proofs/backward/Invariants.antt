-- `solving::backward` meets its contract: the supernodes below k, which are left, take x to the whole. Assumes nothing.
use mathlib.Core.Path.{◌≡◌}
use lib.ListN.{length, get_or}
use Rattle.statement.specs.Shape.{offset}
use Rattle.statement.specs.Solve.{backward}
use Rattle.solving.specs.Shown.{shape_of}
use Rattle.solving.proofs.backward.Given as goal

abbrev pub invariant-loop-k : goal.invariant-loop-k
invariant-loop-k l = record {
  end : l.end ≡ offset (shape_of l.factor) l.k;
  size : length l.x ≡ l.factor.n;
  left : backward (shape_of l.factor) l.factor.values.now l.initial.x l.factor.n ≡ backward (shape_of l.factor) l.factor.values.now l.x (get_or l.factor.firsts.now l.k 0);
}
