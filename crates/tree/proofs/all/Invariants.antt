-- `tree::all` meets its contract. Assumes nothing.
use Prim.Native.Nat.{◌≤◌}
use Rattle.tree.specs.Pass.{Before}
use lib.ListN.{length}
use mathlib.Core.Path.{◌≡◌}
use Rattle.tree.proofs.all.Given as goal

abbrev pub invariant-loop-k : goal.invariant-loop-k
invariant-loop-k l = (l.k ≤ l.matrix.n) × (length l.marks ≡ l.matrix.n) × Before l.matrix.starts.now l.matrix.rows.now l.matrix.n l.k l.parents l.counts l.marks
