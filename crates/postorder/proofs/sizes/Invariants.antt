-- `postorder::sizes` meets its contract. Assumes nothing.
use Prim.Native.Nat.{suc, ◌≤◌}
use Rattle.postorder.specs.Order.{up}
use lib.ListN.{length}
use mathlib.Core.Path.{◌≡◌}
use Rattle.laws.specs.Pass as Post
use Rattle.postorder.proofs.sizes.Given as goal

abbrev pub invariant-loop-j : goal.invariant-loop-j
invariant-loop-j l = (l.j ≤ l.n) × (length l.size ≡ suc l.n) × (l.size ≡ Post.sizes (up l.parents) l.n l.j)
