-- `supernodes::children` meets its contract. Assumes nothing.
use Prim.Native.Nat.{suc, ◌≤◌}
use Rattle.statement.specs.Lists.{list}
use Rattle.supernodes.specs.Found.{kids_of}
use lib.ListN.{length}
use mathlib.Core.Path.{◌≡◌}
use Rattle.supernodes.proofs.children.Given as goal

abbrev pub invariant-loop-j : goal.invariant-loop-j
invariant-loop-j l = (l.j ≤ l.n) × (length l.kids ≡ suc l.n) × (l.kids ≡ list (kids_of l.parents l.j) (suc l.n))
