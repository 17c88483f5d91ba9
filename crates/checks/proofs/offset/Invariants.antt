-- `checks::offset` meets its contract: the supernodes passed are added up, at most 32,768 for each of their columns. Assumes nothing.
use mathlib.Core.Path.{◌≡◌}
use Prim.Native.Nat.{◌*◌, ◌≤◌}
use lib.ListN.{get_or}
use Rattle.statement.specs.Shape.{offset}
use Rattle.checks.specs.Shown.{walk_of}
use Rattle.checks.proofs.offset.Given as goal

abbrev pub invariant-loop-j : goal.invariant-loop-j
invariant-loop-j l = (l.j ≤ l.k) × (l.sum ≡ offset (walk_of l.walked) l.j) × (l.sum ≤ 32768 * get_or l.walked.firsts.now l.j 0)
