-- `lists::line_at` meets its contract: each number gets the place further. Assumes nothing.
use Rattle.std.proofs.Common.{◌≤◌}
use Rattle.lists.proofs.line_at.Given as goal

abbrev pub invariant-loop-k : goal.invariant-loop-k
invariant-loop-k l = l.at ≤ l.i
