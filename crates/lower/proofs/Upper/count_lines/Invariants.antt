-- `lower::Upper::count_lines` meets its contract: row by row. Assumes nothing.
use Rattle.std.proofs.Common.{◌≤◌}
use Rattle.lower.specs.Entries.{Counted}
use Rattle.lower.proofs.Upper.count_lines.Given as goal

abbrev pub invariant-loop-r : goal.invariant-loop-r
invariant-loop-r l = let m = l.self.matrix in Counted m.n m.starts.now m.rows.now l.r l.counts × (l.r ≤ m.n)
