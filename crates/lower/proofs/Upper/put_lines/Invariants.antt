-- `lower::Upper::put_lines` meets its contract: row by row. Assumes nothing.
use Rattle.std.proofs.Common.{◌≤◌}
use Rattle.lower.specs.Entries.{Put}
use Rattle.lower.proofs.Upper.put_lines.Given as goal

abbrev pub invariant-loop-r : goal.invariant-loop-r
invariant-loop-r l = let m = l.self.matrix in Put m.n m.starts.now m.rows.now m.values.now l.r l.next l.to_rows l.to_values × (l.r ≤ m.n)
