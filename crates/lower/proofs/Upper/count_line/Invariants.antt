-- `lower::Upper::count_line` meets its contract: before position p of the upper column, each lower column has the count of what came to it. Assumes nothing.
use Rattle.std.proofs.Common.{get_or}
use Rattle.lower.proofs.Passes.{Counting, Counts}
use Rattle.lower.proofs.Upper.count_line.Given as goal

abbrev pub invariant-loop-p : goal.invariant-loop-p
invariant-loop-p l = let m = l.self.matrix in Counting m.n m.starts.now m.rows.now l.r (get_or l.self.permutation.now l.r 0) l.initial.counts l.counts l.p × Counts m.rows.now l.self.places.now l.counts l.p l.p-end
