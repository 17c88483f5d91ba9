-- `lower::Upper::put_line` meets its contract: before position p of the upper column, each lower column holds what came to it. Assumes nothing.
use Rattle.std.proofs.Common.{get_or}
use Rattle.lower.proofs.Passes.{Putting, Puts}
use Rattle.lower.proofs.Upper.put_line.Given as goal

abbrev pub invariant-loop-p : goal.invariant-loop-p
invariant-loop-p l =
    let m = l.self.matrix in
    Putting m.n m.starts.now m.rows.now m.values.now l.r (get_or l.self.permutation.now l.r 0) l.initial.next l.initial.to_rows l.initial.to_values l.next l.to_rows l.to_values l.p × Puts m.rows.now l.self.places.now l.next l.to_rows l.to_values l.p l.p-end
