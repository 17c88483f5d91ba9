-- `structure::line` meets its contract: each entry before p began a walk. Assumes nothing.
use Rattle.structure.proofs.Climbs.{Lining}
use Rattle.structure.proofs.line.Given as goal

abbrev pub invariant-loop-p : goal.invariant-loop-p
invariant-loop-p l = Lining l.numbering.matrix.n l.numbering.matrix.starts.now l.numbering.matrix.rows.now l.r l.k l.initial.marks l.initial.next l.initial.to l.marks l.next l.to l.p
