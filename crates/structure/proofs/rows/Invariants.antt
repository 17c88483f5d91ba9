-- `structure::rows` meets its contract: the rows below r stand in their supernodes' lists. Assumes nothing.
use Rattle.structure.proofs.Climbs.{All}
use mathlib.Core.Path.{◌≡◌}
use lib.ListN.{length}
use Rattle.structure.proofs.rows.Given as goal

abbrev pub invariant-loop-r : goal.invariant-loop-r
invariant-loop-r l = (All l.numbering.matrix.n l.numbering.matrix.starts.now l.numbering.matrix.rows.now l.initial.to l.marks l.next l.to l.r) × (length l.marks ≡ length l.initial.marks) × (length l.next ≡ length l.initial.next)
