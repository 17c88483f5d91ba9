-- `structure::climb` meets its contract: `Climbing` says where the walk stands. Assumes nothing.
use Rattle.structure.proofs.Climbs.{Climbing}
use Rattle.structure.specs.Line.{pattern}
use lib.ListN.{length}
use Prim.Native.Nat.{◌-◌}
use Rattle.structure.proofs.climb.Given as goal

abbrev pub invariant-loop-marks : goal.invariant-loop-marks
invariant-loop-marks l = Climbing (pattern l.numbering.matrix) l.numbering.matrix.n l.r l.k l.initial.marks l.initial.next l.initial.to l.marks l.next l.to l.at

abbrev pub decreases-loop-marks : goal.decreases-loop-marks
decreases-loop-marks l = length l.numbering.parents.now - l.at
