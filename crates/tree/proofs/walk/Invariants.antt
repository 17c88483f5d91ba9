-- `tree::walk` meets its contract. Assumes nothing.
use Prim.Native.Nat.{◌-◌}
use Rattle.tree.proofs.Steps.{Walking}
use Rattle.tree.proofs.walk.Given as goal

abbrev pub invariant-loop-marks : goal.invariant-loop-marks
invariant-loop-marks l = Walking l.matrix.starts.now l.matrix.rows.now l.matrix.n l.k l.i l.initial.marks l.parents l.counts l.marks l.at

abbrev pub decreases-loop-marks : goal.decreases-loop-marks
decreases-loop-marks l = l.k - l.at
