-- `frames::scan` meets its contract: the lines before line `line` are read, and what is left follows at `at`. Assumes nothing.
use Prim.Native.Nat.{◌-◌}
use lib.ListN.{length}
use Rattle.frames.proofs.Going.{Going}
use Rattle.frames.proofs.scan.Given as goal

abbrev pub invariant-loop-at : goal.invariant-loop-at
invariant-loop-at l = Going l.text l.initial.starts l.initial.rows l.initial.values l.initial.right l.starts l.rows l.values l.right l.p l.at l.line

abbrev pub decreases-loop-at : goal.decreases-loop-at
decreases-loop-at l = length l.text - l.at
