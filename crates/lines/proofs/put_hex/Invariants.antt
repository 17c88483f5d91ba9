-- `lines::put_hex` meets its contract: the first i digits stand in their places. Assumes nothing.
use Rattle.std.proofs.Common.{◌≡◌}
use lib.Seq.{paste}
use Rattle.statement.specs.Job.{hex}
use Rattle.lines.proofs.put_hex.Given as goal

abbrev pub invariant-loop-i : goal.invariant-loop-i
invariant-loop-i l = l.out ≡ paste l.initial.out l.at (hex l.k l.x) l.i
