-- `widths::answer_all` is safe and ends: each line gets it further. Assumes nothing.
use Rattle.std.proofs.Common.{length, ◌-◌, ◌≤◌}
use Rattle.widths.proofs.answer_all.Given as goal

abbrev pub invariant-loop-l : goal.invariant-loop-l
invariant-loop-l g l = l.at ≤ length l.text

abbrev pub decreases-loop-l : goal.decreases-loop-l
decreases-loop-l g l = length l.text - l.at
