-- `frames::line_end` meets its contract: no LF stands before i. Assumes nothing.
use Rattle.std.proofs.Common.{◌≡◌, ◌+◌, drop}
use Rattle.frames.specs.Held.{line_len}
use Rattle.frames.proofs.line_end.Given as goal

abbrev pub invariant-loop-i : goal.invariant-loop-i
invariant-loop-i l = l.i + line_len (drop l.i l.text) ≡ l.at + line_len (drop l.at l.text)
