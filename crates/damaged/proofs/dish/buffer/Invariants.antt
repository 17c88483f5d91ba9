-- `damaged::dish::buffer` is safe and ends, and keeps its length. Assumes nothing.
use Rattle.std.proofs.Common.{◌≡◌, length}
use Rattle.damaged.proofs.dish.buffer.Given as goal

abbrev pub invariant-loop-i : goal.invariant-loop-i
invariant-loop-i l = length l.b ≡ 400
