-- `updates::run_end` meets its contract: the rows from p to q are below the bound. Assumes nothing.
use Rattle.std.proofs.Common.{ℕ, ◌≤◌, ◌<◌, get_or}
use Rattle.updates.proofs.run_end.Given as goal

abbrev pub invariant-loop-q : goal.invariant-loop-q
invariant-loop-q l = (x : ℕ) → l.p ≤ x → x < l.q → get_or l.list x 0 < l.bound
