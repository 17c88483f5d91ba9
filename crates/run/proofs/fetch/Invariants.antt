-- `run::fetch`: the updates from lo to below i are at hand. Assumes nothing.
use Rattle.std.proofs.Common.{◌-◌, ◌≤◌}
use Rattle.run.specs.Fetch.{Brought}
use Rattle.run.proofs.fetch.Given as goal

abbrev pub invariant-loop-i : goal.invariant-loop-i
invariant-loop-i l = (l.i ≤ l.hi) × ((l.lo ≤ l.i) × Brought l.lo (l.i - l.lo) l.n l.us l.initial.words l.words)
