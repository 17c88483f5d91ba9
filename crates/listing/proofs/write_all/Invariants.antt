-- `listing::write_all`: the updates of the sources below k are written. Assumes nothing.
use Rattle.std.proofs.Common.{◌≤◌}
use Rattle.listing.proofs.Writing.{Writing}
use Rattle.listing.proofs.write_all.Given as goal

abbrev pub invariant-loop-k : goal.invariant-loop-k
invariant-loop-k l = (l.k ≤ l.ns) × Writing l.matrix.n l.ns l.matrix.starts.now l.matrix.rows.now l.initial.words l.words l.initial.us l.us l.k
