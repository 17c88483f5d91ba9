-- `listing::write_one`: the updates below i are put to their places. Assumes nothing.
use Rattle.std.proofs.Common.{◌≡◌, ◌≤◌, drop}
use Rattle.updates.specs.Layout.{updates_at}
use Rattle.updates.specs.Laying.{written}
use Rattle.listing.proofs.write_one.Given as goal

abbrev pub invariant-loop-i : goal.invariant-loop-i
invariant-loop-i l = (l.i ≤ l.c) × (l.us ≡ written l.source l.i (drop (updates_at l.n) l.words) l.initial.us)
