-- `updates::Supernodes::count_all` meets its contract: the updates by the supernodes below k are counted. Assumes nothing.
use Rattle.std.proofs.Common.{◌≤◌}
use Rattle.updates.specs.Scan.{shaped, Counted}
use Rattle.updates.proofs.Supernodes.count_all.Given as goal

abbrev pub invariant-loop-k : goal.invariant-loop-k
invariant-loop-k l = let m = l.self.matrix in Counted (shaped m.n m.starts.now m.rows.now) l.k l.counts × (l.k ≤ l.self.ns)
