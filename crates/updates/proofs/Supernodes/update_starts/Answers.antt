-- `updates::Supernodes::update_starts` meets its contract, call by call. Assumes nothing.
use Rattle.std.proofs.Common.{arith}
use Rattle.updates.specs.Scan.{shaped}
use Rattle.updates.proofs.Passes.{counts_small, starts_are, last_start}
use Rattle.updates.proofs.Supernodes.update_starts.Goals as goal

pub sums-requires : goal.sums-requires
sums-requires c = let s = counts_small c.args.self.now.laid _ c.count_all.ensures in record { m_bound = (s.0, c.count_all.ensures.fits, omega arith); by_index = s.1 }

pub returns : goal.returns
returns c =
    let a = c.args.self.now in
    let e = starts_are (shaped a.matrix.n a.matrix.starts.now a.matrix.rows.now) a.ns a.laid.number _ c.args.to.now _ c.count_all.ensures c.sums.ensures in
    record { value = last_start (shaped a.matrix.n a.matrix.starts.now a.matrix.rows.now) a.ns a.laid.number _ _ e; to_after = e }
