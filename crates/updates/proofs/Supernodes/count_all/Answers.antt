use Rattle.std.proofs.Common.{arith, rules}
use Rattle.updates.specs.Scan.{shaped}
use Rattle.updates.proofs.Passes.{counted_begin, counted_over}
use Rattle.updates.proofs.Supernodes.count_all.Goals as goal

pub loop-k-init : goal.loop-k-init
loop-k-init c = let a = c.args.self.now in (counted_begin (shaped a.matrix.n a.matrix.starts.now a.matrix.rows.now) a.ns a.laid.number c.args.counts.now _ c.requires (search rules), omega arith)

pub returns : goal.returns
returns c = let a = c.args.self.now in counted_over (shaped a.matrix.n a.matrix.starts.now a.matrix.rows.now) a.ns a.laid.number c.loop-k.invariant.0 c.loop-k.invariant.1 c.loop-k-test.false
