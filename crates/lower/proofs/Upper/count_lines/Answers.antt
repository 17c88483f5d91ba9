use Rattle.lower.proofs.Passes.{counted_begin, counted_over}
use Rattle.std.proofs.Common.{arith, rules}
use Rattle.lower.proofs.Upper.count_lines.Goals as goal

pub loop-r-init : goal.loop-r-init
loop-r-init c = let m = c.args.self.now.matrix in (counted_begin m.n m.starts.now m.rows.now c.args.counts.now _ c.requires (search rules), omega arith)

pub returns : goal.returns
returns c = counted_over _ _ _ c.loop-r.invariant.0 c.loop-r.invariant.1 c.loop-r-test.false
