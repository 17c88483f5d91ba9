use Rattle.lower.proofs.Passes.{counting_begin, counting_more, counting_ahead, counting_over}
use Rattle.std.proofs.Common.{arith}
use Rattle.lower.proofs.Upper.count_line.Goals as goal

pub loop-p-init : goal.loop-p-init
loop-p-init c = let g = c.args.self.now.sited in let e = c.line-entries.ensures in counting_ahead _ _ _ _ _ g _ c.requires.r_lt_n (counting_begin _ _ _ _ _ g _ c.requires.r_lt_n e.begins c.requires.counted) e.ends

pub loop-p-preserved : goal.loop-p-preserved
loop-p-preserved c = let g = c.args.self.now.sited in let e = c.line-entries.ensures in counting_ahead _ _ _ _ _ g _ c.requires.r_lt_n (counting_more _ _ _ _ _ g _ c.requires.r_lt_n c.loop-p.invariant.0 (omega arith)) e.ends

pub returns : goal.returns
returns c = counting_over _ _ _ _ _ c.args.self.now.sited _ c.requires.r_lt_n c.loop-p.invariant.0 (omega arith)
