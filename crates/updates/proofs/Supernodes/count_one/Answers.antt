use Rattle.std.proofs.Common.{arith}
use Rattle.updates.proofs.Turns.{opens, turn_more, counting_begin, counting_more, counting_ahead, counting_over}
use Rattle.updates.proofs.Supernodes.count_one.Goals as goal

pub past-p-requires : goal.past-p-requires
past-p-requires c = (opens _ _ _ _ _ _ _ _ c.args.self.now.laid _ c.requires.k_lt_ns).past

pub loop-p-init : goal.loop-p-init
loop-p-init c = let w = counting_begin _ _ _ _ _ _ _ _ c.args.self.now.laid _ c.requires.k_lt_ns c.requires.counted in counting_ahead _ _ _ _ _ _ _ _ c.args.self.now.laid _ c.requires.k_lt_ns (rw (← c.past-p.ensures) at w)

pub loop-p-smaller : goal.loop-p-smaller
loop-p-smaller c = omega (arith, turn_more _ _ _ _ _ _ _ _ c.args.self.now.laid _ c.requires.k_lt_ns _ c.loop-p.invariant.0.place c.loop-p-test.true c.run_end-p.ensures)

pub loop-p-preserved : goal.loop-p-preserved
loop-p-preserved c = counting_ahead _ _ _ _ _ _ _ _ c.args.self.now.laid _ c.requires.k_lt_ns (counting_more _ _ _ _ _ _ _ _ c.args.self.now.laid _ c.requires.k_lt_ns c.loop-p.invariant.0 c.loop-p-test.true c.run_end-p.ensures)

pub returns : goal.returns
returns c = counting_over _ _ _ _ _ _ _ _ c.args.self.now.laid _ c.requires.k_lt_ns c.loop-p.invariant.0 c.loop-p-test.false
