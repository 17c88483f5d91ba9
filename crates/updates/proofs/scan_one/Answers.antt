use Rattle.std.proofs.Common.{arith}
use Rattle.updates.proofs.Turns.{opens}
use Rattle.updates.proofs.Scanning.{scanning_begin, scanning_on, scanning_more, scanning_ahead, scanning_over}
use Rattle.updates.proofs.scan_one.Goals as goal

pub past-p-requires : goal.past-p-requires
past-p-requires c = (opens _ _ _ _ _ _ _ _ c.requires.laid _ c.requires.inside).past

pub loop-p-init : goal.loop-p-init
loop-p-init c = let w = scanning_begin _ _ _ _ _ _ _ _ _ c.requires in scanning_ahead _ _ _ _ _ _ _ _ _ c.requires (rw (← c.past-p.ensures) at w)

pub loop-p-smaller : goal.loop-p-smaller
loop-p-smaller c = omega (arith, scanning_on _ _ _ _ _ _ _ _ _ c.requires c.loop-p.invariant.0 c.loop-p-test.true c.run_end-q.ensures)

pub loop-p-preserved : goal.loop-p-preserved
loop-p-preserved c = scanning_ahead _ _ _ _ _ _ _ _ _ c.requires (scanning_more _ _ _ _ _ _ _ _ _ c.requires c.loop-p.invariant.0 c.loop-p-test.true c.run_end-q.ensures c.spot.ensures)

pub returns : goal.returns
returns c = scanning_over _ _ _ _ _ _ _ _ _ c.requires c.loop-p.invariant.0 c.loop-p-test.false
