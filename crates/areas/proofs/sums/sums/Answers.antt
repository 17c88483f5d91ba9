use Rattle.areas.proofs.Summing.{summing_begin, summing_more, summing_over}
use native.Mathlib.Omega.{arith}
use Rattle.areas.proofs.sums.sums.Goals as goal

pub loop-k-init : goal.loop-k-init
loop-k-init c = summing_begin _ _ c.args.to.now c.requires.m_bound.2

pub overflow_add-to : goal.overflow_add-to
overflow_add-to c = omega (arith, c.requires.by_index _ c.loop-k-test.true)

pub loop-k-preserved : goal.loop-k-preserved
loop-k-preserved c = summing_more c.loop-k.invariant c.loop-k-test.true (c.requires.by_index _ c.loop-k-test.true)

pub returns : goal.returns
returns c = summing_over c.args.to.now c.loop-k.invariant c.loop-k-test.false
