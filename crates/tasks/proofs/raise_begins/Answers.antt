use Rattle.tasks.proofs.Raising.{leading_begin, leading_more, leading_over}
use Rattle.tasks.proofs.raise_begins.Goals as goal

pub loop-k-init : goal.loop-k-init
loop-k-init c = leading_begin _ _ _ c.requires.own

pub loop-k-preserved : goal.loop-k-preserved
loop-k-preserved c = leading_more c.loop-k.invariant c.args.supernodes.now.above c.requires.room c.loop-k-test.true c.min.ensures

pub returns : goal.returns
returns c = leading_over c.loop-k.invariant c.args.supernodes.now.above c.requires.room c.loop-k-test.false
