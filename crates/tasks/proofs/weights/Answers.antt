use Rattle.tasks.proofs.Weighing.{weights_over, weight_is}
use Rattle.areas.proofs.Front.{front_start, front_more}
use mathlib.Core.Path.{◌∙◌}
use native.Mathlib.Omega.{arith}
use Rattle.tasks.proofs.weights.Goals as goal

pub loop-k-init : goal.loop-k-init
loop-k-init c = front_start _ _ _ (omega (arith, c.requires.room))

pub loop-k-preserved : goal.loop-k-preserved
loop-k-preserved c = front_more c.loop-k.invariant c.loop-k-test.true (c.weight.ensures ∙ weight_is c.args.supernodes.now.firsts.now c.args.supernodes.now.starts.now c.loop-k.k)

pub returns : goal.returns
returns c = weights_over c.args.supernodes.now.firsts.now c.args.supernodes.now.starts.now c.loop-k.invariant c.loop-k-test.false c.requires.room
