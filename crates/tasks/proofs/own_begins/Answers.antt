use mathlib.Core.Path.{refl}
use Rattle.areas.proofs.Front.{front_start, front_more}
use native.Mathlib.Omega.{arith}
use Rattle.tasks.proofs.own_begins.Goals as goal

pub loop-k-init : goal.loop-k-init
loop-k-init c = front_start _ _ _ (c.requires)

pub loop-k-preserved : goal.loop-k-preserved
loop-k-preserved c = front_more c.loop-k.invariant (omega (arith, c.loop-k-test.true)) refl
