use mathlib.Core.Path.{refl}
use native.Mathlib.Omega.{arith}
use lib.Ieee.{nan}
use Rattle.areas.proofs.Touch as touch
use Rattle.products.proofs.Floats.{zero_is}
use Rattle.products.proofs.set1.Goals as goal

pub loop-i-init : goal.loop-i-init
loop-i-init c = (omega arith, touch.none nan _ _ _)

pub loop-i-preserved : goal.loop-i-preserved
loop-i-preserved c =
    let loop' = c.loop-i in
    (omega arith, touch.more nan _ _ _ _ _ _ _ loop'.invariant.1 refl (omega arith) (λ k h e. omega arith) (rw zero_is))

pub returns : goal.returns
returns c = touch.end nan _ _ _ _ _ _ c.loop-i.invariant.1 (omega arith) (omega arith)
