use mathlib.Core.Path.{refl, ap}
use Prim.Native.Nat.{◌+◌, ◌-◌}
use native.Mathlib.Omega.{arith}
use lib.Ieee.{nan}
use Rattle.areas.proofs.Touch as touch
use Rattle.forward_four.specs.Four.{less}
use Rattle.forward_four.proofs.subtract4.Goals as goal

pub loop-i-init : goal.loop-i-init
loop-i-init c = (omega arith, touch.none nan _ _ _)

pub loop-i-preserved : goal.loop-i-preserved
loop-i-preserved c =
    let loop' = c.loop-i in
    let args' = c.args in
    (omega arith, touch.more nan _ _ _ _ _ _ _ loop'.invariant.1 refl (omega arith) (λ k h e. omega arith) (ap (λ t. less args'.v3.now args'.y3 (1 + loop'.i) (less args'.v2.now args'.y2 (2 + loop'.i) (less args'.v1.now args'.y1 (3 + loop'.i) (less args'.v0.now args'.y0 (4 + loop'.i) t)))) (loop'.invariant.1.outside (args'.at + loop'.i) (λ k h e. omega arith))))

pub shape_of-x : goal.shape_of-x
shape_of-x c =
    let loop' = c.loop-i in
    loop'.invariant.1.size

pub returns : goal.returns
returns c =
    let loop' = c.loop-i in
    touch.end nan _ _ _ _ _ _ loop'.invariant.1 (omega arith) (omega arith)
