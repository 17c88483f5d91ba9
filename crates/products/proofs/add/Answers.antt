use mathlib.Core.Path.{refl, ap, ◌∙◌}
use Prim.Native.Nat.{◌+◌}
use native.Mathlib.Omega.{arith}
use lib.Ieee.{nan, binary64, add, mul}
use lib.ListN.{get_or}
use Rattle.areas.proofs.Touch as touch
use Rattle.products.proofs.Floats.{pluses_start, pluses_more, pluses_same}
use Rattle.products.proofs.add.Goals as goal

pub loop-k-2-init : goal.loop-k-2-init
loop-k-2-init g c = (omega arith, pluses_start _ _ _ _)

pub loop-k-2-preserved : goal.loop-k-2-preserved
loop-k-2-preserved g c =
    let a = c.args in
    let l = c.loop-k-2 in (
      omega arith,
      ap (λ y. add binary64 l.x (mul binary64 (get_or a.v.now (get_or a.at l.k 0 + c.loop-i.i) nan) y)) (c.loop-k.invariant.2 l.k (omega arith)) ∙
          pluses_more a.v.now a.at c.loop-i.i _ l.k l.invariant.1,
    )

pub loop-i-preserved : goal.loop-i-preserved
loop-i-preserved g c =
    let l = c.loop-i in (
      omega arith,
      touch.more nan _ _ _ _ _ _ _ l.invariant.1 refl (omega arith) (λ k h e. omega arith)
          (pluses_same _ _ _ _ _ c.loop-k-2.invariant.1 (l.invariant.1.outside l.i (λ k h e. omega arith)) (omega arith)),
    )

pub returns : goal.returns
returns g c = touch.end nan _ _ _ _ _ _ c.loop-i.invariant.1 (omega arith) (omega arith)
