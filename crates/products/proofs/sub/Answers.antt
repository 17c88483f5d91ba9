use mathlib.Core.Path.{refl, ap, ap₂, ◌∙◌}
use Prim.Native.Nat.{◌+◌}
use native.Mathlib.Omega.{arith}
use lib.Ieee.{nan, binary64, sub, mul}
use lib.ListN.{get_or}
use Rattle.areas.proofs.Touch as touch
use Rattle.products.proofs.Floats.{lesses_start, lesses_more, lesses_same}
use Rattle.products.proofs.sub.Goals as goal

pub loop-k-2-init : goal.loop-k-2-init
loop-k-2-init g c = (omega arith, lesses_start _ _ _ _)

pub loop-k-2-preserved : goal.loop-k-2-preserved
loop-k-2-preserved g c =
    let a = c.args in
    let l = c.loop-k-2 in
    let s = get_or a.at l.k 0 in
    let before = c.requires.1 l.k c.loop-k-2-test.true in (
      omega arith,
      ap (sub binary64 l.x)
          (ap₂ (mul binary64)
          (c.loop-i.invariant.1.outside (s + c.loop-i.i) (λ k h e. omega (arith, before)))
          (c.loop-k.invariant.2 l.k (omega arith)))
          ∙ lesses_more a.own.now a.at c.loop-i.i _ l.k l.invariant.1,
    )

pub loop-i-preserved : goal.loop-i-preserved
loop-i-preserved g c =
    let l = c.loop-i in (
      omega arith,
      touch.more nan _ _ _ _ _ _ _ l.invariant.1 refl (omega arith) (λ k h e. omega arith)
          (lesses_same _ _ _ _ _ c.loop-k-2.invariant.1 (l.invariant.1.outside (c.args.dst + l.i) (λ k h e. omega arith)) (omega arith)),
    )

pub returns : goal.returns
returns g c = touch.end nan _ _ _ _ _ _ c.loop-i.invariant.1 (omega arith) (omega arith)
