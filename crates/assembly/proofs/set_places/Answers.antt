use mathlib.Core.Path.{refl}
use native.Mathlib.Omega.{arith}
use Rattle.areas.proofs.Touch as touch
use Rattle.assembly.proofs.set_places.Goals as goal

pub loop-p-init : goal.loop-p-init
loop-p-init c = (omega arith, touch.none 0 _ _ _)

pub offset_bounds-place-r : goal.offset_bounds-place-r
offset_bounds-place-r c = omega (arith, c.requires.by_index c.loop-p.p c.loop-p-test.true, c.loop-p.invariant.1.size)

pub bounds-place-r : goal.bounds-place-r
bounds-place-r c = omega (arith, c.requires.by_index c.loop-p.p c.loop-p-test.true, c.loop-p.invariant.1.size)

pub loop-p-preserved : goal.loop-p-preserved
loop-p-preserved c = (omega arith, touch.more 0 _ _ _ _ _ _ _ c.loop-p.invariant.1 refl (c.requires.by_index c.loop-p.p c.loop-p-test.true) (λ k h e. omega (arith, c.requires.by_index_2 k c.loop-p.p h c.loop-p-test.true)) refl)

pub returns : goal.returns
returns c = touch.end 0 _ _ _ _ _ _ c.loop-p.invariant.1 (omega arith) (omega arith)
