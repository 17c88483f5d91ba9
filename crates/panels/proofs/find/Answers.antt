use mathlib.Core.Path.{refl, sym, ◌∙◌}
use native.Mathlib.Omega.{arith}
use Rattle.products.proofs.Floats.{zero_is}
use Rattle.panels.proofs.Finds as finds
use Rattle.panels.proofs.find.Goals as goal

pub loop-t-init : goal.loop-t-init
loop-t-init c = (omega arith, refl)

pub returns-then-rows-t : goal.returns-then-rows-t
returns-then-rows-t c = finds.hit _ _ c.args.i c.loop-t.t c.args.t1 (omega arith) (omega arith) c.if-rows-t.true ∙ sym c.loop-t.invariant.1

pub loop-t-preserved : goal.loop-t-preserved
loop-t-preserved c = (omega arith, c.loop-t.invariant.1 ∙ finds.miss _ _ c.args.i c.loop-t.t c.args.t1 (omega arith) (omega arith) c.if-rows-t.false)

pub returns : goal.returns
returns c = zero_is ∙ sym (finds.none _ _ c.args.i c.loop-t.t c.args.t1 (omega arith) (omega arith)) ∙ sym c.loop-t.invariant.1
