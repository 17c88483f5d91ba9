use native.Mathlib.Omega.{arith}
use lib.Ieee.{nan}
use Rattle.areas.proofs.Touch as touch
use Rattle.products.proofs.Floats.{sub_left}
use Rattle.spread.proofs.Stores as stores
use Rattle.spread.proofs.subtract_through.Goals as goal

-- where the begins
pub loop-i-init : goal.loop-i-init
loop-i-init c = (omega arith, touch.none nan _ _ _)

pub overflow_add-r : goal.overflow_add-r
overflow_add-r c = omega (arith, c.requires.spread.listed)

pub offset_bounds-rows-at : goal.offset_bounds-rows-at
offset_bounds-rows-at c = omega (arith, c.requires.spread.listed)

pub bounds-rows-at : goal.bounds-rows-at
bounds-rows-at c = let t = c.before in omega (arith, t.requires.spread.listed)

pub offset_bounds-place-r : goal.offset_bounds-place-r
offset_bounds-place-r c = let t = c.before in omega (arith, t.requires.spread.known t.loop-i.i t.loop-i-test.true)

pub bounds-place-r : goal.bounds-place-r
bounds-place-r c = let t = c.before.before in t.requires.spread.known t.loop-i.i t.loop-i-test.true

pub overflow_add-p : goal.overflow_add-p
overflow_add-p c = let t = c.before.before in omega (arith, t.requires.spread.within t.loop-i.i t.loop-i-test.true)

pub offset_bounds-own-p : goal.offset_bounds-own-p
offset_bounds-own-p c = let t = c.before.before in omega (arith, t.requires.spread.within t.loop-i.i t.loop-i-test.true)

pub bounds-own-p : goal.bounds-own-p
bounds-own-p c = let t = c.before.before.before in stores.room t.requires.spread t.loop-i-test.true t.loop-i.invariant.1

pub offset_bounds-own-p-in-loop-i : goal.offset_bounds-own-p-in-loop-i
offset_bounds-own-p-in-loop-i c = let t = c in omega (arith, t.requires.spread.within t.loop-i.i t.loop-i-test.true)

pub bounds-own-p-in-loop-i : goal.bounds-own-p-in-loop-i
bounds-own-p-in-loop-i c = let t = c in stores.room t.requires.spread t.loop-i-test.true t.loop-i.invariant.1

pub loop-i-preserved : goal.loop-i-preserved
loop-i-preserved c = let t = c in (omega arith, stores.more t.requires.spread t.loop-i-test.true t.loop-i.invariant.1 _ (sub_left _ (stores.kept t.requires.spread t.loop-i-test.true t.loop-i.invariant.1)))

pub returns : goal.returns
returns c = touch.end nan _ _ _ _ _ _ c.loop-i.invariant.1 (omega arith) (omega arith)
