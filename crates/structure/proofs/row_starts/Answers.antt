use Rattle.structure.proofs.Begun.{few, first_below, count_small, starts_more, starts_over}
use Rattle.areas.proofs.Summing.{summing_begin}
use native.Mathlib.Omega.{arith}
use Rattle.structure.proofs.row_starts.Goals as goal

pub loop-k-init : goal.loop-k-init
loop-k-init c = summing_begin _ _ c.args.to.now c.requires.room

pub offset_bounds-counts-supernodes : goal.offset_bounds-counts-supernodes
offset_bounds-counts-supernodes c = omega (arith, first_below _ _ _ _ _ c.args.supernodes.now.known _ c.loop-k-test.true, c.requires.counted.fits)

pub bounds-counts-supernodes : goal.bounds-counts-supernodes
bounds-counts-supernodes c = omega (arith, first_below _ _ _ _ _ c.args.supernodes.now.known _ c.loop-k-test.true, c.requires.counted.fits)

pub overflow_add-to : goal.overflow_add-to
overflow_add-to c = omega (arith, count_small _ _ _ _ _ c.args.supernodes.now.known _ c.requires.counted _ c.loop-k-test.true, few _ _ _ _ _ c.args.supernodes.now.known, c.args.supernodes.now.known.small)

pub loop-k-preserved : goal.loop-k-preserved
loop-k-preserved c = let q = c.requires in starts_more _ _ _ _ _ c.args.supernodes.now.known _ q.counted _ c.loop-k-test.true c.loop-k.invariant

pub returns : goal.returns
returns c = starts_over _ _ _ _ _ c.args.supernodes.now.known c.args.to.now c.loop-k.invariant c.loop-k-test.false
