use Rattle.tasks.proofs.Climbing.{climbing_more, climbing_over, fits_in_lem}
use Prim.Native.Nat.{◌<◌}
use native.Mathlib.Omega.{arith}
use Rattle.tasks.proofs.climb.Goals as goal

pub loop-end-preserved : goal.loop-end-preserved
loop-end-preserved c = let a = c.args.tables.now in
    let h : c.loop-end.r < a.number = fits_in_lem a.number a.begins.now a.loads.now a.most c.args.s c.loop-end.r c.loop-end-test.true c.fits.ensures in
    ((omega (arith, c.loop-end.invariant.1.from), omega arith), climbing_more c.loop-end.invariant.1 a.above c.loop-end-test.true c.fits.ensures)

pub returns : goal.returns
returns c = record { range = c.loop-end.invariant.0; value = climbing_over c.loop-end.invariant.1 c.loop-end-test.false c.fits.ensures }
