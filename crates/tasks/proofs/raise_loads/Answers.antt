use Rattle.tasks.proofs.Raising.{loading_begin, loading_more, loading_over, loading_fits}
use native.Mathlib.Omega.{arith}
use Rattle.tasks.proofs.raise_loads.Goals as goal

pub loop-k-init : goal.loop-k-init
loop-k-init c = loading_begin _ _ _

pub overflow_add-to : goal.overflow_add-to
overflow_add-to c = omega (arith, c.requires.fits, loading_fits c.loop-k.invariant c.args.supernodes.now.above c.requires.room c.loop-k-test.true)

pub loop-k-preserved : goal.loop-k-preserved
loop-k-preserved c = loading_more c.loop-k.invariant c.args.supernodes.now.above c.requires.room c.loop-k-test.true

pub returns : goal.returns
returns c = loading_over c.loop-k.invariant c.args.supernodes.now.above c.requires.room c.loop-k-test.false
