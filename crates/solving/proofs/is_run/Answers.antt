-- `solving::is_run` meets its contract: the last row tells. Assumes nothing.
use native.Mathlib.Omega.{arith}
use Rattle.solving.proofs.Runs.{last_after, run_told}
use Rattle.solving.proofs.is_run.Goals as goal

pub overflow_sub-last : goal.overflow_sub-last
overflow_sub-last c = omega (arith, c.requires.some)

pub offset_bounds-rows-last : goal.offset_bounds-rows-last
offset_bounds-rows-last c = omega (arith, c.requires.some)

pub bounds-rows-last : goal.bounds-rows-last
bounds-rows-last c = omega (arith, c.requires.some)

pub overflow_sub-result : goal.overflow_sub-result
overflow_sub-result c = omega (arith, last_after _ _ c.requires)

pub returns : goal.returns
returns c = run_told _ _ c.requires
