-- `spread::is_run` meets its contract. Positions that rise are a run just where the last is n - 1 after the first. Assumes nothing.
use native.Mathlib.Omega.{arith}
use borrow.Author.Tests.{eq-eqb}
use Rattle.spread.proofs.Runs as runs
use Rattle.spread.proofs.is_run.Goals as goal

pub offset_bounds-place-r : goal.offset_bounds-place-r
offset_bounds-place-r c = omega (arith, runs.known_first _ _ _ _ c.requires)

pub bounds-place-r : goal.bounds-place-r
bounds-place-r c = runs.known_first _ _ _ _ c.requires

pub offset_bounds-place-s : goal.offset_bounds-place-s
offset_bounds-place-s c = omega (arith, runs.known_last _ _ _ _ c.requires)

pub bounds-place-s : goal.bounds-place-s
bounds-place-s c = runs.known_last _ _ _ _ c.requires

pub overflow_sub-result : goal.overflow_sub-result
overflow_sub-result c = runs.in_order _ _ _ _ c.requires

pub overflow_sub-result-2 : goal.overflow_sub-result-2
overflow_sub-result-2 c = omega (arith, c.requires.some)

pub returns : goal.returns
returns c = (λ e. runs.run_of _ _ _ _ c.requires _ e (omega arith), λ r. eq-eqb _ _ (runs.of_run _ _ _ _ c.requires r))
