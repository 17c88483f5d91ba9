-- `solve::attempt` meets its contract: number 11, then 14, 10 and 5, then the solutions. Assumes nothing.
use mathlib.Core.Path.{◌∙◌}
use Rattle.laws.proofs.Checked.{ready}
use Rattle.laws.proofs.Passed.{exit_is}
use Rattle.laws.proofs.Taken.{no, yes, true_T}
use Rattle.solve.proofs.Answered.{no_factor, refused, roomy, accepted, as_lent}
use Rattle.solve.proofs.attempt.Goals as goal

pub returns-then-not-solvable : goal.returns-then-not-solvable
returns-then-not-solvable c = let l = no_factor _ _ _ _ _ _ (no c.solvable.ensures c.if-not-solvable.true) in record { value = l.0; b_after = l.1 }

pub sides_answer-requires : goal.sides_answer-requires
sides_answer-requires c = (ready _ _ (true_T (yes c.solvable.ensures c.if-not-solvable.false))).viewed.roomy.small

pub returns-in_err-sides_answer : goal.returns-in_err-sides_answer
returns-in_err-sides_answer c =
    let l = refused _ _ _ _ _ _ (yes c.solvable.ensures c.if-not-solvable.false) (as_lent _ _ _ _ _ _ c.solvable.auto.words c.in_err-sides_answer.ensures) in
    record { value = exit_is c.from_residual.ensures.1 ∙ l.0; b_after = l.1 }

pub solve_sides-requires : goal.solve_sides-requires
solve_sides-requires c =
    let h = yes c.solvable.ensures c.if-not-solvable.false in
    record { values_value = h; record_in_bounds = roomy _ _ _ _ _ _ h (as_lent _ _ _ _ _ _ c.solvable.auto.words c.in_ok-sides_answer.ensures) }

pub returns : goal.returns
returns c =
    let l = accepted _ _ _ _ _ _ (yes c.solvable.ensures c.if-not-solvable.false) (as_lent _ _ _ _ _ _ c.solvable.auto.words c.in_ok-sides_answer.ensures) _ c.solve_sides.ensures in
    record { value = l.0; b_after = l.1 }
