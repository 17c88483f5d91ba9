-- `analysis::verdict` meets its contract: areas 9 to 11, then number 12. Assumes nothing.
use mathlib.Core.Path.{sym, ◌∙◌}
use Rattle.statement.specs.Answers.{test}
use Rattle.laws.specs.Answered.{passed}
use Rattle.laws.proofs.Passed.{exit_is, or_passed, or_refused}
use Rattle.analysis.proofs.verdict.Goals as goal

pub returns-in_err-factor : goal.returns-in_err-factor
returns-in_err-factor c = exit_is c.from_residual.ensures.1 ∙ or_refused _ _ c.in_err-factor.ensures

pub returns-then-differs : goal.returns-then-differs
unfolding test passed
returns-then-differs c = sym (rw (or_passed _ _ c.in_ok-factor.ensures, c.if-differs.true))

pub returns : goal.returns
unfolding test passed
returns c = sym (rw (or_passed _ _ c.in_ok-factor.ensures, c.if-differs.false))
