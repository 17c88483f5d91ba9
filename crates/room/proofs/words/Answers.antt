-- `room::words` meets its contract, area by area. Assumes nothing.
use mathlib.Core.Path.{sym, ◌∙◌}
use Rattle.laws.proofs.Passed.{exit_is, short_met, short_first}
use Rattle.statement.specs.Areas.{needs}
use Rattle.room.proofs.words.Goals as goal

pub returns-in_err-holds : goal.returns-in_err-holds
unfolding needs
returns-in_err-holds c = exit_is c.from_residual.ensures.1 ∙ short_first _ _ c.in_err-holds.ensures

pub returns-in_err-holds-2 : goal.returns-in_err-holds-2
unfolding needs
returns-in_err-holds-2 c = exit_is c.from_residual-in_err-holds-2.ensures.1 ∙ short_first _ _ c.in_err-holds-2.ensures ∙ sym (short_met _ _ c.in_ok-holds.ensures)

pub returns-in_err-holds-3 : goal.returns-in_err-holds-3
unfolding needs
returns-in_err-holds-3 c = exit_is c.from_residual-in_err-holds-3.ensures.1 ∙ short_first _ _ c.in_err-holds-3.ensures ∙ sym (short_met _ _ c.in_ok-holds.ensures ∙ short_met _ _ c.in_ok-holds-2.ensures)

pub returns-in_err-holds-4 : goal.returns-in_err-holds-4
unfolding needs
returns-in_err-holds-4 c = exit_is c.from_residual-in_err-holds-4.ensures.1 ∙ short_first _ _ c.in_err-holds-4.ensures ∙ sym (short_met _ _ c.in_ok-holds.ensures ∙ short_met _ _ c.in_ok-holds-2.ensures ∙ short_met _ _ c.in_ok-holds-3.ensures)

pub returns-in_err-holds-5 : goal.returns-in_err-holds-5
unfolding needs
returns-in_err-holds-5 c = exit_is c.from_residual-in_err-holds-5.ensures.1 ∙ short_first _ _ c.in_err-holds-5.ensures ∙ sym (short_met _ _ c.in_ok-holds.ensures ∙ short_met _ _ c.in_ok-holds-2.ensures ∙ short_met _ _ c.in_ok-holds-3.ensures ∙ short_met _ _ c.in_ok-holds-4.ensures)

pub returns-in_err-holds-6 : goal.returns-in_err-holds-6
unfolding needs
returns-in_err-holds-6 c = exit_is c.from_residual-in_err-holds-6.ensures.1 ∙ short_first _ _ c.in_err-holds-6.ensures ∙ sym (short_met _ _ c.in_ok-holds.ensures ∙ short_met _ _ c.in_ok-holds-2.ensures ∙ short_met _ _ c.in_ok-holds-3.ensures ∙ short_met _ _ c.in_ok-holds-4.ensures ∙ short_met _ _ c.in_ok-holds-5.ensures)

pub returns : goal.returns
unfolding needs
returns c = c.holds-7.ensures ∙ sym (short_met _ _ c.in_ok-holds.ensures ∙ short_met _ _ c.in_ok-holds-2.ensures ∙ short_met _ _ c.in_ok-holds-3.ensures ∙ short_met _ _ c.in_ok-holds-4.ensures ∙ short_met _ _ c.in_ok-holds-5.ensures ∙ short_met _ _ c.in_ok-holds-6.ensures)
