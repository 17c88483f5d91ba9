-- `room::factor` meets its contract, area by area. Assumes nothing.
use mathlib.Core.Path.{sym, ◌∙◌}
use Rattle.laws.proofs.Passed.{exit_is, short_met, short_first}
use Rattle.room.proofs.factor.Goals as goal

pub returns-in_err-holds : goal.returns-in_err-holds
returns-in_err-holds c = exit_is c.from_residual.ensures.1 ∙ short_first _ _ c.in_err-holds.ensures

pub returns-in_err-holds-2 : goal.returns-in_err-holds-2
returns-in_err-holds-2 c = exit_is c.from_residual-in_err-holds-2.ensures.1 ∙ short_first _ _ c.in_err-holds-2.ensures ∙ sym (short_met _ _ c.in_ok-holds.ensures)

pub returns : goal.returns
returns c = c.holds-3.ensures ∙ sym (short_met _ _ c.in_ok-holds.ensures ∙ short_met _ _ c.in_ok-holds-2.ensures)
