-- `room::scratch` meets its contract: areas 1 to 7, then 8. Assumes nothing.
use mathlib.Core.Path.{sym, ◌∙◌}
use Rattle.laws.proofs.Passed.{exit_is, short_more, short_less}
use Rattle.room.proofs.scratch.Goals as goal

pub returns-in_err-words : goal.returns-in_err-words
returns-in_err-words c = exit_is c.from_residual.ensures.1 ∙ short_less _ _ c.in_err-words.ensures

pub returns : goal.returns
returns c = c.holds.ensures ∙ sym (short_more _ _ c.in_ok-words.ensures)
