-- `panel::panel_start` meets its contract. Assumes nothing.
use mathlib.Core.Path.{refl}
use Rattle.panel.proofs.panel_start.Goals as goal

pub returns : goal.returns
returns c = refl
