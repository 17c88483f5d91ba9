-- `exports::nosebagged_column` meets its contract: the view, handed out. Assumes nothing.
use mathlib.Core.Path.{refl}
use Rattle.exports.proofs.Crossing.{viewed}
use Rattle.exports.proofs.nosebagged_column.Goals as goal

pub shape_of-to : goal.shape_of-to
shape_of-to c = c.hand.auto.to

pub returns : goal.returns
returns c = viewed _ c.record_of.ensures _ c.column-part.ensures refl c.hand.ensures
