-- `structure::structure` meets its contract, call by call. Assumes nothing.
use mathlib.Core.Path.{◌∙◌}
use Rattle.structure.proofs.Twelve.{never_off}
use Rattle.structure.proofs.structure.Goals as goal

pub returns : goal.returns
returns c = let q = c.requires in let a = c.args in record { value = c.differs.ensures ∙ never_off _ _ _ _ q.started.1 c.rows.ensures.ended; to_after = c.rows.ensures.to_after }
