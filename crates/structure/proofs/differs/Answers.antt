-- `structure::differs` meets its contract. Assumes nothing.
use mathlib.Core.Path.{◌∙◌}
use Rattle.structure.proofs.Twelve.{differ_is}
use Rattle.structure.proofs.differs.Goals as goal

pub returns : goal.returns
returns c = c.ne.ensures ∙ differ_is c.args.starts.now c.args.next.now c.args.ns c.requires.0 c.requires.1
