-- `crossing::hand` meets its contract: zeros, and the part over them where it fits. Assumes nothing.
use Rattle.std.proofs.Common.{arith}
use Rattle.std.proofs.lemmas.List.{drop-replicate}
use Rattle.std.proofs.lemmas.Grind.{common_steps}
use Rattle.statement.specs.Areas.{held}
use Rattle.crossing.specs.Words.{handed}
use Rattle.crossing.proofs.hand.Goals as goal

pub returns-then-part-to : goal.returns-then-part-to
unfolding handed held
returns-then-part-to c = let z = c.fill.ensures.after in rw c.copy.ensures.after (grind (arith, common_steps, drop-replicate, z, c.if-part-to.true))
