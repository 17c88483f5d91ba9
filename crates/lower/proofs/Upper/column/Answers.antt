-- `lower::Upper::column` meets its contract: the permutation holds columns. Assumes nothing.
use Rattle.std.proofs.Common.{refl}
use Rattle.lower.proofs.Passes.{column_in}
use Rattle.lower.proofs.Upper.column.Goals as goal

pub returns : goal.returns
returns c = (refl, column_in c.args.self.now.sited _ c.requires)
