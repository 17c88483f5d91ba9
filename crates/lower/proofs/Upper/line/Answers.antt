-- `lower::Upper::line` meets its contract. Assumes nothing.
use Rattle.lower.proofs.Passes.{line_is}
use Rattle.lower.proofs.Upper.line.Goals as goal

pub returns : goal.returns
returns c = rw c.column-k.ensures.0 (line_is c.args.self.now.sited _ c.requires)
