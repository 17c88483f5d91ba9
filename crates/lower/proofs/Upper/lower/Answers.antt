-- `lower::Upper::lower` meets its contract. Assumes nothing.
use Rattle.lower.proofs.Bridge.{lowered_back}
use Rattle.lower.proofs.Upper.lower.Goals as goal

pub returns : goal.returns
returns c = let a = c.args.self.now in lowered_back a.matrix.n a.matrix.starts.now a.matrix.rows.now a.matrix.values.now a.sited.formed a.beside _ _ _ _ c.begin_lines.ensures.holds c.put_lines.ensures
