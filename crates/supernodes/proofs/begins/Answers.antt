-- `supernodes::begins` meets its contract. Assumes nothing.
use Rattle.supernodes.proofs.Nodes.{begin_first, begin_later}
use Rattle.supernodes.proofs.begins.Goals as goal

pub returns-then-j-eq0 : goal.returns-then-j-eq0
returns-then-j-eq0 c = let a = c.args in begin_first a.parents.now a.counts.now a.n a.j c.if-j-eq0.true

pub returns : goal.returns
returns c = let a = c.args in begin_later a.parents.now a.counts.now a.n a.j c.if-j-eq0.false c.joins.ensures
