-- `supernodes::joins` meets its contract. Assumes nothing.
use Rattle.supernodes.proofs.Nodes.{join_parent, join_kids, join_less, join_last}
use Rattle.supernodes.proofs.joins.Goals as goal

pub returns-then-parents-j : goal.returns-then-parents-j
returns-then-parents-j c = let a = c.args in join_parent a.parents.now a.counts.now a.n a.j c.if-parents-j.true

pub returns-then-kids-i-ne1 : goal.returns-then-kids-i-ne1
returns-then-kids-i-ne1 c = let a = c.args in join_kids a.parents.now a.counts.now a.n a.j c.if-parents-j.false a.kids.now c.requires.kids_value c.requires.j_bound c.if-kids-i-ne1.true

pub returns-then-a-b : goal.returns-then-a-b
returns-then-a-b c = let a = c.args in join_less a.parents.now a.counts.now a.n a.j c.if-parents-j.false a.kids.now c.requires.kids_value c.requires.j_bound c.if-kids-i-ne1.false c.if-a-b.true

pub returns : goal.returns
returns c = let a = c.args in join_last a.parents.now a.counts.now a.n a.j c.if-parents-j.false a.kids.now c.requires.kids_value c.requires.j_bound c.if-kids-i-ne1.false c.if-a-b.false
