-- `tasks::split` meets its contract: call by call. Assumes nothing.
use Rattle.tasks.proofs.Splitting.{parts_of}
use Rattle.areas.proofs.Tail.{tail_lent}
use Rattle.tasks.proofs.split.Goals as goal

pub returns : goal.returns
returns c = λ S g. parts_of (c.fill.ensures.after (λ y e. e)) (c.fill-2.ensures.after (λ y e. e)) (c.cut_by.ensures S g.tree.number (c.table.ensures.spread S (rw (tail_lent c.args.n c.args.tasks.now) g)))
