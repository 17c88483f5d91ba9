-- `tasks::cut_by` meets its contract: call by call. Assumes nothing.
use Rattle.tasks.proofs.Splitting.{tabled, same, holds_take}
use Prim.Native.Nat.{◌+◌, ◌*◌}
use Rattle.areas.proofs.Tail.{tail_lent}
use Rattle.tasks.proofs.cut_by.Goals as goal

pub returns : goal.returns
returns c = λ S e g. rw (same c.args.ns c.args.words.now _ c.share.ensures S e g) at (c.cut.ensures S (rw (tail_lent (2 * c.args.ns + 2) c.args.words.now, tail_lent (c.args.ns + 1) c.args.words.now) (tabled c.args.ns c.args.words.now _ c.share.ensures S e g _ (holds_take g.loaded))))
