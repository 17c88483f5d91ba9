-- `room::holds` meets its contract. Assumes nothing.
use borrow.Author.Tests.{lt-ltb, le-ltb}
use Rattle.laws.specs.Answered.{passed}
use Rattle.statement.specs.Areas.{short}
use Rattle.room.proofs.holds.Goals as goal

pub returns-then-length-need : goal.returns-then-length-need
unfolding short passed
returns-then-length-need c = rw (lt-ltb _ _ c.if-length-need.true)

pub returns : goal.returns
unfolding short passed
returns c = rw (le-ltb _ _ c.if-length-need.false)
