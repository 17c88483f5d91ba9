-- `checks::sized` meets its contract: the offset past the last supernode. Assumes nothing.
use native.Mathlib.Omega.{arith}
use Rattle.statement.specs.Solve.{sized}
use Rattle.checks.proofs.sized.Goals as goal

pub offset-requires : goal.offset-requires
offset-requires c = (c.requires.0, omega (arith, c.requires.1))

pub returns : goal.returns
unfolding sized
returns c = rw c.offset.ensures
