use Rattle.std.proofs.Common.{arith}
use lib.Ieee.{nan}
use Rattle.lines.proofs.Written.{writing_start, writing_more, writing_done}
use Rattle.lines.proofs.put_success.Goals as goal

pub loop-k-init : goal.loop-k-init
loop-k-init c = writing_start _ _

pub loop-k-preserved : goal.loop-k-preserved
loop-k-preserved c = writing_more _ _ _ _ _ nan c.loop-k.invariant c.loop-k-test.true (omega (arith, c.requires)) c.put_unknown.ensures

pub returns : goal.returns
returns c = writing_done _ _ _ _ _ _ _ c.loop-k.invariant (omega arith) (omega (arith, c.requires)) c.put_sizes.ensures
