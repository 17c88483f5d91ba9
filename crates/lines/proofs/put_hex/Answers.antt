use Rattle.std.proofs.Common.{arith}
use lib.Seq.{paste-zero}
use Rattle.statement.specs.Job.{hex}
use Rattle.lines.proofs.Written.{put_more, put_all}
use Rattle.lines.proofs.put_hex.Goals as goal

pub loop-i-init : goal.loop-i-init
loop-i-init c = let a = c.args in paste-zero a.out.now a.at (hex a.k a.x)

pub loop-i-preserved : goal.loop-i-preserved
loop-i-preserved c = let a = c.args in put_more a.out.now _ a.at a.k a.x c.loop-i.i _ c.loop-i.invariant c.hex_digit.ensures (omega arith) (omega arith)

pub returns : goal.returns
returns c = let a = c.args in put_all a.out.now _ a.at a.k a.x c.loop-i.i c.loop-i.invariant (omega arith)
