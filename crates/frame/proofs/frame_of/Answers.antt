-- `frame::frame_of` meets its contract. Assumes nothing.
use Rattle.std.proofs.Common.{arith}
use Rattle.frame.proofs.Digits.{frame_other}
use Rattle.frame.proofs.frame_of.Goals as goal

pub returns-in_default : goal.returns-in_default
returns-in_default c = frame_other c.args.line.now (omega arith) (omega arith) (omega arith) (omega arith)
