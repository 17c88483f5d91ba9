use Rattle.std.proofs.Common.{arith, length-drop}
use Rattle.frames.proofs.Going.{len_here, len_step, len_none}
use Rattle.frames.proofs.line_end.Goals as goal

pub returns-then-text-i-eq10-clause-some : goal.returns-then-text-i-eq10-clause-some
returns-then-text-i-eq10-clause-some c = let e = len_here c.args.text.now c.loop-i.i (omega arith) c.if-text-i-eq10.true in omega arith

pub loop-i-preserved : goal.loop-i-preserved
loop-i-preserved c = let e = len_step c.args.text.now c.loop-i.i (omega arith) c.if-text-i-eq10.false in omega arith

pub returns : goal.returns
returns c = record { some = tt; none = let l = c.args.text.now in let e = len_none l c.loop-i.i (omega arith) in let d = length-drop c.args.at l in omega (arith, c.loop-i.auto.i-end) }
