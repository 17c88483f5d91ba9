use Rattle.tasks.proofs.Cutting.{cutting_begin, cut_task, cut_top, cutting_over}
use mathlib.Core.Path.{refl}
use native.Mathlib.Omega.{arith}
use Rattle.tasks.proofs.cut.Goals as goal

pub loop-s-init : goal.loop-s-init
loop-s-init c = cutting_begin _ _ _ _ _ _ _

pub loop-s-preserved-in-Some : goal.loop-s-preserved-in-Some
loop-s-preserved-in-Some c = let q = c.in-Some.ensures in cut_task c.loop-s.invariant c.loop-s-test.true c.in-Some.end (omega (arith, q.range)) q.range.1 q.value c.requires.room.0 c.requires.room.1 q.range.0

pub loop-s-preserved : goal.loop-s-preserved
loop-s-preserved c = cut_top c.loop-s.invariant c.loop-s-test.true c.loop-s.s (omega arith) (omega (arith, c.loop-s-test.true)) c.in-None.ensures.value c.requires.room.0 c.requires.room.1 refl

pub returns : goal.returns
returns c = cutting_over c.loop-s.invariant c.loop-s-test.false
