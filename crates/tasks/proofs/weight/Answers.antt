use Rattle.tasks.proofs.Weighing.{square}
use Rattle.areas.proofs.Summed.{sum_start, sum_more}
use Prim.Native.Nat.{◌-◌}
use native.Mathlib.Omega.{arith}
use Rattle.tasks.proofs.weight.Goals as goal

pub loop-c-init : goal.loop-c-init
loop-c-init c = sum_start _ _ _

pub loop-c-preserved : goal.loop-c-preserved
loop-c-preserved c = sum_more c.loop-c.invariant c.loop-c-test.true (square (c.args.m - c.loop-c.c) (omega arith))
