-- `tasks::weight` meets its contract: after c turns the first c squares are added. Assumes nothing.
use Rattle.areas.proofs.Summed.{Summed}
use Prim.Native.Nat.{◌-◌, ◌*◌}
use Rattle.tasks.proofs.weight.Given as goal

abbrev pub invariant-loop-c : goal.invariant-loop-c
invariant-loop-c l = Summed (λ c. (l.m - c) * (l.m - c)) l.w 1073741824 l.total l.c
