-- `tasks::cut` meets its contract: what is written and what is to come make up the split. Assumes nothing.
use Rattle.tasks.proofs.Cutting.{Cutting}
use Prim.Native.Nat.{◌-◌}
use Rattle.tasks.proofs.cut.Given as goal

abbrev pub invariant-loop-s : goal.invariant-loop-s
invariant-loop-s l = Cutting l.tables.number l.tables.parents.now l.tables.begins.now l.tables.loads.now l.tables.most l.initial.tasks l.initial.top l.tasks l.top l.t l.o l.s

abbrev pub decreases-loop-s : goal.decreases-loop-s
decreases-loop-s l = l.tables.number - l.s
