-- `tasks::climb` meets its contract: what is left of the climb ends where the whole does. Assumes nothing.
use Rattle.tasks.specs.Given.{ended}
use Rattle.tasks.proofs.Climbing.{Climbing}
use Rattle.std.specs.Prelude.{IfSome}
use Prim.Native.Nat.{◌-◌, ◌<◌, ◌≤◌}
use Rattle.tasks.proofs.climb.Given as goal

abbrev pub invariant-loop-end : goal.invariant-loop-end
invariant-loop-end l = IfSome l.end (λ e. (l.s < e) × (e ≤ l.tables.number)) × Climbing l.tables.number l.tables.parents.now l.tables.begins.now l.tables.loads.now l.tables.most l.s (ended l.s l.end) l.r

abbrev pub decreases-loop-end : goal.decreases-loop-end
decreases-loop-end l = l.tables.number - l.r
