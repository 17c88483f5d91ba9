-- `run::run`: the first p names are taken. Assumes nothing.
use Rattle.std.proofs.Common.{◌≤◌}
use Rattle.std.specs.Prelude.{◌<◌, IfSome}
use Rattle.answers.specs.Least.{least_of}
use Rattle.run.proofs.Runs.{Going}
use Rattle.run.proofs.run.Given as goal

abbrev pub invariant-loop-p : goal.invariant-loop-p
invariant-loop-p l = (l.p ≤ l.steps) × Going l.steps l.ns l.structure.n l.entries l.structure.firsts.now l.structure.starts.now l.structure.rows.now l.initial.words l.matrix l.initial.values l.words l.values (least_of l.structure.n l.least) l.p × IfSome l.least (λ c. c.0 < l.structure.n)
