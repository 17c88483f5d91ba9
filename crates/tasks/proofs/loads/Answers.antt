-- `tasks::loads` meets its contract: call by call. Assumes nothing.
use Rattle.tasks.proofs.Splitting.{weighed}
use Rattle.tasks.proofs.Weighing.{weights_little}
use native.Mathlib.Omega.{arith}
use Rattle.tasks.proofs.loads.Goals as goal

pub raise_loads-requires : goal.raise_loads-requires
raise_loads-requires c = record { room = omega (arith, c.requires); fits = omega (arith, weights_little c.args.supernodes.now.number c.args.supernodes.now.firsts.now c.args.supernodes.now.starts.now c.args.supernodes.now.sized _ _ c.weights.ensures) }

pub returns : goal.returns
returns c = weighed c.args.supernodes.now.number c.args.supernodes.now.firsts.now c.args.supernodes.now.starts.now c.args.supernodes.now.parents.now c.args.supernodes.now.sized _ _ _ c.weights.ensures c.raise_loads.ensures
