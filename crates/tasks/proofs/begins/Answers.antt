-- `tasks::begins` meets its contract: call by call. Assumes nothing.
use Rattle.tasks.proofs.Splitting.{own_holds}
use native.Mathlib.Omega.{arith}
use Rattle.tasks.proofs.begins.Goals as goal

pub raise_begins-requires : goal.raise_begins-requires
raise_begins-requires c = record { room = omega (arith, c.requires); own = own_holds _ _ _ c.own_begins.ensures }
