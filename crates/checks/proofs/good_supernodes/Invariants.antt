-- `checks::good_supernodes` meets its contract: those passed are good. Assumes nothing.
use Prim.Native.Nat.{◌-◌}
use lib.ListN.{length}
use Rattle.statement.specs.Solve.{good_supernode}
use Rattle.views.specs.Shown.{shape_of}
use Rattle.laws.proofs.Every.{Tested}
use Rattle.checks.proofs.good_supernodes.Given as goal

abbrev pub invariant-loop-k : goal.invariant-loop-k
invariant-loop-k l = Tested (good_supernode (shape_of l.structure)) (length l.structure.firsts.now - 1) l.k
