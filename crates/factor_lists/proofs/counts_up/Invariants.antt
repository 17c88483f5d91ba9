-- `factor_lists::counts_up` meets its contract: those passed count up. Assumes nothing.
use Prim.Native.Nat.{◌+◌}
use lib.Dec.{eqb}
use lib.ListN.{get_or}
use Rattle.laws.proofs.Every.{Tested}
use Rattle.factor_lists.proofs.counts_up.Given as goal

abbrev pub invariant-loop-c : goal.invariant-loop-c
invariant-loop-c l = Tested (λ c. eqb (get_or l.l c 0) (l.f + c)) l.w l.c
