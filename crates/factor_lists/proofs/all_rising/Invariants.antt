-- `factor_lists::all_rising` meets its contract: those passed rise. Assumes nothing.
use Prim.Native.Nat.{suc, ◌-◌}
use lib.Dec.{ltb}
use lib.ListN.{length, get_or}
use Rattle.laws.proofs.Every.{Tested}
use Rattle.factor_lists.proofs.all_rising.Given as goal

abbrev pub invariant-loop-i : goal.invariant-loop-i
invariant-loop-i l = Tested (λ x. ltb (get_or l.l x 0) (get_or l.l (suc x) 0)) (length l.l - 1) l.i
