-- `input::first_start` meets its contract: the positions before p break no rule. Assumes nothing.
use Prim.Native.Nat.{suc}
use Rattle.statement.specs.Input.{wrong_start_at}
use Rattle.views.specs.Shown.{matrix_of}
use Rattle.areas.proofs.Search.{Searched}
use Rattle.input.proofs.first_start.Given as goal

abbrev pub invariant-loop-p : goal.invariant-loop-p
invariant-loop-p l = Searched (wrong_start_at (matrix_of l.matrix)) 0 (suc l.matrix.n) l.p
