-- `input::wrong_rows` meets its contract: the rows before p rise. Assumes nothing.
use Prim.Native.Nat.{◌-◌, ◌≤◌}
use lib.ListN.{length}
use Rattle.input.proofs.Checks.{Risen}
use Rattle.input.proofs.wrong_rows.Given as goal

abbrev pub invariant-loop-p : goal.invariant-loop-p
invariant-loop-p l = (h : l.e ≤ length l.rows) → Risen l.k l.rows l.e h l.a l.p
