-- `assembly::update` meets its contract. Target columns below q are done. Assumes nothing.
use mathlib.Core.Path.{◌≡◌}
use Prim.Native.Nat.{◌≤◌}
use lib.ListN.{length}
use Rattle.assembly.specs.Update.{Updated}
use Rattle.assembly.proofs.update.Given as goal

abbrev pub invariant-loop-q : goal.invariant-loop-q
invariant-loop-q l = (l.p1 ≤ l.q) × (l.q ≤ l.p2) × (length l.work ≡ length l.initial.work) × Updated l.place l.rows l.initial.values l.values l.to.offset l.to.height l.from.start l.from.height l.from.width l.from.offset l.p1 l.q
