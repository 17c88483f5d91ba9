-- `assembly::set_places` meets its contract. Touched up to p; the rows rise, so no place is set twice. Assumes nothing.
use Prim.Native.Nat.{◌+◌, ◌≤◌}
use lib.ListN.{get_or}
use Rattle.areas.specs.Touch.{Touched}
use Rattle.assembly.proofs.set_places.Given as goal

abbrev pub invariant-loop-p : goal.invariant-loop-p
invariant-loop-p l = (l.p ≤ l.m) × Touched 0 l.initial.place l.place l.p (λ p. get_or l.rows (l.r0 + p) 0) (λ p. p)
