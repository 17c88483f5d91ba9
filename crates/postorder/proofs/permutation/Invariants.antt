-- `postorder::permutation` meets its contract. Assumes nothing.
use Prim.Native.Nat.{ℕ, ◌≤◌, ◌<◌}
use lib.ListN.{length, get_or}
use mathlib.Core.Path.{◌≡◌}
use Rattle.postorder.proofs.permutation.Given as goal

abbrev pub invariant-loop-j : goal.invariant-loop-j
invariant-loop-j l = (l.j ≤ l.n) × (length l.perm ≡ l.n) × ((i : ℕ) → i < l.j → get_or l.perm (get_or l.place i 0) 0 ≡ i)
