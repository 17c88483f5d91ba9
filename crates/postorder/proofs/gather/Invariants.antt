-- `postorder::gather` meets its contract: the places before a are written. Assumes nothing.
use Prim.Native.Nat.{ℕ, ◌<◌}
use lib.ListN.{get_or}
use mathlib.Core.Path.{◌≡◌}
use Rattle.areas.proofs.Front.{Front}
use Rattle.postorder.proofs.gather.Given as goal

abbrev pub invariant-loop-a : goal.invariant-loop-a
invariant-loop-a g l = (f : ℕ → ℕ) → ((a r : ℕ) → a < l.n → goal.F-post g l.value (get_or l.from (get_or l.perm a 0) 0) r → r ≡ f a) → Front f l.n l.initial.to l.to l.a
