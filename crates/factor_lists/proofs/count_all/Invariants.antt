-- `factor_lists::count_all` meets its contract: each word counts its number among those passed. Assumes nothing.
use mathlib.Core.Path.{◌≡◌}
use Prim.Native.Nat.{ℕ, ◌≤◌, ◌<◌}
use lib.Dec.{eqb}
use lib.ListN.{length, get_or}
use Rattle.statement.specs.Lists.{tally}
use Rattle.factor_lists.proofs.count_all.Given as goal

abbrev pub invariant-loop-k : goal.invariant-loop-k
invariant-loop-k l = (l.k ≤ l.n) × (length l.words ≡ length l.initial.words) × ((v : ℕ) → v < l.n → get_or l.words v 0 ≡ tally (λ a. eqb (get_or l.p a 0) v) l.k)
