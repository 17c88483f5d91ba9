-- From what the areas hold to what the functions ask and answer. Assumes nothing.
use mathlib.Core.Path.{◌≡◌, ap, ◌∙◌}
use mathlib.Core.List.{List, ◌++◌}
use Prim.Native.Nat.{ℕ, suc, ◌-◌}
use native.Mathlib.Nat.{le_refl}
use lib.ListN.{length, get_or, take, drop}
use Rattle.statement.specs.Input.{stored}
use Rattle.laws.specs.Numbered.{shape}
use Rattle.areas.specs.Buckets.{Holds}
use Rattle.areas.proofs.Buckets.{holds_of}
use Rattle.areas.proofs.Tail.{tail_lent}
use Rattle.structure.specs.Node.{nodes, row_start}
use Rattle.structure.specs.Line.{factored_pattern, Given}
use Rattle.structure.proofs.Node as Node

-- the row starts, and the last of them
module _ (n ns : ℕ) (starts rows l d : List ℕ) (q : ns ≡ nodes (factored_pattern n starts rows) n) (e : l ≡ (shape (stored starts rows) n).starts ++ d) where
  pub starts_hold : Holds (row_start (factored_pattern n starts rows) n) (suc ns) l
  starts_hold = holds_of _ (suc ns) l d (e ∙ ap (λ x. x ++ d) (Node.starts_are (factored_pattern n starts rows) n) ∙ rw (← q))

  pub last_start : get_or l ns 0 ≡ length (shape (stored starts rows) n).rows
  last_start = starts_hold.at ns (le_refl (suc ns)) ∙ rw (Node.rows_are (factored_pattern n starts rows) n, ← q)

-- the supernodal parents past the places
pub given_tail : (n : ℕ) (starts rows perm place own t : List ℕ) → Given n starts rows perm place own (drop n t) → Given n starts rows perm place own (take (length t - n) (drop n t))
given_tail n starts rows perm place own t g = rw (tail_lent n t) g
