-- Where a column is found. Definitions only.
use Rattle.std.specs.Prelude.{◌≡◌, List, ℕ, suc, ◌-◌, ◌≤◌, ◌<◌, length, get_or}
use Rattle.statement.specs.Supernodes.{owner}

-- the supernode k owns column q
pub record Owned (firsts : List ℕ) (q k : ℕ) : Type 0 where
  pub is : k ≡ owner firsts q
  pub inside : k < length firsts - 1
  pub from : get_or firsts k 0 ≤ q
  pub to : q < get_or firsts (suc k) 0
