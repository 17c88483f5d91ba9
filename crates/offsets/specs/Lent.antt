-- The sizes of ns stretches, from lent first columns f and row starts s. Definitions only.
use Rattle.std.specs.Prelude.{◌≡◌, List, ℕ, suc, ◌-◌, ◌≤◌, ◌<◌, length, get_or}
use Rattle.statement.specs.Shape.{Shape, width, height}

-- columns and rows of supernode K
abbrev pub between : List ℕ → ℕ → ℕ
between l K = get_or l (suc K) 0 - get_or l K 0

-- both lists rise, and no supernode has more columns than rows
pub record Rising (f s : List ℕ) (ns : ℕ) : Type 0 where
  pub few : ns ≤ 32768
  pub firsts : ns < length f
  pub starts : ns < length s
  pub columns : (K : ℕ) → K < ns → get_or f K 0 ≤ get_or f (suc K) 0
  pub rows : (K : ℕ) → K < ns → get_or s K 0 ≤ get_or s (suc K) 0
  pub tall : (K : ℕ) → K < ns → between f K ≤ between s K
  pub small : (K : ℕ) → K < ns → between s K ≤ 32768

-- they are those of a structure
pub record Of (S : Shape) (f s : List ℕ) (ns : ℕ) : Type 0 where
  pub width : (K : ℕ) → K < ns → between f K ≡ width S K
  pub height : (K : ℕ) → K < ns → between s K ≡ height S K
