-- What solve and the view read, as lent lists, and what number 11's checks tell of the structure. Definitions only.
use Rattle.std.specs.Prelude.{◌≡◌, List, [], ℕ, suc, ◌≤◌, ◌<◌, length, get_or, Float}
use Rattle.statement.specs.Shape.{Shape, supernodes, first, width, height, rows_of}
use Rattle.statement.specs.Solve.{FactorAreas}
use Rattle.statement.specs.declared.Record.{Record}

-- the areas, whole
abbrev pub lent : List ℕ → List ℕ → List ℕ → List ℕ → List Float → FactorAreas
lent permutation firsts starts rows values = record { permutation = permutation; firsts = firsts; starts = starts; rows = rows; values = values }

-- a structure that is held in three lists
abbrev pub laid : ℕ → List ℕ → List ℕ → List ℕ → Shape
laid n firsts starts rows = record { n = n; firsts = firsts; starts = starts; rows = rows; parents = [] }

-- lists as long as the record says
pub record Fitted (R : Record) (S : Shape) : Type 0 where
  pub columns : S.n ≡ R.n
  pub firsts : length S.firsts ≡ suc R.supernodes
  pub starts : length S.starts ≡ suc R.supernodes
  pub rows : length S.rows ≡ R.rows

-- (c), and the row starts of (d)
pub record Framed (S : Shape) : Type 0 where
  pub some : 0 < length S.firsts
  pub long : length S.starts ≡ length S.firsts
  pub from : first S 0 ≡ 0
  pub rise : (K : ℕ) → K < supernodes S → first S K < first S (suc K)
  pub ends : first S (supernodes S) ≡ S.n
  pub down : (K : ℕ) → K < supernodes S → get_or S.starts K 0 ≤ get_or S.starts (suc K) 0
  pub inside : (K : ℕ) → K < supernodes S → get_or S.starts (suc K) 0 ≤ length S.rows

-- (c) and (d), as far as a walk of the columns asks
pub record Walkable (S : Shape) : Type 0 where
  pub framed : Framed S
  pub tall : (K : ℕ) → K < supernodes S → width S K ≤ height S K
  pub few : (K : ℕ) → K < supernodes S → height S K ≤ S.n
  pub below : (K p : ℕ) → K < supernodes S → p < height S K → get_or (rows_of S K) p 0 < S.n
