-- The matrix by lower columns in factor numbering, as lent lists: what `lower` makes and the step reads. Definitions only.
use Rattle.std.specs.Prelude.{◌≡◌, true, cond, List, ℕ, suc, ◌+◌, ◌≤◌, ◌<◌, length, get_or, Float}
use Rattle.std.proofs.Math.Seq.{slice}
use Rattle.std.specs.Float.{nan}
use Rattle.statement.specs.Lists.{has, place}
use Rattle.statement.specs.Input.{+0}
use Rattle.statement.specs.Shape.{Shape, first, rows_of}

-- the value at row i among the places from t0 below t1, 0.0 if there is none
unfoldable pub among : List ℕ → List Float → ℕ → ℕ → ℕ → Float
among rows values t0 t1 i = cond (has i (slice t0 t1 rows)) (get_or values (t0 + place i (slice t0 t1 rows)) nan) +0

-- A(i,j)
abbrev pub lower_value : List ℕ → List ℕ → List Float → ℕ → ℕ → Float
lower_value starts rows values i j = among rows values (get_or starts j 0) (get_or starts (j + 1) 0) i

-- n columns
pub record Lower (starts rows : List ℕ) (values : List Float) (n : ℕ) : Type 0 where
  pub room : n < length starts
  pub rise : (j : ℕ) → j < n → get_or starts j 0 ≤ get_or starts (j + 1) 0
  pub in_rows : (j : ℕ) → j < n → get_or starts (j + 1) 0 ≤ length rows
  pub in_values : (j : ℕ) → j < n → get_or starts (j + 1) 0 ≤ length values

-- the entries in J's columns are among J's rows, on or below the diagonal, each once
pub record Pattern (S : Shape) (J : ℕ) (starts rows : List ℕ) : Type 0 where
  pub among : (j t : ℕ) → first S J ≤ j → j < first S (suc J) → get_or starts j 0 ≤ t → t < get_or starts (j + 1) 0 → has (get_or rows t 0) (rows_of S J) ≡ true
  pub lower : (j t : ℕ) → first S J ≤ j → j < first S (suc J) → get_or starts j 0 ≤ t → t < get_or starts (j + 1) 0 → j ≤ get_or rows t 0
  pub once : (j s t : ℕ) → first S J ≤ j → j < first S (suc J) → get_or starts j 0 ≤ s → s < t → t < get_or starts (j + 1) 0 → get_or rows s 0 ≡ get_or rows t 0 → ⊥
