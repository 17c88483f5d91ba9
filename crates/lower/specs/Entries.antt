-- The entries of the upper columns as they go to the lower columns, in factor numbering. Definitions only.
use Rattle.std.specs.Prelude.{◌≡◌, Bool, ◌&&◌, List, map, ℕ, ◌+◌, ◌≤◌, ◌<◌, ltb, length, get_or, Float}
use Rattle.std.specs.Float.{nan}
use Rattle.statement.specs.Lists.{bit, tally, select, place}
use Rattle.statement.specs.Input.{Columns, matrix, column, stored}
use Rattle.statement.specs.Fill.{parent}
use Rattle.statement.specs.Postorder.{permutation, original}
use Rattle.statement.specs.Shape.{supernodes}
use Rattle.statement.specs.Calls.{entry_a}
use Rattle.laws.specs.Numbered.{factored, shape}
use Rattle.laws.specs.Lower.{lower_value, Lower, Pattern}
use Rattle.laws.proofs.Postorder.{pos}
use Rattle.areas.specs.Buckets.{start, Holds, Buckets}

-- the column at each place
abbrev pub originally : ℕ → List ℕ → List ℕ → ℕ → ℕ
originally n starts rows = original (permutation (stored starts rows) n)

-- row r is stored in lower column c
abbrev pub in_lower : ℕ → List ℕ → List ℕ → ℕ → ℕ → Bool
in_lower n starts rows = factored (stored starts rows) n

-- lower column c: its rows and values, and where they start
abbrev pub lower_rows : ℕ → List ℕ → List ℕ → ℕ → List ℕ
lower_rows n starts rows c = select (in_lower n starts rows c) n

abbrev pub lower_values : ℕ → List ℕ → List ℕ → List Float → ℕ → List Float
lower_values n starts rows values c = map (λ r. entry_a (matrix n starts rows values) (permutation (stored starts rows) n) r c) (lower_rows n starts rows c)

abbrev pub lower_start : ℕ → List ℕ → List ℕ → ℕ → ℕ
lower_start n starts rows c = start (lower_rows n starts rows) c

-- ---- what the lists hold

-- the upper columns, the column at each place and the place of each column
pub record Sited (n : ℕ) (starts rows perm places : List ℕ) : Type 0 where
  pub small : n ≤ 32768
  pub formed : Columns n starts rows
  pub perm_is : Holds (originally n starts rows) n perm
  pub places_are : Holds (pos (parent (stored starts rows) n) n) n places

-- upper column k's entries stand from one position to below another
pub record Line (starts rows : List ℕ) (k from to : ℕ) : Type 0 where
  pub begins : from ≡ get_or starts k 0
  pub ends : to ≡ get_or starts (k + 1) 0
  pub rises : from ≤ to
  pub fits : to ≤ length rows

-- where row i stands in upper column k
abbrev pub spot : List ℕ → List ℕ → ℕ → ℕ → ℕ
spot starts rows i k = get_or starts k 0 + place i (column starts rows k)

-- the entries of lower column c in the rows below r, and in row r those before position q of the upper column
abbrev pub reached : ℕ → List ℕ → List ℕ → ℕ → ℕ → ℕ → ℕ
reached n starts rows r q c = tally (in_lower n starts rows c) r + bit (in_lower n starts rows c r && ltb (spot starts rows (originally n starts rows c) (originally n starts rows r)) q)

pub record Counted (n : ℕ) (starts rows : List ℕ) (r : ℕ) (counts : List ℕ) : Type 0 where
  pub room : n ≤ length counts
  pub is : (c : ℕ) → c < n → get_or counts c 0 ≡ tally (in_lower n starts rows c) r

pub record Put (n : ℕ) (starts rows : List ℕ) (values : List Float) (r : ℕ) (next to_rows : List ℕ) (to_values : List Float) : Type 0 where
  pub in_rows : Buckets 0 (lower_rows n starts rows) n (λ c. tally (in_lower n starts rows c) r) next to_rows
  pub in_values : Buckets nan (lower_values n starts rows values) n (λ c. tally (in_lower n starts rows c) r) next to_values

-- ---- what is left in the lists

pub record Lowered (n : ℕ) (starts rows : List ℕ) (values : List Float) (to_starts to_rows : List ℕ) (to_values : List Float) : Type 0 where
  -- n lower columns
  pub columns : Lower to_starts to_rows to_values n
  -- which the step can read
  pub pattern : (J : ℕ) → J < supernodes (shape (stored starts rows) n) → Pattern (shape (stored starts rows) n) J to_starts to_rows
  -- and which are the matrix
  pub entries : (i j : ℕ) → j ≤ i → i < n → lower_value to_starts to_rows to_values i j ≡ entry_a (matrix n starts rows values) (permutation (stored starts rows) n) i j
