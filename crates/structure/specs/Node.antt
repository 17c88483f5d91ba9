-- The parts of `shape_of p n` by themselves, for the pattern p of A in factor numbering. Definitions only.
use Rattle.std.specs.Prelude.{Bool, List, ℕ, suc, ◌-◌, length, get_or}
use Rattle.statement.specs.Fill.{fill, parent, rows_of_column}
use Rattle.statement.specs.Supernodes.{first_columns, owner}
use Rattle.areas.specs.Buckets.{start}

-- how many supernodes
abbrev pub nodes : (ℕ → ℕ → Bool) → ℕ → ℕ
nodes p n = length (first_columns p n) - 1

-- the first column of supernode K, and its last
abbrev pub first_of : (ℕ → ℕ → Bool) → ℕ → ℕ → ℕ
first_of p n K = get_or (first_columns p n) K 0

abbrev pub last_of : (ℕ → ℕ → Bool) → ℕ → ℕ → ℕ
last_of p n K = first_of p n (suc K) - 1

-- the supernode of column j
abbrev pub owner_of : (ℕ → ℕ → Bool) → ℕ → ℕ → ℕ
owner_of p n j = owner (first_columns p n) j

-- the parent of supernode K
abbrev pub above : (ℕ → ℕ → Bool) → ℕ → ℕ → ℕ
above p n K = owner_of p n (parent p n (last_of p n K))

-- r is a row of supernode K; its rows; where they start
abbrev pub in_row : (ℕ → ℕ → Bool) → ℕ → ℕ → ℕ → Bool
in_row p n K r = fill p r (first_of p n K)

abbrev pub node_rows : (ℕ → ℕ → Bool) → ℕ → ℕ → List ℕ
node_rows p n K = rows_of_column p n (first_of p n K)

abbrev pub row_start : (ℕ → ℕ → Bool) → ℕ → ℕ → ℕ
row_start p n K = start (node_rows p n) K
