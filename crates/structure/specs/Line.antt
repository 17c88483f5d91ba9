-- What the pass over the rows of L reads, and what it keeps. Definitions only.
use Rattle.std.specs.Prelude.{◌≡◌, ◌⊎◌, ◌≢◌, Bool, List, ℕ, suc, ◌+◌, ◌≤◌, ◌<◌, T, eqb, length, get_or}
use Rattle.statement.specs.Lists.{bit, tally}
use Rattle.statement.specs.Input.{Columns, columns_limit, stored}
use Rattle.statement.specs.Fill.{parent}
use Rattle.statement.specs.Postorder.{permutation, original}
use Rattle.laws.specs.Numbered.{factored, shape}
use Rattle.statement.specs.Shape.{Shape}
use Rattle.views.specs.declared.Columns as view
use Rattle.laws.proofs.Postorder.{pos}
use Rattle.areas.specs.Buckets.{Holds, Buckets}
use Rattle.structure.specs.Node.{nodes, first_of, owner_of, above, in_row, node_rows}

-- the pattern in factor numbering
abbrev pub factored_pattern : ℕ → List ℕ → List ℕ → ℕ → ℕ → Bool
factored_pattern n starts rows = factored (stored starts rows) n

-- the same of a matrix as it is lent, and the structure of its factor
abbrev pub pattern : view.Columns → ℕ → ℕ → Bool
pattern m = factored_pattern m.n m.starts.now m.rows.now

abbrev pub shape_of : view.Columns → Shape
shape_of m = shape (stored m.starts.now m.rows.now) m.n

-- n columns in ns supernodes, and their first columns
pub record Known (n ns : ℕ) (starts rows firsts : List ℕ) : Type 0 where
  pub formed : Columns n starts rows
  pub small : n ≤ columns_limit
  pub number : ns ≡ nodes (factored_pattern n starts rows) n
  pub first-is : Holds (first_of (factored_pattern n starts rows) n) (suc ns) firsts

-- the column at each place, the place of each column, the supernode of each factor column, the parent of each supernode
pub record Given (n : ℕ) (starts rows perm place own up : List ℕ) : Type 0 where
  pub formed : Columns n starts rows
  pub perm_is : Holds (original (permutation (stored starts rows) n)) n perm
  pub place_is : Holds (pos (parent (stored starts rows) n) n) n place
  pub own_is : Holds (owner_of (factored_pattern n starts rows) n) n own
  pub up_is : Holds (above (factored_pattern n starts rows) n) (nodes (factored_pattern n starts rows) n) up

-- supernode K is marked in row r
abbrev pub Marked : ℕ → List ℕ → ℕ → Type 0
Marked r marks K = get_or marks K 0 ≡ r

-- what was marked is marked still
abbrev pub Kept : ℕ → List ℕ → List ℕ → Type 0
Kept r m m' = (K : ℕ) → Marked r m K → Marked r m' K

-- before row r
pub record Lines (p : ℕ → ℕ → Bool) (n r : ℕ) (M next l : List ℕ) : Type 0 where
  pub marks : nodes p n ≤ length M
  pub lists : Buckets 0 (node_rows p n) (nodes p n) (λ j. tally (in_row p n j) r) next l
  pub old : (j k : ℕ) → j < nodes p n → r ≤ k → k < n → get_or M j 0 ≢ k

-- the rows of supernode j so far
abbrev pub sofar : (ℕ → ℕ → Bool) → ℕ → ℕ → List ℕ → ℕ → ℕ
sofar p n r M j = tally (in_row p n j) r + bit (eqb (get_or M j 0) r)

-- in row r, where supernode at is next (0 between two walks)
pub record Line (p : ℕ → ℕ → Bool) (n r at : ℕ) (M next l : List ℕ) : Type 0 where
  pub marks : nodes p n ≤ length M
  pub lists : Buckets 0 (node_rows p n) (nodes p n) (sofar p n r M) next l
  pub old : (j k : ℕ) → j < nodes p n → r < k → k < n → get_or M j 0 ≢ k
  pub own : get_or M (owner_of p n r) 0 ≡ r
  pub sound : (j : ℕ) → j < nodes p n → get_or M j 0 ≡ r → T (in_row p n j r)
  pub closed : (j : ℕ) → j < nodes p n → get_or M j 0 ≡ r → j ≢ owner_of p n r → (get_or M (above p n j) 0 ≡ r) ⊎ (above p n j ≡ at)
