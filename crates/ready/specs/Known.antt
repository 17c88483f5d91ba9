-- What the areas hold before the values are worked out, and where the scratch has what the run reads. Definitions only.
use Rattle.std.specs.Prelude.{◌≡◌, List, ◌++◌, ℕ, ◌+◌, ◌≤◌, ◌<◌, length, get_or, take, drop, Float}
use Rattle.statement.specs.Lists.{list}
use Rattle.statement.specs.Input.{Matrix, WellFormed, pattern}
use Rattle.statement.specs.Fill.{parent, entries}
use Rattle.statement.specs.Postorder as postorder
use Rattle.statement.specs.Shape.{supernodes, offset, parent_of}
use Rattle.statement.specs.Supernodes.{update_starts}
use Rattle.laws.specs.Numbered.{shape_for}
use Rattle.laws.proofs.Postorder.{pos}
use Rattle.lower.specs.Entries.{Lowered}
use Rattle.updates.specs.Layout.{places_at, offsets_at, parents_at, starts_at, rows_at}

-- ns supernodes: permutation, first columns, row starts, and in tasks the places of the columns and then the supernodal parents
pub record Known (M : Matrix) (ns : ℕ) (permutation firsts starts tasks : List ℕ) : Type 0 where
  pub well : WellFormed M
  pub number : ns ≡ supernodes (shape_for M)
  pub order_rest : List ℕ
  pub firsts_rest : List ℕ
  pub starts_rest : List ℕ
  pub tasks_rest : List ℕ
  pub order_is : permutation ≡ postorder.permutation (pattern M) M.n ++ order_rest
  pub firsts_are : firsts ≡ (shape_for M).firsts ++ firsts_rest
  pub starts_are : starts ≡ (shape_for M).starts ++ starts_rest
  pub tasks_are : tasks ≡ list (pos (parent (pattern M) M.n) M.n) M.n ++ ((shape_for M).parents ++ tasks_rest)

-- and update starts and rows
pub record Structured (M : Matrix) (ns total : ℕ) (permutation firsts starts groups tasks nine : List ℕ) : Type 0 where
  pub known : Known M ns permutation firsts starts tasks
  pub total_is : total ≡ entries (pattern M) M.n
  pub groups_rest : List ℕ
  pub nine_rest : List ℕ
  pub groups_are : groups ≡ update_starts (shape_for M) ++ groups_rest
  pub nine_is : nine ≡ (shape_for M).rows ++ nine_rest

-- the flags are clear, the rest is in its place, and A's values are the first of the floats
pub record Laid (M : Matrix) (ns : ℕ) (words : List ℕ) (floats : List Float) : Type 0 where
  pub flags : (J : ℕ) → J < ns → get_or words J 0 ≡ 0
  pub offsets : (K : ℕ) → K < ns → get_or words (offsets_at M.n + K) 0 ≡ offset (shape_for M) K
  pub parents : (K : ℕ) → K < ns → get_or words (parents_at M.n + K) 0 ≡ parent_of (shape_for M) K
  pub lower : Lowered M.n M.starts M.rows M.values (drop (starts_at M.n) words) (drop (rows_at M.n) words) (take (length M.rows) floats)

-- what laying the updates reads stands as before
abbrev pub Kept : ℕ → List ℕ → List ℕ → Type 0
Kept n words words' = (i : ℕ) → places_at n ≤ i → i < offsets_at n → get_or words' i 0 ≡ get_or words i 0
