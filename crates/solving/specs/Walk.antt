-- What the walk of the columns asks of the parts that it lends. Definitions only.
use Rattle.std.specs.Prelude.{◌≡◌, Bool, true, List, ℕ, suc, ◌+◌, ◌≤◌, ◌<◌, T, eqb, length, get_or, drop, Float}
use Rattle.statement.specs.Shape.{Shape, supernodes, first, width, rows_of, trapezoid, offset}
use Rattle.statement.specs.Lists.{every}
use Rattle.statement.specs.Solve.{permutes, good_supernode}
use Rattle.laws.specs.Lent.{Walkable}

-- some rows, from q on, each above the one before it
pub record Rising (rows : List ℕ) (q : ℕ) : Type 0 where
  pub some : 0 < length rows
  pub from : get_or rows 0 0 ≡ q
  pub rise : (i : ℕ) → suc i < length rows → get_or rows i 0 < get_or rows (suc i) 0

-- the rows are q, q + 1, ..
abbrev pub is_run : List ℕ → ℕ → Bool
is_run rows q = every (λ i. eqb (get_or rows i 0) (q + i)) (length rows)

-- column q of n: its rows and its values, diagonal first
pub record Column (rows : List ℕ) (values : List Float) (q n : ℕ) : Type 0 where
  pub rising : Rising rows q
  pub long : length rows ≡ length values
  pub inside : q < n
  pub low : (i : ℕ) → i < length rows → get_or rows i 0 < n

-- w of n columns from f, with these rows, and their values
pub record Block (rows : List ℕ) (values : List Float) (f w n : ℕ) : Type 0 where
  pub some : 0 < w
  pub wide : w ≤ length rows
  pub few : length rows ≤ 32768
  pub room : trapezoid (length rows) w ≤ length values
  pub cols : f + w ≤ n
  pub own : (c : ℕ) → c < w → get_or rows c 0 ≡ f + c
  pub rise : (i : ℕ) → suc i < length rows → get_or rows i 0 < get_or rows (suc i) 0
  pub low : (i : ℕ) → i < length rows → get_or rows i 0 < n

-- a structure that can be walked, and whose supernodes each pass number 11's test
pub record Walked (S : Shape) : Type 0 where
  pub walk : Walkable S
  pub good : (K : ℕ) → K < supernodes S → T (good_supernode S K)

-- these are supernode K's, in the values v
pub record Supernode (S : Shape) (K : ℕ) (v : List Float) (rows : List ℕ) (values : List Float) (f w : ℕ) : Type 0 where
  pub rise : (J : ℕ) → J < supernodes S → first S J < first S (suc J)
  pub one : K < supernodes S
  pub own : rows ≡ rows_of S K
  pub at : values ≡ drop (offset S K) v
  pub from : f ≡ first S K
  pub wide : w ≡ width S K

-- a full factor, over lists as long as they should be
pub record Solving (S : Shape) (permutation : List ℕ) (values : List Float) (entries : ℕ) : Type 0 where
  pub walked : Walked S
  pub few : S.n ≤ 32768
  pub sized : entries ≡ offset S (supernodes S)
  pub room : entries ≤ length values
  pub long : S.n ≤ length permutation
  pub once : permutes S.n permutation ≡ true
