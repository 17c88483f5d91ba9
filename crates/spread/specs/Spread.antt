-- The places of rows, through a list of positions. Definitions only.
use Rattle.std.specs.Prelude.{◌≡◌, List, ℕ, ◌+◌, ◌<◌, ◌≤◌, length, get_or}

-- the position of the row at `at + i`
abbrev pub pos_of : List ℕ → List ℕ → ℕ → ℕ → ℕ
pos_of place rows at i = get_or place (get_or rows (at + i) 0) 0

-- where it goes
abbrev pub through : List ℕ → List ℕ → ℕ → ℕ → ℕ → ℕ
through place rows base at i = base + pos_of place rows at i

-- the n rows from `at` go to places below L, each to its own
pub record Spread (place rows : List ℕ) (base at n L : ℕ) : Type 0 where
  pub listed : at + n ≤ length rows
  pub known : (i : ℕ) → i < n → get_or rows (at + i) 0 < length place
  pub within : (i : ℕ) → i < n → through place rows base at i < L
  pub apart : (i k : ℕ) → i < n → k < i → through place rows base at k ≡ through place rows base at i → ⊥

-- there are some, and their positions rise
pub record Rises (place rows : List ℕ) (at n : ℕ) : Type 0 where
  pub some : 0 < n
  pub listed : at + n ≤ length rows
  pub known : (i : ℕ) → i < n → get_or rows (at + i) 0 < length place
  pub rise : (i k : ℕ) → k < i → i < n → pos_of place rows at k < pos_of place rows at i

-- and they go to places below L
pub record Rising (place rows : List ℕ) (base at n L : ℕ) : Type 0 where
  pub rises : Rises place rows at n
  pub within : (i : ℕ) → i < n → through place rows base at i < L

-- position i is i after the first
abbrev pub Run : List ℕ → List ℕ → ℕ → ℕ → Type 0
Run place rows at n = (i : ℕ) → i < n → pos_of place rows at i ≡ pos_of place rows at 0 + i
