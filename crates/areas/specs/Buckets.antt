-- Lists that stand one after another in an area and are filled side by side. Definitions only.
use Rattle.std.specs.Prelude.{◌≡◌, List, ℕ, ◌+◌, ◌≤◌, ◌<◌, length, get_or, drop}
use Rattle.statement.specs.Lists.{joined}

-- where b k begins among b 0, b 1, ..
abbrev pub start : {A : Type 0} → (ℕ → List A) → ℕ → ℕ
start b k = length (joined b k)

-- l begins with f 0, .. , f (m - 1)
pub record Holds (f : ℕ → ℕ) (m : ℕ) (l : List ℕ) : Type 0 where
  pub fits : m ≤ length l
  pub at : (j : ℕ) → j < m → get_or l j 0 ≡ f j

-- bucket j, which is to hold b j, has its first c j elements; next says where it goes on
pub record Buckets {A : Type 0} (z : A) (b : ℕ → List A) (m : ℕ) (c : ℕ → ℕ) (next : List ℕ) (l : List A) : Type 0 where
  pub room : m ≤ length next
  pub fits : start b m ≤ length l
  pub most : (j : ℕ) → j < m → c j ≤ length (b j)
  pub here : (j : ℕ) → j < m → get_or next j 0 ≡ start b j + c j
  pub is : (j q : ℕ) → j < m → q < c j → get_or l (start b j + q) z ≡ get_or (b j) q z

-- from p on, l is as l₀ was
pub record Beyond {A : Type 0} (p : ℕ) (l₀ l : List A) : Type 0 where
  pub len : length l ≡ length l₀
  pub rest : drop p l ≡ drop p l₀
