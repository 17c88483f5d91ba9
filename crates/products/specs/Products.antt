-- One product more, added or subtracted: row i after `at` of a column, times the row at `at`; and sums that are begun. Assumes nothing.
use Rattle.std.specs.Prelude.{◌≡◌, List, ℕ, zero, suc, ◌+◌, ◌-◌, ◌<◌, ◌≤◌, length, get_or, Float}
use Rattle.std.specs.Float.{nan, binary64}
use Rattle.std.specs.Float.Ieee.{add, sub, mul}
use Rattle.statement.specs.Shape.{trapezoid}
use Rattle.statement.specs.Rules.{dot}
use Rattle.panel.specs.View.{cell}

abbrev pub plus : List Float → ℕ → ℕ → Float → Float
plus v at i x = add binary64 x (mul binary64 (get_or v (at + i) nan) (get_or v at nan))

abbrev pub less : List Float → ℕ → ℕ → Float → Float
less v at i x = sub binary64 x (mul binary64 (get_or v (at + i) nan) (get_or v at nan))

-- four columns' products added, one after the other
abbrev pub plus4 : List Float → ℕ → ℕ → ℕ → ℕ → ℕ → Float → Float
plus4 v s₀ s₁ s₂ s₃ i x = plus v s₃ i (plus v s₂ i (plus v s₁ i (plus v s₀ i x)))

-- the products of the first k of the columns at `at` added, one after the other
unfoldable pub pluses : List Float → List ℕ → ℕ → Float → ℕ → Float
pluses v at i x zero = x
pluses v at i x (suc k) = plus v (get_or at k 0) i (pluses v at i x k)

-- and subtracted
unfoldable pub lesses : List Float → List ℕ → ℕ → Float → ℕ → Float
lesses v at i x zero = x
lesses v at i x (suc k) = less v (get_or at k 0) i (lesses v at i x k)

-- of kw columns of an m-row trapezoid k are summed: work has that sum for each row from q on, where q is a row below the kw columns
pub record Begun (m q kw k : ℕ) (v work : List Float) : Type 0 where
  pub upto : k ≤ kw
  pub above : kw ≤ q
  pub here : q < m
  pub few : m ≤ 32768
  pub stored : trapezoid m kw ≤ length v
  pub room : m - q ≤ length work
  pub sums : (i : ℕ) → i < m - q → get_or work i nan ≡ dot (cell m v (q + i)) (cell m v q) k
