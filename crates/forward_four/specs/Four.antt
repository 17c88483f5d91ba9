-- One column whose rows follow each other, and four such columns of one block. Definitions only.
use Rattle.std.specs.Prelude.{◌≡◌, List, ℕ, ◌+◌, ◌-◌, ◌≤◌, ◌<◌, length, get_or, set, drop, Float}
use Rattle.std.specs.Float.{nan, binary64}
use Rattle.std.specs.Float.Ieee.{sub, mul, div}
use Rattle.statement.specs.Lists.{rising}
use Rattle.statement.specs.Input.{+0}
use Rattle.statement.specs.Solve.{less_below}

-- t, less the value at k times y
abbrev pub less : List Float → Float → ℕ → Float → Float
less l y k t = sub binary64 t (mul binary64 (get_or l k nan) y)

-- column q with the values l, diagonal first: divide, then subtract at the places below
unfoldable pub column : List Float → ℕ → List Float → List Float
column x q l =
    let y : Float = div binary64 (get_or x q +0) (get_or l 0 +0) in
    less_below (set x q y) y (rising (q + 1) (length l - 1)) (drop 1 l)

-- columns q to q + 3 of n, each a row shorter than the one before it
pub record Four (l₀ l₁ l₂ l₃ : List Float) (q n : ℕ) : Type 0 where
  pub some : 0 < length l₃
  pub third : length l₂ ≡ length l₃ + 1
  pub second : length l₁ ≡ length l₃ + 2
  pub first : length l₀ ≡ length l₃ + 3
  pub room : q + length l₀ ≤ n
