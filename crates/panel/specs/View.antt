-- What a view of one trapezoid shows. Definitions only.
use Rattle.std.specs.Prelude.{List, ℕ, ◌+◌, ◌-◌, ◌≤◌, ◌<◌, length, get_or, take, drop, Float}
use Rattle.std.specs.Float.{nan}
use Rattle.statement.specs.Shape.{trapezoid}

-- column c of the m-row trapezoid at the start of s, diagonal first, and its row p
abbrev pub column_of : ℕ → List Float → ℕ → List Float
column_of m s c = take (m - c) (drop (trapezoid m c) s)

abbrev pub cell : ℕ → List Float → ℕ → ℕ → Float
cell m s p c = get_or s (trapezoid m c + (p - c)) nan

-- the column lies in s, and no product of m and c wraps
pub record Within (m : ℕ) (s : List Float) (c : ℕ) : Type 0 where
  pub inside : c < m
  pub few : m ≤ 32768
  pub room : trapezoid m c + (m - c) ≤ length s
