-- The dense part of the entry rules, by positions in one trapezoid. Assumes nothing.
use Rattle.std.specs.Prelude.{◌≡◌, Bool, true, false, cond, List, ℕ, ⊤, Result, Ok, Err, ◌+◌, ◌-◌, ◌<◌, ◌≤◌, length, get_or, ltb, Float}
use Rattle.std.specs.Float.{nan, binary64}
use Rattle.std.specs.Float.Ieee.{sub, div}
use Rattle.statement.specs.Shape.{trapezoid}
use Rattle.statement.specs.Root.{root}
use Rattle.statement.specs.Rules.{dot, singly, panel, passes}
use Rattle.panel.specs.View.{cell}

-- row p of column c, less the products of the columns before c: x is what stands there before
unfoldable pub inner : ℕ → List Float → ℕ → ℕ → Float → Float
inner m s p c x =
    singly (cond (ltb c 64) x (sub binary64 x (dot (cell m s p) (cell m s c) (panel c)))) (cell m s p) (cell m s c) (panel c) (c - panel c)

-- the pivot of column c, and a quotient below it
abbrev pub pivot : ℕ → List Float → ℕ → Float
pivot m s c = inner m s c c (cell m s c c)

-- what one column's work leaves: a is the matrix's own diagonal entry
pub record Column (m c : ℕ) (a : Float) (old new : List Float) (ok : Bool) : Type 0 where
  pub size : length new ≡ length old
  pub good : ok ≡ passes a (pivot m old c)
  pub diag : ok ≡ true → cell m new c c ≡ root (pivot m old c)
  pub below : ok ≡ true → (p : ℕ) → c < p → p < m → cell m new p c ≡ div binary64 (inner m old p c (cell m old p c)) (root (pivot m old c))
  pub outside : (x : ℕ) → (trapezoid m c ≤ x → x < trapezoid m c + (m - c) → ⊥) → get_or new x nan ≡ get_or old x nan

-- column c of s meets the rules, by what stood in old before: a c is the matrix's own diagonal entry
pub record Ruled (m : ℕ) (a : ℕ → Float) (old s : List Float) (c : ℕ) : Type 0 where
  pub good : passes (a c) (inner m s c c (cell m old c c)) ≡ true
  pub diag : cell m s c c ≡ root (inner m s c c (cell m old c c))
  pub below : (p : ℕ) → c < p → p < m → cell m s p c ≡ div binary64 (inner m s p c (cell m old p c)) (root (inner m s c c (cell m old c c)))

-- the first r of w columns meet the rules, and the pivot of column r, if r is below w, breaks them
pub record Dense (m w : ℕ) (a : ℕ → Float) (old new : List Float) (r : ℕ) : Type 0 where
  pub size : length new ≡ length old
  pub upto : r ≤ w
  pub cols : (c : ℕ) → c < r → Ruled m a old new c
  pub stop : r < w → passes (a r) (inner m new r r (cell m old r r)) ≡ false
  pub outside : (x : ℕ) → trapezoid m w ≤ x → get_or new x nan ≡ get_or old x nan

-- how many of w columns passed
abbrev pub passed : ℕ → Result ⊤ ℕ → ℕ
passed w (Ok _) = w
passed w (Err c) = c
