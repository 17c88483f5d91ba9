-- What the assembly of a stretch leaves, and each of its parts. Definitions only.
use Rattle.std.specs.Prelude.{◌≡◌, List, ℕ, suc, ◌+◌, ◌-◌, ◌≤◌, ◌<◌, length, get_or, Float}
use Rattle.std.specs.Float.{nan}
use Rattle.areas.specs.Touch.{Touched}
use Rattle.panel.specs.View.{cell}
use Rattle.spread.specs.Spread.{pos_of}
use Rattle.assembly.specs.Ready.{row, source, low, high}
use Rattle.assembly.specs.Update.{Updated}
use Rattle.statement.specs.Shape.{Shape, first, width, height, trapezoid, offset}
use Rattle.statement.specs.declared.Update.{Update}
use Rattle.statement.specs.Input.{+0}
use Rattle.statement.specs.Rules.{earlier}
use Rattle.laws.specs.Lower.{lower_value}

-- where row p of column c of J lies
abbrev pub at : Shape → ℕ → ℕ → ℕ → ℕ
at S J p c = offset S J + (trapezoid (height S J) c + (p - c))

-- what one update leaves
abbrev pub Took : Shape → ℕ → (ℕ → Update) → ℕ → List ℕ → List Float → List Float → Type 0
Took S J upd u pl old new =
    let K = source upd u in
    Updated pl S.rows old new (offset S J) (height S J) (get_or S.starts K 0) (height S K) (width S K) (offset S K) (low upd u) (high upd u)

-- what all updates leave: each entry less a sum for each earlier supernode, and nothing else changed
pub record Gathered (S : Shape) (J : ℕ) (old new : List Float) : Type 0 where
  pub size : length new ≡ length old
  pub cells : (A : ℕ → ℕ → Float) (p c : ℕ) → c < width S J → c ≤ p → p < height S J → get_or new (at S J p c) nan ≡ earlier S A old (row S J p) (first S J + c) (get_or old (at S J p c) nan) J
  pub before : (x : ℕ) → x < offset S J → get_or new x nan ≡ get_or old x nan
  pub after : (x : ℕ) → offset S (suc J) ≤ x → get_or new x nan ≡ get_or old x nan

-- where the entry i of A's column c of J lies
abbrev pub spot_a : Shape → ℕ → List ℕ → List ℕ → List ℕ → ℕ → ℕ → ℕ
spot_a S J starts rows pl c i = trapezoid (height S J) c + (pos_of pl rows (get_or starts (first S J + c) 0) i - c)

-- the entries of column c are stored
abbrev pub Scattered : Shape → ℕ → List ℕ → List ℕ → List Float → List ℕ → ℕ → List Float → List Float → Type 0
Scattered S J starts rows vals pl c old new =
    Touched nan old new (get_or starts (first S J + c + 1) 0 - get_or starts (first S J + c) 0) (spot_a S J starts rows pl c) (λ i. get_or vals (get_or starts (first S J + c) 0 + i) nan)

-- the first w columns hold A's entries, the others of J zeros
pub record FromA (S : Shape) (J : ℕ) (starts rows : List ℕ) (vals : List Float) (w : ℕ) (old new : List Float) : Type 0 where
  pub size : length new ≡ length old
  pub cells : (p c : ℕ) → c < w → c ≤ p → p < height S J → cell (height S J) new p c ≡ lower_value starts rows vals (row S J p) (first S J + c)
  pub zeros : (x : ℕ) → trapezoid (height S J) w ≤ x → x < trapezoid (height S J) (width S J) → get_or new x nan ≡ +0
  pub after : (x : ℕ) → trapezoid (height S J) (width S J) ≤ x → get_or new x nan ≡ get_or old x nan

-- what the assembly leaves in J's stretch, and nothing else changed
pub record Assembled (S : Shape) (A : ℕ → ℕ → Float) (J : ℕ) (old new : List Float) : Type 0 where
  pub size : length new ≡ length old
  pub cells : (p c : ℕ) → c < width S J → c ≤ p → p < height S J → get_or new (at S J p c) nan ≡ earlier S A old (row S J p) (first S J + c) (A (row S J p) (first S J + c)) J
  pub before : (x : ℕ) → x < offset S J → get_or new x nan ≡ get_or old x nan
  pub after : (x : ℕ) → offset S (suc J) ≤ x → get_or new x nan ≡ get_or old x nan
