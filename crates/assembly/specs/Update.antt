-- What an earlier supernode K takes from a later one, J. Assumes nothing.
use Rattle.std.specs.Prelude.{◌≡◌, List, ℕ, ◌+◌, ◌-◌, ◌<◌, ◌≤◌, length, get_or, drop, Float}
use Rattle.std.specs.Float.{nan, binary64}
use Rattle.std.specs.Float.Ieee.{sub}
use Rattle.panel.specs.View.{cell}
use Rattle.spread.specs.Spread.{pos_of}
use Rattle.statement.specs.Rules.{dot}
use Rattle.statement.specs.Shape.{trapezoid}

-- where the entry of K's row r, whose rows start at kr, in the column of K's row q lies in J's stretch
abbrev pub spot_of : List ℕ → List ℕ → ℕ → ℕ → ℕ → ℕ → ℕ
spot_of place rows m kr q r = trapezoid m (pos_of place rows kr q) + (pos_of place rows kr r - pos_of place rows kr q)

-- J: m rows, its stretch at off; K: km rows, kw columns, its rows from kr and its stretch at kv
pub record Target (place rows : List ℕ) (vlen wlen off m kr km kw kv q : ℕ) : Type 0 where
  pub few : m ≤ 32768
  pub few_k : km ≤ 32768
  pub past : kw ≤ q
  pub here : q < km
  pub listed : kr + km ≤ length rows
  pub room : km ≤ wlen
  pub stretch : kv + trapezoid km kw ≤ off
  pub known : (r : ℕ) → r < km → get_or rows (kr + r) 0 < length place
  -- J's positions of K's rows from q rise
  pub rise : (r s : ℕ) → q ≤ r → r < s → s < km → pos_of place rows kr r < pos_of place rows kr s
  pub inside : (r : ℕ) → q ≤ r → r < km → pos_of place rows kr r < m
  pub column : off + trapezoid m (pos_of place rows kr q) + (m - pos_of place rows kr q) ≤ vlen

-- the same for K's rows p1 to p2, which are columns of J, whose width is w
pub record Source (place rows : List ℕ) (vlen wlen off m w kr km kw kv p1 p2 : ℕ) : Type 0 where
  pub few : m ≤ 32768
  pub few_k : km ≤ 32768
  pub past : kw ≤ p1
  pub ordered : p1 ≤ p2
  pub in_k : p2 ≤ km
  pub listed : kr + km ≤ length rows
  pub room : km ≤ wlen
  pub stretch : kv + trapezoid km kw ≤ off
  pub own : off + trapezoid m w ≤ vlen
  pub known : (r : ℕ) → r < km → get_or rows (kr + r) 0 < length place
  pub rise : (r s : ℕ) → p1 ≤ r → r < s → s < km → pos_of place rows kr r < pos_of place rows kr s
  pub inside : (r : ℕ) → p1 ≤ r → r < km → pos_of place rows kr r < m
  pub columns : (r : ℕ) → p1 ≤ r → r < p2 → pos_of place rows kr r < w

-- what the update leaves
pub record Updated (place rows : List ℕ) (old new : List Float) (off m kr km kw kv p1 p2 : ℕ) : Type 0 where
  pub size : length new ≡ length old
  pub hit : (q r : ℕ) → p1 ≤ q → q < p2 → q ≤ r → r < km → get_or new (off + spot_of place rows m kr q r) nan ≡ sub binary64 (get_or old (off + spot_of place rows m kr q r) nan) (dot (cell km (drop kv old) r) (cell km (drop kv old) q) kw)
  pub miss : (x : ℕ) → ((q r : ℕ) → p1 ≤ q → q < p2 → q ≤ r → r < km → off + spot_of place rows m kr q r ≡ x → ⊥) → get_or new x nan ≡ get_or old x nan
