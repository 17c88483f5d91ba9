-- What the scan for updates reads, and what it keeps. Definitions only.
use Rattle.std.specs.Prelude.{◌≡◌, Bool, ◌&&◌, List, ℕ, suc, ◌+◌, ◌-◌, ◌≤◌, ◌<◌, ltb, leb, length, get_or}
use Rattle.statement.specs.Lists.{bit, tally}
use Rattle.statement.specs.Input.{Columns, columns_limit, stored}
use Rattle.statement.specs.Shape.{Shape, supernodes, first, rows_of}
use Rattle.statement.specs.Supernodes.{owner, below, updates_of}
use Rattle.statement.specs.Areas.{no_update}
use Rattle.statement.specs.declared.Update.{Update}
use Rattle.laws.specs.Numbered.{shape}
use Rattle.views.specs.declared.Columns as views
use Rattle.areas.specs.Buckets.{Holds, Buckets}

-- where J's columns begin among K's rows
abbrev pub from : Shape → ℕ → ℕ → ℕ
from S K J = below (first S J) (rows_of S K)

-- K updates J: J is later and owns one of K's rows
abbrev pub hits : Shape → ℕ → ℕ → Bool
hits S K J = ltb K J && ltb (from S K J) (from S K (suc J))

-- the updates of J by the supernodes below K, and by K if J is at most t
abbrev pub met : Shape → ℕ → ℕ → ℕ → ℕ
met S K t J = tally (λ I. hits S I J) K + bit (hits S K J && leb J t)

-- ---- what the code's lists hold

abbrev pub shaped : ℕ → List ℕ → List ℕ → Shape
shaped n starts rows = shape (stored starts rows) n

-- that of a matrix's columns
abbrev pub shape_in : views.Columns → Shape
shape_in m = shaped m.n m.starts.now m.rows.now

-- n columns in ns supernodes: the first columns, the supernode of each column, the row starts and the rows
pub record Laid (n ns : ℕ) (starts rows firsts own from list : List ℕ) : Type 0 where
  pub formed : Columns n starts rows
  pub small : n ≤ columns_limit
  pub number : ns ≡ supernodes (shaped n starts rows)
  pub first-is : Holds (first (shaped n starts rows)) (suc ns) firsts
  pub own_is : Holds (owner (shaped n starts rows).firsts) n own
  pub from_is : Holds (λ K. get_or (shaped n starts rows).starts K 0) (suc ns) from
  pub list_is : Holds (λ i. get_or (shaped n starts rows).rows i 0) (length (shaped n starts rows).rows) list

-- supernode k's rows begin with its own columns
pub record Past (firsts starts rows : List ℕ) (k : ℕ) : Type 0 where
  pub in_firsts : k + 1 < length firsts
  pub in_starts : k + 1 < length starts
  pub rise : get_or firsts k 0 ≤ get_or firsts (k + 1) 0
  pub to : get_or starts k 0 + (get_or firsts (k + 1) 0 - get_or firsts k 0) ≤ get_or starts (k + 1) 0
  pub end : get_or starts (k + 1) 0 ≤ length rows

-- q is the first position from p whose row is not below bound, or e
pub record RunEnd (list : List ℕ) (p e bound q : ℕ) : Type 0 where
  pub from : p ≤ q
  pub to : q ≤ e
  pub low : (x : ℕ) → p ≤ x → x < q → get_or list x 0 < bound
  pub high : q < e → bound ≤ get_or list q 0

-- the updates by the supernodes below k are counted
pub record Counted (S : Shape) (k : ℕ) (counts : List ℕ) : Type 0 where
  pub room : supernodes S ≤ length counts
  pub is : (J : ℕ) → J < supernodes S → get_or counts J 0 ≡ tally (λ K. hits S K J) k

-- and stand in their places
abbrev pub Put : Shape → ℕ → List ℕ → List Update → Type 0
Put S k next l = Buckets no_update (updates_of S) (supernodes S) (λ J. tally (λ K. hits S K J) k) next l
