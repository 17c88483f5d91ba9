-- What the assembly asks of the structure that is lent to it: the analysis gives it. Definitions only.
use Rattle.std.specs.Prelude.{◌≡◌, true, List, ℕ, suc, ◌+◌, ◌*◌, ◌≤◌, ◌<◌, length, get_or}
use Rattle.statement.specs.Shape.{Shape, first, width, height, rows_of, trapezoid, offset}
use Rattle.statement.specs.declared.Update.{Update}
use Rattle.statement.specs.Areas.{no_update}
use Rattle.statement.specs.Lists.{has}
use Rattle.assembly.specs.declared.Supernode.{Supernode}

-- row p of the supernode K
abbrev pub row : Shape → ℕ → ℕ → ℕ
row S K p = get_or (rows_of S K) p 0

-- of the first N supernodes: first columns rise; rows rise strictly, begin with the supernode's own columns and stay below n
pub record Rows (S : Shape) (N : ℕ) : Type 0 where
  pub few : S.n ≤ 32768
  pub rise : (K : ℕ) → K < N → first S K < first S (suc K)
  pub tall : (K : ℕ) → K < N → width S K ≤ height S K
  pub own : (K c : ℕ) → K < N → c < width S K → row S K c ≡ first S K + c
  pub sorted : (K p q : ℕ) → K < N → p < q → q < height S K → row S K p < row S K q
  pub below : (K p : ℕ) → K < N → p < height S K → row S K p < S.n
  pub ends : N < length S.firsts
  pub many : N < length S.starts
  pub ordered : (K : ℕ) → K < N → get_or S.starts K 0 ≤ get_or S.starts (suc K) 0
  pub listed : (K : ℕ) → K < N → get_or S.starts (suc K) 0 ≤ length S.rows

-- the updates at hand, by their numbers: three words each
abbrev pub in_words : List ℕ → ℕ → Update
in_words words u = record { supernode = get_or words (3 * u) 0; p1 = get_or words (3 * u + 1) 0; p2 = get_or words (3 * u + 2) 0 }

-- those of a list from lo on
abbrev pub from : List Update → ℕ → ℕ → Update
from us lo u = get_or us (lo + u) no_update

-- an update's supernode, and the positions of its rows that are columns of the target
abbrev pub source : (ℕ → Update) → ℕ → ℕ
source upd u = (upd u).supernode

abbrev pub low : (ℕ → Update) → ℕ → ℕ
low upd u = (upd u).p1

abbrev pub high : (ℕ → Update) → ℕ → ℕ
high upd u = (upd u).p2

-- the first count updates are those of J, rising
pub record Listed (S : Shape) (J : ℕ) (upd : ℕ → Update) (count : ℕ) : Type 0 where
  pub before : (u : ℕ) → u < count → source upd u < J
  pub rising : (u t : ℕ) → u < t → t < count → source upd u < source upd t
  pub run : (u : ℕ) → u < count → (low upd u ≤ high upd u) × (high upd u ≤ height S (source upd u))
  pub past : (u : ℕ) → u < count → width S (source upd u) ≤ low upd u
  pub columns : (u q : ℕ) → u < count → low upd u ≤ q → q < high upd u → (first S J ≤ row S (source upd u) q) × (row S (source upd u) q < first S (suc J))
  pub only : (u q : ℕ) → u < count → q < height S (source upd u) → first S J ≤ row S (source upd u) q → row S (source upd u) q < first S (suc J) → (low upd u ≤ q) × (q < high upd u)
  pub nested : (u q : ℕ) → u < count → low upd u ≤ q → q < height S (source upd u) → has (row S (source upd u) q) (rows_of S J) ≡ true
  pub all : (K j : ℕ) → K < J → first S J ≤ j → j < first S (suc J) → has j (rows_of S K) ≡ true → (u : ℕ) × (u < count) × (source upd u ≡ K)

-- where the stretches up to J's start
pub record Offsets (S : Shape) (J : ℕ) (offs : List ℕ) : Type 0 where
  pub room : J < length offs
  pub at : (K : ℕ) → K ≤ J → get_or offs K 0 ≡ offset S K

-- the supernode K by its numbers
abbrev pub supernode_of : Shape → ℕ → Supernode
supernode_of S K = record { first = first S K; start = get_or S.starts K 0; height = height S K; width = width S K; offset = offset S K }

-- K is one of S's supernodes, and the offsets have its own
pub record Stands (S : Shape) (K : ℕ) (offs : List ℕ) : Type 0 where
  pub ends : suc K < length S.firsts
  pub many : suc K < length S.starts
  pub rise : get_or S.firsts K 0 ≤ get_or S.firsts (suc K) 0
  pub ordered : get_or S.starts K 0 ≤ get_or S.starts (suc K) 0
  pub listed : get_or S.starts (suc K) 0 ≤ length S.rows
  pub room : K < length offs
  pub at : get_or offs K 0 ≡ offset S K

-- J's rows know their positions
abbrev pub Placed : Shape → ℕ → List ℕ → Type 0
Placed S J pl = (p : ℕ) → p < height S J → get_or pl (row S J p) 0 ≡ p

-- J's own stretch, as the code has it at hand, and room for the rest
pub record Own (S : Shape) (J off m w : ℕ) (pl : List ℕ) (vlen wlen : ℕ) : Type 0 where
  pub off_is : off ≡ offset S J
  pub m_is : m ≡ height S J
  pub w_is : w ≡ width S J
  pub placed : Placed S J pl
  pub places : S.n ≤ length pl
  pub work : S.n ≤ wlen
  pub values : offset S (suc J) ≤ vlen

-- J's own stretch before it holds anything, as a part that starts there
pub record Fresh (S : Shape) (J m w f : ℕ) (pl : List ℕ) (olen : ℕ) : Type 0 where
  pub m_is : m ≡ height S J
  pub w_is : w ≡ width S J
  pub f_is : f ≡ first S J
  pub placed : Placed S J pl
  pub places : S.n ≤ length pl
  pub own : trapezoid (height S J) (width S J) ≤ olen
