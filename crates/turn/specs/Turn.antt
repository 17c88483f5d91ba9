-- What one turn of the run asks and leaves. Definitions only.
use Rattle.std.specs.Prelude.{◌≡◌, List, ℕ, suc, ◌+◌, ◌*◌, ◌-◌, ◌≤◌, ◌<◌, length, get_or, set, drop, Float}
use Rattle.laws.specs.Lent.{laid}
use Rattle.statement.specs.Lists.{bit}
use Rattle.statement.specs.Shape.{Shape, offset}
use Rattle.statement.specs.Run.{State, blocked, settle, fate}
use Rattle.statement.specs.declared.Factored.{Factored}
use Rattle.statement.specs.declared.Update.{Update}
use Rattle.laws.specs.Lower.{Lower, Pattern}
use Rattle.updates.specs.Layout.{updates_at, owners_at, offsets_at, parents_at, starts_at, rows_at}
use Rattle.assembly.specs.Ready.{Rows, in_words, Listed, Offsets}

-- for the supernode J: matrix are A's values, vlen and wlen the lengths of the values and of the work space
pub record DueAt (S : Shape) (J : ℕ) (groups words : List ℕ) (matrix : List Float) (vlen wlen : ℕ) : Type 0 where
  pub shape : Rows S (suc J)
  pub grouped : suc J < length groups
  pub inside : rows_at S.n ≤ length words
  pub offsets : Offsets S J (drop (offsets_at S.n) words)
  pub lower : Lower (drop (starts_at S.n) words) (drop (rows_at S.n) words) matrix S.n
  pub pattern : Pattern S J (drop (starts_at S.n) words) (drop (rows_at S.n) words)
  pub values : offset S (suc J) ≤ vlen
  pub work : S.n ≤ wlen

-- how many updates J has, from where its own begin to where the next's do
abbrev pub count : List ℕ → ℕ → ℕ
count groups J = get_or groups (suc J) 0 - get_or groups J 0

-- J's updates are at hand among the words
pub record Fetched (S : Shape) (J : ℕ) (groups words : List ℕ) : Type 0 where
  pub updates : Listed S J (in_words (drop (updates_at S.n) words)) (count groups J)
  pub rise : get_or groups J 0 ≤ get_or groups (suc J) 0
  pub fits : count groups J ≤ S.n

-- the words with u as the update i at hand
abbrev pub kept_at : ℕ → ℕ → Update → List ℕ → List ℕ
kept_at n i u words =
    let p = updates_at n + 3 * i in
    set (set (set words p u.supernode) (p + 1) u.p1) (p + 2) u.p2

-- the lent lists as a structure, with its parents
abbrev pub under : ℕ → List ℕ → List ℕ → List ℕ → List ℕ → Shape
under n firsts starts rows parents = record { n = n; firsts = firsts; starts = starts; rows = rows; parents = parents }

-- for any of the first ns supernodes
pub record Due (n : ℕ) (firsts starts rows : List ℕ) (ns : ℕ) (groups words : List ℕ) (matrix : List Float) (entries wlen : ℕ) : Type 0 where
  pub at : (J : ℕ) → J < ns → DueAt (laid n firsts starts rows) J groups words matrix entries wlen
  pub few : ns ≤ n
  pub up : (K : ℕ) → K < ns → K < get_or words (parents_at n + K) 0
  pub top : (K : ℕ) → K < ns → get_or words (parents_at n + K) 0 ≤ n

-- the first ns words say which supernodes have a halted child
abbrev pub Flagged : Shape → ℕ → List ℕ → List ℕ → Type 0
Flagged S ns h words = (J : ℕ) → J < ns → get_or words J 0 ≡ bit (blocked S h J ns)

-- values, least failing column and flags are those of the state s
pub record Is (S : Shape) (ns : ℕ) (s : State) (values : List Float) (least : Factored) (words : List ℕ) : Type 0 where
  pub held : values ≡ s.values
  pub low : least ≡ s.least
  pub flags : Flagged S ns s.halted words

-- what one turn leaves: from any state to the next, and what is only read as it was
pub record Turned (S : Shape) (A : ℕ → ℕ → Float) (ns J : ℕ) (least r : Factored) (words words' : List ℕ) (values values' : List Float) : Type 0 where
  pub next : (s : State) → Is S ns s values least words → Is S ns (settle S s J (fate S A s J)) values' r words'
  pub rest : drop (owners_at S.n) words' ≡ drop (owners_at S.n) words
  pub sized : length values' ≡ length values
