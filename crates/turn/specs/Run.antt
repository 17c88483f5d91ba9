-- What the run asks and leaves. Definitions only.
use Rattle.std.specs.Prelude.{◌≡◌, List, [], ℕ, suc, ◌+◌, ◌-◌, ◌≤◌, ◌<◌, length, get_or, take, drop, Float}
use Rattle.laws.specs.Lent.{laid}
use Rattle.statement.specs.Lists.{list}
use Rattle.statement.specs.Shape.{Shape}
use Rattle.statement.specs.Run.{State, run}
use Rattle.statement.specs.declared.Factored.{Factored}
use Rattle.statement.specs.declared.Update.{Update}
use Rattle.laws.specs.Lower.{lower_value}
use Rattle.updates.specs.Layout.{parents_at, names_at, starts_at, rows_at}
use Rattle.assembly.specs.Ready.{from, Listed}
use Rattle.turn.specs.Turn.{count, under, Due}

-- nothing is halted, and no column has failed
abbrev pub fresh : Shape → List Float → State
fresh S values = record { values = values; halted = []; least = record { 0 = S.n } }

-- what the run along the names leaves: the values and the least failing column
pub record Ran (S : Shape) (A : ℕ → ℕ → Float) (l : List ℕ) (values values' : List Float) (r : Factored) : Type 0 where
  pub held : values' ≡ (run S A (fresh S values) l).values
  pub low : r ≡ (run S A (fresh S values) l).least

-- t supernodes of ns are named among the words, each has its updates among us, and the flags are clear
pub record RunReady (t ns n a entries : ℕ) (firsts starts rows groups : List ℕ) (us : List Update) (words : List ℕ) (floats values : List Float) : Type 0 where
  pub due : Due n firsts starts rows ns groups words (take a floats) entries (length floats - a)
  pub updates : (J : ℕ) → J < ns → (Listed (laid n firsts starts rows) J (from us (get_or groups J 0)) (count groups J)) × (get_or groups J 0 ≤ get_or groups (suc J) 0) × (get_or groups (suc J) 0 ≤ length us) × (count groups J ≤ n)
  pub most : t ≤ ns
  pub names : (p : ℕ) → p < t → get_or words (names_at n + p) 0 < ns
  pub flags : (J : ℕ) → J < ns → get_or words J 0 ≡ 0
  pub room : entries ≤ length values

-- of no names nothing; the values past the stretches as before
pub record RunLeft (t n a entries : ℕ) (firsts starts rows words : List ℕ) (floats values values' : List Float) (r : Factored) : Type 0 where
  pub idle : t ≡ 0 → (values' ≡ values) × (r ≡ record { 0 = n })
  pub ran : 0 < t →
      Ran (under n firsts starts rows (drop (parents_at n) words)) (lower_value (drop (starts_at n) words) (drop (rows_at n) words) (take a floats)) (list (λ p. get_or words (names_at n + p) 0) t) (take entries values) (take entries values') r
  pub rest : drop entries values' ≡ drop entries values
