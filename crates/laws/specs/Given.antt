-- 01, "Numbers a call can answer": a number is given exactly when its row of the table says so and every test before it has passed.
-- Definitions only.
use Rattle.std.specs.Prelude.{◌≡◌, ◌⊎◌, ◌≢◌, ◌↔◌, true, false, List, [], ◌∷◌, ℕ, suc, ◌-◌, ◌*◌, ◌≤◌, ◌<◌, length, get_or, Float}
use Rattle.statement.specs.Lists.{has}
use Rattle.statement.specs.Input.{Matrix, WellFormed, columns_limit, rows_limit, rows_length, column}
use Rattle.statement.specs.Postorder.{to_original}
use Rattle.statement.specs.Shape.{Shape, supernodes, parent_of}
use Rattle.statement.specs.Run.{State, blocked}
use Rattle.statement.specs.Answers.{number}
use Rattle.statement.specs.Areas.{Need, needs}
use Rattle.statement.specs.Calls.{Analysis, analysis, entry_a, later, analyse, factor_needs, factor_later, order_of, stop_of, state_after, factor}
use Rattle.statement.specs.Solve.{FactorAreas, solvable, sides_limit, solve}
use Rattle.statement.specs.Demands.{Names, Breaks}
use Rattle.statement.specs.declared.Original.{Original}
use Rattle.statement.specs.declared.Factored.{Factored}
use Rattle.statement.specs.declared.Answer.{Answer}
use Rattle.statement.specs.declared.Answer.TheVariants.{Accepted, OverLimit, WrongLengths, WrongStarts, WrongColumn, ShortArea, OverCap, WrongOrder, WrongPivot, WrongSide, NoFactor, ManySides}
use Rattle.statement.specs.declared.Record.{Record}
use Rattle.statement.specs.declared.Order.{Order}
use Rattle.statement.specs.declared.Stop.{Stop}
use Rattle.statement.specs.declared.Room.{Room}

-- k is the first number below m of which P holds
pub record First (P : ℕ → Type 0) (m k : ℕ) : Type 0 where
  pub below : k < m
  pub holds : P k
  pub before : (i : ℕ) → i < k → P i → ⊥

-- ---- numbers 1 to 4

-- rows rise strictly and are at most k
abbrev pub GoodRows : ℕ → List ℕ → Type 0
GoodRows k l = ((q : ℕ) → suc q < length l → get_or l q 0 < get_or l (suc q) 0) × ((q : ℕ) → q < length l → get_or l q 0 ≤ k)

module _ (M : Matrix) where
  -- what has passed after number 1, the two of number 2, and number 3; after number 4 the matrix is well-formed
  abbrev pub Limited : Type 0
  Limited = (M.n ≤ columns_limit) × (rows_length M ≤ rows_limit)

  abbrev pub Counted : Type 0
  Counted = Limited × (length M.starts ≡ suc M.n)

  abbrev pub Paired : Type 0
  Paired = Counted × (length M.rows ≡ length M.values)

  -- the start at position p is the first and not 0, falls, or is the last and not a
  abbrev pub BadStart : ℕ → Type 0
  BadStart p =
      ((p ≡ 0) × (get_or M.starts p 0 ≢ 0)) ⊎
      (((0 < p) × (get_or M.starts p 0 < get_or M.starts (p - 1) 0)) ⊎ ((p ≡ M.n) × (get_or M.starts p 0 ≢ rows_length M)))

  abbrev pub Started : Type 0
  Started = Paired × ((p : ℕ) → p < suc M.n → BadStart p → ⊥)

  abbrev pub BadRows : ℕ → Type 0
  BadRows k = GoodRows k (column M.starts M.rows k) → ⊥

  pub record InputGiven (answer : Answer) : Type 0 where
    pub over_limit : (answer ≡ OverLimit) ↔ ((columns_limit < M.n) ⊎ (rows_limit < rows_length M))
    pub wrong_lengths : (x : ℕ) → (answer ≡ WrongLengths x) ↔
        ((Limited × ((length M.starts ≢ suc M.n) × (x ≡ 1))) ⊎ (Counted × ((length M.rows ≢ length M.values) × (x ≡ 2))))
    pub wrong_starts : (p : ℕ) → (answer ≡ WrongStarts p) ↔ (Paired × First BadStart (suc M.n) p)
    pub wrong_column : (k : Original) → (answer ≡ WrongColumn k) ↔ (Started × First BadRows M.n k.0)

-- ---- numbers 5 and 6, by the needs of the areas before and after the cap

abbrev pub nth : List Need → ℕ → Need
nth l k = get_or l k (record { area = 0; need = 0; length = 0 })

abbrev pub Met : List Need → Type 0
Met l = (k : ℕ) → k < length l → (nth l k).need ≤ (nth l k).length

-- the first of the needs that is not met is area a's, of d
pub record Lowest (l : List Need) (a d : ℕ) : Type 0 where
  pub place : ℕ
  pub first : First (λ k. (nth l k).length < (nth l k).need) (length l) place
  pub area : a ≡ (nth l place).area
  pub need : d ≡ (nth l place).need

module _ (M : Matrix) (cap : ℕ) (early late : List Need) where
  -- what has passed after the early areas, number 6 and the late areas
  abbrev pub Roomy : Type 0
  Roomy = WellFormed M × Met early

  abbrev pub Capped : Type 0
  Capped = Roomy × ((analysis M).entries ≤ cap)

  abbrev pub Held : Type 0
  Held = Capped × Met late

  pub record SizesGiven (answer : Answer) : Type 0 where
    pub input : InputGiven M answer
    pub short_area : (a d : ℕ) → (answer ≡ ShortArea a d) ↔ ((WellFormed M × Lowest early a d) ⊎ (Capped × Lowest late a d))
    pub over_cap : (x c : ℕ) → (answer ≡ OverCap x c) ↔ (Roomy × ((cap < (analysis M).entries) × ((x ≡ (analysis M).entries) × (c ≡ cap))))

-- ---- number 8

-- K is named before position p of the list l
abbrev pub Before : List ℕ → ℕ → ℕ → Type 0
Before l p K = (y : ℕ) × (y < p) × (get_or l y 0 ≡ K)

module _ (S : Shape) (l : List ℕ) where
  -- the entry at position p is out of range, named before, or has a child not named before
  abbrev pub BadEntry : ℕ → Type 0
  BadEntry p =
      (supernodes S ≤ get_or l p 0) ⊎ (Before l p (get_or l p 0) ⊎ ((K : ℕ) × (K < supernodes S) × (parent_of S K ≡ get_or l p 0) × (Before l p K → ⊥)))

  -- with the stop count t, position p is named: the supernode count, if the length is another or t is above it; else the first bad entry
  abbrev pub WrongAt : ℕ → ℕ → Type 0
  WrongAt t p =
      (((length l ≢ supernodes S) ⊎ (supernodes S < t)) × (p ≡ supernodes S)) ⊎
      (((length l ≡ supernodes S) × (t ≤ supernodes S)) × First BadEntry (length l) p)

-- ---- the calls

-- the numbers that each can answer: 12 never
abbrev pub analyse_numbers : List ℕ
analyse_numbers = 0 ∷ 1 ∷ 2 ∷ 3 ∷ 4 ∷ 5 ∷ 6 ∷ []

abbrev pub factor_numbers : List ℕ
factor_numbers = 0 ∷ 1 ∷ 2 ∷ 3 ∷ 4 ∷ 5 ∷ 6 ∷ 8 ∷ 9 ∷ []

abbrev pub solve_numbers : List ℕ
solve_numbers = 0 ∷ 5 ∷ 10 ∷ 11 ∷ 14 ∷ []

module _ (M : Matrix) (cap : ℕ) (r : Room) where
  abbrev pub analysed : Answer
  analysed = (analyse M cap r).returned.answer

  pub record AnalyseGiven : Type 0 where
    pub sizes : SizesGiven M cap (needs M.n (rows_length M) r) (later (analysis M) r) analysed
    pub accepted : (analysed ≡ Accepted) ↔ Held M cap (needs M.n (rows_length M) r) (later (analysis M) r)
    pub others : has (number analysed) analyse_numbers ≡ true

module _ (M : Matrix) (cap : ℕ) (o : Order) (l : List ℕ) (e : Stop) (r : Room) where
  abbrev pub factored : Answer
  factored = (factor M cap o l e r).returned.answer

  abbrev pub X : Analysis
  X = analysis M

  abbrev pub order : List ℕ
  order = order_of X.shape o l

  abbrev pub stop : ℕ
  stop = stop_of X.shape e

  abbrev pub ran : State
  ran = state_after M X o l stop

  -- column c fails within the first t: its supernode is named there, none of its children is halted, and the pivot breaks the rule
  abbrev pub Fails : Factored → Type 0
  Fails c = (K : ℕ) × Before order stop K × (blocked X.shape ran.halted K K ≡ false) × Breaks X.shape (entry_a M X.permutation) ran.values K c

  abbrev pub Housed : Type 0
  Housed = Held M cap (factor_needs M r) (factor_later X r)

  abbrev pub Ordered : Type 0
  Ordered = Housed × (Names X.shape order × (stop ≤ supernodes X.shape))

  pub record FactorGiven : Type 0 where
    pub sizes : SizesGiven M cap (factor_needs M r) (factor_later X r) factored
    pub wrong_order : (p : ℕ) → (factored ≡ WrongOrder p) ↔ (Housed × WrongAt X.shape order stop p)
    pub wrong_pivot : (k : Original) → (factored ≡ WrongPivot k) ↔ (Ordered × ((c : Factored) × First (λ j. Fails (record { 0 = j })) M.n c.0 × (k ≡ to_original X.permutation c)))
    pub accepted : (factored ≡ Accepted) ↔ (Ordered × ((c : Factored) → c.0 < M.n → Fails c → ⊥))
    pub others : has (number factored) factor_numbers ≡ true

module _ (R : Record) (f : FactorAreas) (k : ℕ) (b : List Float) (words floats : ℕ) where
  abbrev pub solved : Answer
  solved = (solve R f k b words floats).answer

  -- n in 7 and n in 8
  abbrev pub scratch : List Need
  scratch = record { area = 7; need = R.n; length = words } ∷ record { area = 8; need = R.n; length = floats } ∷ []

  -- what has passed after number 14, and after number 10
  abbrev pub Few : Type 0
  Few = (solvable R f ≡ true) × (k ≤ sides_limit)

  abbrev pub Sided : Type 0
  Sided = Few × (length b ≡ R.n * k)

  pub record SolveGiven : Type 0 where
    pub no_factor : (solved ≡ NoFactor) ↔ (solvable R f ≡ false)
    pub many_sides : (solved ≡ ManySides) ↔ ((solvable R f ≡ true) × (sides_limit < k))
    pub wrong_side : (x : ℕ) → (solved ≡ WrongSide x) ↔ (Few × ((length b ≢ R.n * k) × (x ≡ length b)))
    pub short_area : (a d : ℕ) → (solved ≡ ShortArea a d) ↔ (Sided × Lowest scratch a d)
    pub accepted : (solved ≡ Accepted) ↔ (Sided × Met scratch)
    pub others : has (number solved) solve_numbers ≡ true
