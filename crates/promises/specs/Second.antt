-- Demand 2: structure, factor, refusal and solution by the entry-by-entry rules, told of whatever outcome keeps a call's promise.
-- Definitions only.
use Rattle.std.specs.Prelude.{◌≡◌, ◌⊎◌, ◌↔◌, Bool, true, false, List, [], ℕ, suc, ◌+◌, ◌-◌, ◌*◌, ◌≤◌, ◌<◌, T, length, get_or, replicate, Float}
use Rattle.std.specs.Float.{binary64}
use Rattle.std.specs.Float.Ieee.{round, div}
use Rattle.statement.specs.Lists.{has, place}
use Rattle.statement.specs.Input.{Matrix, WellFormed, pattern, +0}
use Rattle.statement.specs.Fill.{Fill, fill, parent, count, rows_of_column}
use Rattle.statement.specs.Postorder.{Up, original}
use Rattle.statement.specs.Shape.{Shape, supernodes, first, width, rows_of, parent_of, stretch}
use Rattle.statement.specs.Supernodes.{joins}
use Rattle.statement.specs.Root.{IsRoot}
use Rattle.statement.specs.Rules.{tolerance, passes, look, entry}
use Rattle.statement.specs.Calls.{Settled, record_of, areas_of, structure_room, Analyses, order_of, Factors}
use Rattle.statement.specs.Solve.{factored_in, values_in, solution, sides_limit, side_in, Solved, Solves, Views}
use Rattle.statement.specs.Demands.{Numbers, Such, Names}
use Rattle.statement.specs.declared.Original.{Original}
use Rattle.statement.specs.declared.Factored.{Factored}
use Rattle.statement.specs.declared.Answer.TheVariants.{Accepted}
use Rattle.statement.specs.declared.Order.{Order}
use Rattle.statement.specs.declared.Room.{Room}
use Rattle.statement.specs.declared.Stage.TheVariants.{Analysed}
use Rattle.statement.specs.declared.Stop.{Stop}
use Rattle.promises.specs.Third.{X, S, N, A, Whole, Places, Completed, Refused}

-- ---- structure, by the pattern s of n columns

module _ (s : ℕ → ℕ → Bool) (n : ℕ) where
  -- the pattern of L: the test decides the least set; the rows of a column, and their number
  pub record Filled : Type 1 where
    pub decides : (i j : ℕ) → (fill s i j ≡ true) ↔ Fill s i j
    pub least : (P : ℕ → ℕ → Type 0) → ((j : ℕ) → P j j) → ((i k : ℕ) → T (s i k) → P k i) → ((i j k : ℕ) → k < j → j < i → P i k → P j k → P i j) → (i j : ℕ) → Fill s i j → P i j
    pub rows : (i j : ℕ) → (has i (rows_of_column s n j) ≡ true) ↔ ((i < n) × Fill s i j)
    pub rise : (j x y : ℕ) → x < y → y < length (rows_of_column s n j) → get_or (rows_of_column s n j) x 0 < get_or (rows_of_column s n j) y 0
    pub counts : (j : ℕ) → count s n j ≡ length (rows_of_column s n j)

  -- the parent of j is the least i > j with (i, j) in it, n if there is none
  pub record Parents : Type 0 where
    pub above : (j : ℕ) → j < n → j < parent s n j
    pub to : (j : ℕ) → j < n → parent s n j ≤ n
    pub in_set : (j : ℕ) → j < n → parent s n j < n → Fill s (parent s n j) j
    pub none_before : (i j : ℕ) → j < i → i < parent s n j → Fill s i j → ⊥

  -- q is the postorder: roots rising, children rising, each child's whole subtree in one run, then the parent
  pub record Postordered (q : List ℕ) : Type 0 where
    pub long : length q ≡ n
    pub inside : (a : ℕ) → a < n → original q a < n
    pub once : (a b : ℕ) → a < n → b < n → original q a ≡ original q b → a ≡ b
    pub all : (j : ℕ) → j < n → (a : ℕ) × (a < n) × (original q a ≡ j)
    pub parents : (a b : ℕ) → a < n → b < n → parent s n (original q a) ≡ original q b → a < b
    pub siblings : (a b : ℕ) → a < n → b < n → parent s n (original q a) ≡ parent s n (original q b) → original q a < original q b → a < b
    pub runs : (a b c : ℕ) → a ≤ b → b ≤ c → c < n → Up (parent s n) (original q a) (original q c) → Up (parent s n) (original q b) (original q c)

  -- T holds its supernodes, in factor numbering
  pub record Supernodal (T : Shape) : Type 0 where
    pub exactly : (j : ℕ) → suc j < n → (joins s n j ≡ true) ↔ ((parent s n j ≡ suc j) × ((c : ℕ) → c < n → parent s n c ≡ suc j → c ≡ j) × (count s n j ≡ suc (count s n (suc j))))
    pub from : first T 0 ≡ 0
    pub ends : first T (supernodes T) ≡ n
    pub rise : (K : ℕ) → K < supernodes T → first T K < first T (suc K)
    pub apart : (K j : ℕ) → K < supernodes T → suc j ≡ first T K → joins s n j ≡ false
    pub together : (K j : ℕ) → K < supernodes T → first T K ≤ j → suc j < first T (suc K) → joins s n j ≡ true
    pub rows : (K : ℕ) → K < supernodes T → rows_of T K ≡ rows_of_column s n (first T K)
    -- the parent owns the last column's parent, and is their number where that is n
    pub parent_to : (K : ℕ) → K < supernodes T → parent s n (first T (suc K) - 1) ≡ n → parent_of T K ≡ supernodes T
    pub parent_in : (K : ℕ) → K < supernodes T → parent s n (first T (suc K) - 1) < n → (parent_of T K < supernodes T) × (first T (parent_of T K) ≤ parent s n (first T (suc K) - 1)) × (parent s n (first T (suc K) - 1) < first T (suc (parent_of T K)))

-- in the matrix's own numbering, and in factor numbering
pub record Structure (M : Matrix) : Type 1 where
  pub own : Filled (pattern M) M.n
  pub tree : Parents (pattern M) M.n
  pub postorder : Postordered (pattern M) M.n (X M).permutation
  pub set : Filled (X M).pattern M.n
  pub tree' : Parents (X M).pattern M.n
  pub supernodes : Supernodal (X M).pattern M.n (S M)
  pub places : Places M

-- ---- values

module _ (M : Matrix) where
  -- the pivot of column c of supernode K
  abbrev pub pivot : List Float → ℕ → ℕ → Float
  pivot v K c = entry (S M) (A M) v (stretch (S M) v K) K (first (S M) K + c) c

  -- it passes; its root, the nearest f64, stands on the diagonal; below it stand the quotients
  pub record Rooted (v : List Float) (K c : ℕ) : Type 0 where
    pub passed : passes (A M (first (S M) K + c) (first (S M) K + c)) (pivot v K c) ≡ true
    pub diagonal : IsRoot (pivot v K c) (look (S M) K (stretch (S M) v K) (first (S M) K + c) c)
    pub below : (i : ℕ) → has i (rows_of (S M) K) ≡ true → c < place i (rows_of (S M) K) →
        look (S M) K (stretch (S M) v K) i c ≡ div binary64 (entry (S M) (A M) v (stretch (S M) v K) K i c) (look (S M) K (stretch (S M) v K) (first (S M) K + c) c)

  -- k right sides solved: at each place the solution of the right side that stood there, as one solve has it; scratch zero
  pub record EachSolved (v : List Float) (k : ℕ) (b : List Float) (words floats : ℕ) (y : Solved) : Type 0 where
    pub answer : y.answer ≡ Accepted
    pub long : length y.b ≡ M.n * k
    pub each : (j : ℕ) → j < k → side_in M.n y.b j ≡ solution M.n (X M).permutation (S M) v (side_in M.n b j)
    pub seven : y.words ≡ replicate words 0
    pub eight : y.floats ≡ replicate floats +0

  -- an accepted factor x: its values, what solve makes of it, and what the view hands back
  pub record Success (r : Room) (x : Settled) : Type 0 where
    pub v : List Float
    pub completed : Completed M r x v
    pub rooted : (K c : ℕ) → K < N M → c < width (S M) K → Rooted v K c
    pub solves : (k : ℕ) (b : List Float) (words floats : ℕ) (y : Solved) → k ≤ sides_limit → length b ≡ M.n * k → M.n ≤ words → M.n ≤ floats
        → Solves x.returned.«record» (factored_in x.areas) k b words floats y → EachSolved v k b words floats y
    pub views : (q : Factored) (y : List Float) → q.0 < M.n → Views x.returned.«record» (factored_in x.areas) q y → y ≡ values_in (S M) v q.0

-- 1e-10 is the nearest f64: 1 / 10 ^ 10, rounded once
abbrev pub nearest_tolerance : Float
nearest_tolerance = round binary64 false 1 10000000000

pub record Demand2 (M : Matrix) : Type 1 where
  pub structure : Structure M
  -- an accepted analyse leaves it in its areas, and the counts in its record
  pub analysed : (cap : ℕ) (r : Room) (x : Settled) → Analyses M cap r x → x.returned.answer ≡ Accepted → (x.returned.«record» ≡ record_of Analysed M (X M)) × (x.areas ≡ areas_of (structure_room r) (X M) [])
  -- with cap and room enough, in whatever legal order: the factor, or the refusal
  pub factored : (cap : ℕ) (r : Room) → Such M cap r → (o : Order) (l : List ℕ) (e : Stop) (x : Settled) → Names (S M) (order_of (S M) o l) → Whole M e → Factors M cap o l e r x
      → Success M r x ⊎ ((k : Original) × Refused M r x k)
  pub near : tolerance ≡ nearest_tolerance

-- for every well-formed matrix within the limits
abbrev pub DemandTwo : Type 1
DemandTwo = (M : Matrix) → WellFormed M → Demand2 M

-- and whatever was asked: a factor that is accepted and stops at the end is one
abbrev pub OnSuccess : Type 0
OnSuccess = (M : Matrix) (cap : ℕ) (o : Order) (l : List ℕ) (e : Stop) (r : Room) (x : Settled) → Numbers M → Whole M e → Factors M cap o l e r x → x.returned.answer ≡ Accepted → Success M r x
