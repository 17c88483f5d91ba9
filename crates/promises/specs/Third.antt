-- Demand 3, told of whatever outcome keeps the promise of `factor::factor` (`Factors`): in the plain order or that of a list, to the end
-- or stopped anywhere. Definitions only.
use Rattle.std.specs.Prelude.{◌≡◌, ◌⊎◌, ◌≢◌, ◌↔◌, true, List, [], ℕ, ◌+◌, ◌-◌, ◌≤◌, ◌<◌, length, get_or, take, Float}
use Rattle.std.specs.Float.{nan}
use Rattle.statement.specs.Lists.{has, place}
use Rattle.statement.specs.Input.{Matrix, pattern}
use Rattle.statement.specs.Fill.{Fill, entries}
use Rattle.statement.specs.Postorder.{original, to_original}
use Rattle.statement.specs.Shape.{Shape, supernodes, first, width, height, rows_of, trapezoid, offset, stretch, zeros}
use Rattle.statement.specs.Root.{finite}
use Rattle.statement.specs.Rules.{made, step}
use Rattle.statement.specs.Run.{State, start, Under, Fate, done, failed, skipped, fate, run, pass}
use Rattle.statement.specs.Record.{empty_record}
use Rattle.statement.specs.Calls.{Analysis, analysis, entry_a, Settled, record_of, areas_of, cleared, order_of, stop_of, state_after, Factors}
use Rattle.statement.specs.Demands.{Such, Names, Obeys, Breaks}
use Rattle.statement.specs.declared.Original.{Original}
use Rattle.statement.specs.declared.Factored.{Factored}
use Rattle.statement.specs.declared.Answer.TheVariants.{Accepted, WrongPivot}
use Rattle.statement.specs.declared.Order.{Order}
use Rattle.statement.specs.declared.Order.TheVariants.{Plain, Listed}
use Rattle.statement.specs.declared.Room.{Room}
use Rattle.statement.specs.declared.Stage.TheVariants.{Partial, Full}
use Rattle.statement.specs.declared.Stop.{Stop}
use Rattle.statement.specs.declared.Stop.TheVariants.{After}

module _ (M : Matrix) where
  -- what analysis finds, its structure, how many supernodes there are, and A in factor numbering
  abbrev pub X : Analysis
  X = analysis M

  abbrev pub S : Shape
  S = X.shape

  abbrev pub N : ℕ
  N = supernodes S

  abbrev pub A : ℕ → ℕ → Float
  A = entry_a M X.permutation

  -- the call stops at the end: `End`, or the supernode count
  abbrev pub Whole : Stop → Type 0
  Whole e = stop_of S e ≡ N

  -- ---- the places elimination fills

  -- value x is the entry (i, j): row i of column c of supernode K
  pub record Entry (x i j : ℕ) : Type 0 where
    pub K : ℕ
    pub c : ℕ
    pub inside : K < N
    pub column : c < width S K
    pub is : j ≡ first S K + c
    pub row : has i (rows_of S K) ≡ true
    pub below : c ≤ place i (rows_of S K)
    pub at : x ≡ offset S K + (trapezoid (height S K) c + (place i (rows_of S K) - c))

  -- each place of the least set has one value, and each value one place of it; the set is the same in either numbering
  pub record Places : Type 0 where
    pub has_value : (i j : ℕ) → i < M.n → Fill X.pattern i j → (x : ℕ) × (x < entries (pattern M) M.n) × Entry x i j
    pub has_place : (x : ℕ) → x < entries (pattern M) M.n → (i : ℕ) × (j : ℕ) × (i < M.n) × Fill X.pattern i j × Entry x i j
    pub one_place : (x i j a b : ℕ) → Entry x i j → Entry x a b → (i ≡ a) × (j ≡ b)
    pub one_value : (x y i j : ℕ) → Entry x i j → Entry y i j → x ≡ y
    pub original_set : (a b : ℕ) → a < M.n → b < M.n → Fill X.pattern a b ↔ Fill (pattern M) (original X.permutation a) (original X.permutation b)

  -- ---- to the end

  -- the column k of the matrix's own numbering is the one a pass in postorder meets first
  pub record Meets (k : Original) : Type 0 where
    pub c : Factored
    pub J : ℕ
    pub v : List Float
    pub inside : J < N
    pub before : pass S A J ≡ made v
    pub breaks : Breaks S A v J c
    pub names : k ≡ to_original X.permutation c

  -- the values v by the entry rules, all finite, at exactly the places elimination fills (`Places`), in a full record
  pub record Completed (r : Room) (x : Settled) (v : List Float) : Type 0 where
    pub answer : x.returned.answer ≡ Accepted
    pub summary : x.returned.«record» ≡ record_of Full M X
    pub areas : x.areas ≡ areas_of r X v
    pub filled : length v ≡ entries (pattern M) M.n
    pub finite : (p : ℕ) → p < length v → finite (get_or v p nan) ≡ true
    pub rules : (K c : ℕ) → K < N → c < width S K → Obeys S A v K c

  -- a refusal naming that column
  pub record Refused (r : Room) (x : Settled) (k : Original) : Type 0 where
    pub answer : x.returned.answer ≡ WrongPivot k
    pub summary : x.returned.«record» ≡ empty_record
    pub areas : x.areas ≡ cleared r
    pub meets : Meets k

  -- ---- step by step along the order q

  module _ (q : List ℕ) where
    -- the state before turn y, and what becomes of the supernode whose turn it is
    abbrev pub before : ℕ → State
    before y = run S A (start S) (take y q)

    abbrev pub turn : ℕ → Fate
    turn y = fate S A (before y) (get_or q y 0)

    -- no failure within the first t
    abbrev pub Calm : ℕ → Type 0
    Calm t = (y : ℕ) (c : Factored) → y < t → turn y ≡ failed c → ⊥

    -- a failing supernode stops its ancestors only, which are skipped; a supernode that was made holds its bits, any other zeros
    pub record Turns (t : ℕ) : Type 0 where
      pub fails : (y : ℕ) (c : Factored) → y < t → turn y ≡ failed c → Breaks S A (before y).values (get_or q y 0) c
      pub skips : (y : ℕ) → y < t → (turn y ≡ skipped) ↔ ((x : ℕ) × (c : Factored) × (x < y) × Under S (get_or q x 0) (get_or q y 0) × (turn x ≡ failed c))
      pub makes : (y : ℕ) (f : List Float) → y < t → turn y ≡ done f → stretch S (before t).values (get_or q y 0) ≡ f
      pub clears : (y : ℕ) → y < t → ((f : List Float) → turn y ≡ done f → ⊥) → stretch S (before t).values (get_or q y 0) ≡ zeros S (get_or q y 0)

    -- c is the least failing column within the first t
    pub record Least (t : ℕ) (c : Factored) : Type 0 where
      pub y : ℕ
      pub inside : y < t
      pub fails : turn y ≡ failed c
      pub lowest : (z : ℕ) (d : Factored) → z < t → turn z ≡ failed d → c.0 ≤ d.0

    -- after t steps the values v hold the final bits of the supernodes named so far and zero elsewhere; the record is partial or full
    pub record Stopped (r : Room) (t : ℕ) (x : Settled) (v : List Float) : Type 0 where
      pub answer : x.returned.answer ≡ Accepted
      pub partial : t < N → x.returned.«record» ≡ record_of Partial M X
      pub full : t ≡ N → x.returned.«record» ≡ record_of Full M X
      pub areas : x.areas ≡ areas_of r X v
      pub filled : length v ≡ entries (pattern M) M.n
      pub named : (y : ℕ) → y < t → stretch S v (get_or q y 0) ≡ stretch S (state_after M X Plain [] N).values (get_or q y 0)
      pub final : (y : ℕ) → y < t → step S A v (get_or q y 0) ≡ made (stretch S v (get_or q y 0))
      pub unnamed : (K : ℕ) → K < N → ((y : ℕ) → y < t → get_or q y 0 ≢ K) → stretch S v K ≡ zeros S K

-- of calls in the order that o and l give
module _ (M : Matrix) (cap : ℕ) (r : Room) (o : Order) (l : List ℕ) where
  abbrev pub order : List ℕ
  order = order_of (S M) o l

  pub record Demand3 : Type 0 where
    -- a call x in that order and a plain call y, whatever list lies beside it, leave the same state
    pub same : (d e : Stop) (beside : List ℕ) (x y : Settled) → Whole M d → Whole M e → Factors M cap o l d r x → Factors M cap Plain beside e r y → x ≡ y
    -- either the same bits, all finite, at exactly the places elimination fills, or a refusal
    pub either : (e : Stop) (x : Settled) → Whole M e → Factors M cap o l e r x → ((v : List Float) × Completed M r x v) ⊎ ((k : Original) × Refused M r x k)
    pub places : Places M
    -- exactly when some pivot breaks the rule: else the values are the ones that meet the entry rules, and there are no others; the column
    -- that is named is the one that the pass meets first
    pub accepts : (e : Stop) (x : Settled) → Whole M e → Factors M cap o l e r x → (x.returned.answer ≡ Accepted) ↔ ((k : Original) → Meets M k → ⊥)
    pub exactly : (e : Stop) (x : Settled) → Whole M e → Factors M cap o l e r x → (v : List Float) → Completed M r x v ↔ ((length v ≡ entries (pattern M) M.n) × ((K c : ℕ) → K < N M → c < width (S M) K → Obeys (S M) (A M) v K c))
    pub refuses : (e : Stop) (x : Settled) → Whole M e → Factors M cap o l e r x → (k : Original) → (x.returned.answer ≡ WrongPivot k) ↔ Meets M k
    -- stopped after any number of steps with no failure so far: accepted, and what is then held
    pub calm : (t : ℕ) (x : Settled) → t ≤ N M → Factors M cap o l (After t) r x → (x.returned.answer ≡ Accepted) ↔ Calm M order t
    pub stops : (t : ℕ) (x : Settled) → t ≤ N M → Factors M cap o l (After t) r x → Calm M order t → Stopped M order r t x (before M order t).values
    -- with a failure: what each step came to, and which column is named
    pub turns : (t : ℕ) → t ≤ N M → Turns M order t
    pub wild : (t : ℕ) (x : Settled) → t ≤ N M → Factors M cap o l (After t) r x → (k : Original) → (x.returned.answer ≡ WrongPivot k) ↔ ((c : Factored) × Least M order t c × (k ≡ to_original (X M).permutation c))

-- such a matrix, cap and room enough: for any list naming each supernode once, children before parents, and for the plain order
pub record DemandThree : Type 0 where
  pub listed : (M : Matrix) (cap : ℕ) (r : Room) → Such M cap r → (l : List ℕ) → Names (S M) l → Demand3 M cap r Listed l
  pub plain : (M : Matrix) (cap : ℕ) (r : Room) → Such M cap r → (beside : List ℕ) → Demand3 M cap r Plain beside
