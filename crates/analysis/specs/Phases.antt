-- What each phase of the analysis leaves in the areas. Definitions only.
use Rattle.std.specs.Prelude.{◌≡◌, Bool, List, [], ◌∷◌, ◌++◌, ℕ, suc, ◌+◌, ◌≤◌, length, get_or, take, drop, replicate}
use Rattle.statement.specs.Lists.{list}
use Rattle.statement.specs.Fill.{parent}
use Rattle.statement.specs.Input.{stored}
use Rattle.statement.specs.Postorder as postorder
use Rattle.statement.specs.Shape.{supernodes}
use Rattle.statement.specs.Supernodes as supernodal
use Rattle.statement.specs.Areas.{Need, rows_need, updates_need, values_need, short}
use Rattle.std.proofs.Math.Option.{none}
use Rattle.statement.specs.declared.Room.{Room}
use Rattle.laws.specs.Numbered.{shape}
use Rattle.laws.proofs.Postorder.{pos}
use Rattle.areas.specs.Buckets.{Holds}
use Rattle.structure.specs.Line.{Known, Given}

-- room for numbering, and for the supernodal parents past the places
pub record Enough (n : ℕ) (permutation firsts starts groups tasks top words : List ℕ) : Type 0 where
  pub one : n ≤ length permutation
  pub two : n + 1 ≤ length firsts
  pub three : n + 1 ≤ length starts
  pub four : n + 1 ≤ length groups
  pub five : n + n ≤ length tasks
  pub six : n ≤ length top
  pub seven : n ≤ length words

-- ns supernodes with so many rows; the lists of the areas before (₀) and after
pub record Numbered (s : ℕ → ℕ → Bool) (n ns rows : ℕ) (permutation₀ firsts₀ starts₀ tasks₀ permutation firsts starts tasks words : List ℕ) : Type 0 where
  pub number : ns ≡ supernodes (shape s n)
  pub many : rows ≡ length (shape s n).rows
  pub one : permutation ≡ postorder.permutation s n ++ drop n permutation₀
  pub two : firsts ≡ (shape s n).firsts ++ drop (suc ns) (replicate (suc n) 0 ++ drop (n + 1) firsts₀)
  pub three : starts ≡ (shape s n).starts ++ drop (suc ns) (replicate (suc n) 0 ++ drop (n + 1) starts₀)
  pub five : tasks ≡ list (pos (parent s n) n) n ++ ((shape s n).parents ++ drop ns (drop n tasks₀))
  pub seven : take n words ≡ list (supernodal.owner (shape s n).firsts) n

-- the same, as what comes after reads it
pub record Placed (n ns : ℕ) (input_starts input_rows permutation firsts starts tasks words : List ℕ) : Type 0 where
  pub known : Known n ns input_starts input_rows firsts
  pub given : Given n input_starts input_rows permutation tasks words (drop n tasks)
  pub begun : Holds (λ K. get_or (shape (stored input_starts input_rows) n).starts K 0) (suc ns) starts

-- what areas 9 to 11 must hold
abbrev pub later_needs : (ℕ → ℕ → Bool) → ℕ → ℕ → Room → List Need
later_needs s n entries r = (rows_need (length (shape s n).rows) r ∷ updates_need (length (supernodal.updates (shape s n))) r ∷ []) ++ (values_need entries r ∷ [])

-- areas 9 to 11 are long enough: the numbers of supernodes, rows and updates, and each area but top, with the supernode of each column in the words
pub record Analysed (s : ℕ → ℕ → Bool) (n entries : ℕ) (r : Room) (ns rows updates : ℕ) (permutation₀ firsts₀ starts₀ groups₀ tasks₀ nine₀ : List ℕ)
    (permutation firsts starts groups tasks words nine : List ℕ) : Type 0 where
  pub calm : short (later_needs s n entries r) ≡ none
  pub numbered : Numbered s n ns rows permutation₀ firsts₀ starts₀ tasks₀ permutation firsts starts tasks words
  pub count : updates ≡ length (supernodal.updates (shape s n))
  pub four : groups ≡ supernodal.update_starts (shape s n) ++ drop (suc ns) (replicate (length groups₀) 0)
  pub area_nine : nine ≡ (shape s n).rows ++ drop (length (shape s n).rows) nine₀
