-- Who may be named next, from the parents p of ns supernodes. Definitions only.
use Rattle.std.specs.Prelude.{◌≡◌, Bool, cond, not, ◌&&◌, List, [], ◌∷◌, ℕ, zero, suc, ◌≤◌, ◌<◌, eqb, ltb, get_or}
use Rattle.statement.specs.Lists.{has, tally}
use Rattle.statement.specs.Shape.{Shape, supernodes, parent_of}

-- each parent comes later, and ns stands for none
pub record Above (p : List ℕ) (ns : ℕ) : Type 0 where
  pub up : (K : ℕ) → K < ns → K < get_or p K 0
  pub to : (K : ℕ) → K < ns → get_or p K 0 ≤ ns

-- they are those of a structure
pub record Of (S : Shape) (p : List ℕ) (ns : ℕ) : Type 0 where
  pub many : supernodes S ≡ ns
  pub parents : (K : ℕ) → K < ns → get_or p K 0 ≡ parent_of S K

-- the names at the first q positions of the list l, latest first
unfoldable pub names : List ℕ → ℕ → List ℕ
names l zero = []
names l (suc q) = get_or l q 0 ∷ names l q

-- K is a child of J that is not among the names a
abbrev pub waited : List ℕ → List ℕ → ℕ → ℕ → Bool
waited p a J K = eqb (get_or p K 0) J && not (has K a)

-- how many such J waits for; once J is named itself, more than there can be
unfoldable pub waits : List ℕ → ℕ → List ℕ → ℕ → ℕ
waits p ns a J = cond (has J a) (suc ns) (tally (waited p a J) ns)

-- the entry at position q of the list l may not stand there
unfoldable pub wrong_at : List ℕ → ℕ → List ℕ → ℕ → Bool
wrong_at p ns l q = not (ltb (get_or l q 0) ns && eqb (waits p ns (names l q) (get_or l q 0)) 0)
