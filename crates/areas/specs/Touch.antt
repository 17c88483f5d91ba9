-- What a loop of stores changes: the one contract of every such loop. Definitions only.
use Rattle.std.specs.Prelude.{◌≡◌, List, ℕ, ◌<◌, length, get_or}

-- new has f i at pos i, for each i below n, and is old elsewhere; z is what stands past the end
pub record Touched {X : Type 0} (z : X) (old new : List X) (n : ℕ) (pos : ℕ → ℕ) (f : ℕ → X) : Type 0 where
  pub size : length new ≡ length old
  pub inside : (i : ℕ) → i < n → get_or new (pos i) z ≡ f i
  pub outside : (p : ℕ) → ((i : ℕ) → i < n → pos i ≡ p → ⊥) → get_or new p z ≡ get_or old p z
