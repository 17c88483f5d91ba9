-- The pattern and the structure in factor numbering, by the pattern s of n columns alone, and of a matrix. Definitions only.
use Rattle.std.specs.Prelude.{Bool, ℕ}
use Rattle.statement.specs.Input.{Matrix, pattern}
use Rattle.statement.specs.Postorder.{permutation, renumbered}
use Rattle.statement.specs.Shape.{Shape}
use Rattle.statement.specs.Supernodes.{shape_of}

abbrev pub factored : (ℕ → ℕ → Bool) → ℕ → ℕ → ℕ → Bool
factored s n = renumbered n (permutation s n) s

abbrev pub shape : (ℕ → ℕ → Bool) → ℕ → Shape
shape s n = shape_of (factored s n) n

-- of a matrix
abbrev pub shape_for : Matrix → Shape
shape_for M = shape (pattern M) M.n
