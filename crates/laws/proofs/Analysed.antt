-- The analysis of a well-formed matrix: an upper pattern in both numberings, and a sound structure of as many entries as L has. Assumes nothing.
use mathlib.Core.Path.{◌≡◌, refl, ◌∙◌}
use Prim.Native.Nat.{ℕ, ◌≤◌}
use lib.Dec.{T}
use lib.ListN.{length}
use Rattle.statement.specs.Input.{Matrix, WellFormed, pattern}
use Rattle.statement.specs.Fill.{entries, parent}
use Rattle.statement.specs.Postorder.{permutation}
use Rattle.statement.specs.Shape.{supernodes, offset}
use Rattle.statement.specs.Supernodes.{shape_of}
use Rattle.laws.specs.Built.{Built, Sound}
use Rattle.laws.specs.Numbered.{factored, shape}
use Rattle.laws.proofs.Fill.{parent_above, parent_to}
use Rattle.laws.proofs.Input.{upper}
use Rattle.laws.proofs.Postorder.{length_postorder}
use Rattle.laws.proofs.FactorTree.{upper'}
use Rattle.laws.proofs.Shapes.{shape_built}
use Rattle.laws.proofs.Sizes.{offset_entries, entries_same}
use Rattle.laws.proofs.Built.{sound}

module _ (M : Matrix) where
  pub length_q : length (permutation (pattern M) M.n) ≡ M.n
  unfolding permutation
  length_q = length_postorder (parent (pattern M) M.n) M.n (parent_above (pattern M) M.n) (parent_to (pattern M) M.n)

  pub shape_n : (shape (pattern M) M.n).n ≡ M.n
  unfolding shape_of
  shape_n = refl

  module _ (w : WellFormed M) where
    pub up₀ : (i k : ℕ) → T (pattern M i k) → i ≤ k
    up₀ = upper M.n M.starts M.rows w.columns

    pub up : (a b : ℕ) → T (factored (pattern M) M.n a b) → a ≤ b
    up = upper' (pattern M) M.n up₀

    pub built : Built (shape (pattern M) M.n)
    built = shape_built (factored (pattern M) M.n) M.n up

    pub ok : Sound (shape (pattern M) M.n)
    ok = sound (shape (pattern M) M.n) built

    pub size : offset (shape (pattern M) M.n) (supernodes (shape (pattern M) M.n)) ≡ entries (pattern M) M.n
    size = offset_entries (factored (pattern M) M.n) M.n up ∙ entries_same (pattern M) M.n up₀
