-- An area that holds the parents of the analysis's structure is what number 8 asks for. Assumes nothing.
use mathlib.Core.Path.{◌≡◌, refl, ap, ◌∙◌}
use mathlib.Core.Bool.{Bool}
use mathlib.Core.List.{List, ◌++◌}
use Prim.Native.Nat.{ℕ, ◌≤◌, ◌<◌}
use native.Mathlib.Omega.{arith}
use lib.Dec.{T}
use lib.ListN.{length, get_or, get_or-append}
use Rattle.statement.specs.Shape.{supernodes, parent_of}
use Rattle.statement.specs.Supernodes.{shape_of}
use Rattle.laws.proofs.Ranks.{list_length}
use Rattle.laws.proofs.Shapes.{parent_is, own_most, shape_built}
use Rattle.order.specs.Waiting.{Above, Of}

module _ (p : ℕ → ℕ → Bool) (n : ℕ) (upper : (i k : ℕ) → T (p i k) → i ≤ k) (x d : List ℕ) (e : x ≡ (shape_of p n).parents ++ d) where
  many : length (shape_of p n).parents ≡ supernodes (shape_of p n)
  unfolding shape_of
  many = list_length _ _

  at : (K : ℕ) → K < supernodes (shape_of p n) → get_or x K 0 ≡ parent_of (shape_of p n) K
  at K k = ap (λ l. get_or l K 0) e ∙ get_or-append (shape_of p n).parents d 0 K (omega (arith, many))

  pub shape_of_lem : Of (shape_of p n) x (supernodes (shape_of p n))
  shape_of_lem = record { many = refl; parents = at }

  pub shape_above : Above x (supernodes (shape_of p n))
  shape_above = record { up = λ K k. rw (at K k) ((shape_built p n upper).up K k); to = λ K k. rw (at K k) (to K k) }
    where
      to : (K : ℕ) → K < supernodes (shape_of p n) → parent_of (shape_of p n) K ≤ supernodes (shape_of p n)
      to K k = unfold shape_of in rw (parent_is p n upper K k) (own_most p n upper _)
