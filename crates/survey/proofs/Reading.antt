-- What the areas of a surveyed matrix hold, as the phases after it ask. Assumes nothing.
use mathlib.Core.Path.{◌≡◌, ap, ◌∙◌}
use mathlib.Core.List.{List, ◌++◌}
use mathlib.Core.Option.{none}
use Prim.Native.Nat.{ℕ, ◌+◌, ◌*◌, ◌-◌, ◌≤◌}
use native.Mathlib.Omega.{arith}
use lib.ListN.{length, drop, replicate}
use lib.Seq.{drop_at}
use Rattle.statement.specs.Lists.{list}
use Rattle.statement.specs.Input.{Matrix, WellFormed, pattern, rows_length}
use Rattle.statement.specs.Fill.{parent}
use Rattle.statement.specs.Shape.{supernodes}
use Rattle.statement.specs.Supernodes.{shape_of}
use Rattle.statement.specs.Areas.{held, short, needs}
use Rattle.statement.specs.Calls.{factor_needs}
use Rattle.statement.specs.declared.Room.{Room}
use Rattle.laws.specs.Numbered.{factored, shape_for}
use Rattle.laws.proofs.Input.{upper}
use Rattle.laws.proofs.FactorTree.{upper'}
use Rattle.laws.proofs.Shapes.{supernodes_few}
use Rattle.laws.proofs.Postorder.{pos}
use Rattle.laws.proofs.Ranks.{list_length}
use Rattle.laws.proofs.Stages.{short_passed}
use Rattle.survey.specs.Laid.{Laid}
use Rattle.survey.specs.declared.Findings.{Findings}

-- an area that holds a part begins with it
pub held_is : (m : ℕ) (part : List ℕ) {l : List ℕ} → l ≡ held m 0 part → l ≡ part ++ replicate (m - length part) 0
unfolding held
held_is m part e = e

-- there are at most as many supernodes as columns
pub fewer : (M : Matrix) → WellFormed M → supernodes (shape_for M) ≤ M.n
unfolding shape_of
fewer M w = omega (arith, supernodes_few (factored (pattern M) M.n) M.n (upper' (pattern M) M.n (upper M.n M.starts M.rows w.columns)))

-- the scratch words
pub enough_words : (M : Matrix) (r : Room) → short (factor_needs M r) ≡ none → 24 * M.n + rows_length M + 24 ≤ r.words
unfolding factor_needs needs
enough_words M r e = (short_passed _).0 e 6 (omega arith)

module _ {M : Matrix} {cap : ℕ} {r : Room} {x : Findings} {permutation firsts starts groups tasks words nine : List ℕ} (l : Laid M cap r x permutation firsts starts groups tasks words nine) where
  -- past the places stand the supernodal parents
  pub parents_past : drop M.n tasks ≡ (shape_for M).parents ++ l.rest
  parents_past = ap (drop M.n) l.five ∙ drop_at (list (pos (parent (pattern M) M.n) M.n) M.n) _ M.n (list_length _ M.n)
