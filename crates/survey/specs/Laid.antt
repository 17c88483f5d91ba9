-- All tests of the structure, and what stands in the areas once they pass. Definitions only.
use Rattle.std.specs.Prelude.{◌≡◌, List, ◌++◌, ℕ, ◌*◌, length, replicate}
use Rattle.std.proofs.Math.Option.{Option, none}
use Rattle.statement.specs.Lists.{list, sum}
use Rattle.statement.specs.Input.{Matrix, WellFormed, pattern}
use Rattle.statement.specs.Fill.{parent, count, entries}
use Rattle.statement.specs.Postorder as postorder
use Rattle.statement.specs.Shape.{supernodes}
use Rattle.statement.specs.Supernodes.{updates, update_starts}
use Rattle.statement.specs.Answers.{test, or_else}
use Rattle.statement.specs.Areas.{short, held}
use Rattle.statement.specs.Calls.{analysis, factor_needs, factor_later}
use Rattle.statement.specs.declared.Answer.{Answer}
use Rattle.statement.specs.declared.Answer.TheVariants.{WrongStructure}
use Rattle.statement.specs.declared.Room.{Room}
use Rattle.laws.specs.Numbered.{shape_for}
use Rattle.laws.proofs.Postorder.{pos}
use Rattle.measure.specs.Sized.{measure_fault}
use Rattle.updates.specs.Laying.{ToLay}
use Rattle.survey.specs.declared.Findings.{Findings}

-- 1, 2, 3, 4, 5 (areas 1 to 8), 6, 5 (areas 9 to 11), 12
unfoldable pub structure_fault : Matrix → ℕ → Room → Option Answer
structure_fault M cap r =
    or_else (measure_fault M cap r) (
    or_else (short (factor_later (analysis M) r)) (
    test (analysis M).differs WrongStructure none))

-- the areas hold it; tasks has the places of the columns and then the supernodal parents, words what the updates are laid from; top is scratch
pub record Laid (M : Matrix) (cap : ℕ) (r : Room) (x : Findings) (permutation firsts starts groups tasks words nine : List ℕ) : Type 0 where
  pub calm : structure_fault M cap r ≡ none
  pub well : WellFormed M
  pub room : short (factor_needs M r) ≡ none
  pub later : short (factor_later (analysis M) r) ≡ none
  pub many_supernodes : x.supernodes ≡ supernodes (shape_for M)
  pub many_rows : x.rows ≡ length (shape_for M).rows
  pub many_updates : x.updates ≡ length (updates (shape_for M))
  pub entries_are : x.entries ≡ entries (pattern M) M.n
  pub work_is : x.work ≡ sum (λ j. count (pattern M) M.n j * count (pattern M) M.n j) M.n
  pub one : permutation ≡ held r.permutation 0 (postorder.permutation (pattern M) M.n)
  pub two : firsts ≡ held r.firsts 0 (shape_for M).firsts
  pub three : starts ≡ held r.starts 0 (shape_for M).starts
  pub four : groups ≡ held r.groups 0 (update_starts (shape_for M))
  pub rest : List ℕ
  pub five : tasks ≡ list (pos (parent (pattern M) M.n) M.n) M.n ++ ((shape_for M).parents ++ rest)
  pub nine_holds : nine ≡ held r.rows 0 (shape_for M).rows
  pub laying : ToLay M.n x.supernodes M.starts M.rows firsts starts nine words r.updates

-- how long the areas but the updates are, and that areas 1 to 6 are zero; what the words and area 9 hold is not said
pub record Blank (r : Room) (permutation firsts starts groups tasks top words nine : List ℕ) : Type 0 where
  pub one : permutation ≡ replicate r.permutation 0
  pub two : firsts ≡ replicate r.firsts 0
  pub three : starts ≡ replicate r.starts 0
  pub four : groups ≡ replicate r.groups 0
  pub five : tasks ≡ replicate r.tasks 0
  pub six : top ≡ replicate r.top 0
  pub seven : length words ≡ r.words
  pub nine_long : length nine ≡ r.rows
