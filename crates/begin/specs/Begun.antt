-- What stands in the areas where the run can start. Definitions only.
use Rattle.std.specs.Prelude.{◌≡◌, List, ℕ, length, replicate, Float}
use Rattle.statement.specs.Input.{Matrix, +0}
use Rattle.statement.specs.Answers.{or_else}
use Rattle.std.proofs.Math.Option.{Option}
use Rattle.statement.specs.declared.Answer.{Answer}
use Rattle.statement.specs.declared.Order.{Order}
use Rattle.statement.specs.declared.Room.{Room}
use Rattle.statement.specs.declared.Stop.{Stop}
use Rattle.survey.specs.Laid.{structure_fault, Laid}
use Rattle.survey.specs.declared.Findings.{Findings}
use Rattle.begin.specs.Ordered.{order_test, Ordered}

-- the room that the lent areas give, by their lengths
abbrev pub lent_all : ℕ → ℕ → ℕ → ℕ → ℕ → ℕ → ℕ → ℕ → ℕ → ℕ → ℕ → Room
lent_all permutation firsts starts groups tasks top words floats rows updates values = record {
  permutation = permutation;
  firsts = firsts;
  starts = starts;
  groups = groups;
  tasks = tasks;
  top = top;
  words = words;
  floats = floats;
  rows = rows;
  updates = updates;
  values = values;
}

abbrev pub zero_floats : ℕ → List Float
zero_floats m = replicate m +0

-- 1, 2, 3, 4, 5, 6, 12, 8
unfoldable pub begin_fault : Matrix → ℕ → Order → List ℕ → Stop → Room → Option Answer
begin_fault M cap o l e r = or_else (structure_fault M cap r) (order_test M o l e)

-- the structure, a legal order, and the run's scratch over values that are zero
pub record Prepared (M : Matrix) (cap : ℕ) (o : Order) (l : List ℕ) (e : Stop) (r : Room) (x : Findings) (permutation firsts starts groups tasks words : List ℕ) (floats : List Float) (nine : List ℕ) (values : List Float) : Type 0 where
  pub laid : Laid M cap r x permutation firsts starts groups tasks words nine
  pub ordered : Ordered M o l e x.supernodes words floats
  pub zero : values ≡ zero_floats r.values
  pub words_long : length words ≡ r.words
  pub floats_long : length floats ≡ r.floats
