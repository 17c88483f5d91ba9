-- The words that stand for enums and records where only numbers cross. Definitions only.
use Rattle.std.specs.Prelude.{cond, List, [], ◌∷◌, ◌++◌, ℕ, eqb, leb, length, get_or, replicate, Float}
use Rattle.statement.specs.Input.{+0}
use Rattle.statement.specs.Answers.{number, details}
use Rattle.statement.specs.Areas.{held}
use Rattle.statement.specs.declared.Answer.{Answer}
use Rattle.statement.specs.declared.Outcome.{Outcome}
use Rattle.statement.specs.declared.Record.{Record}
use Rattle.statement.specs.declared.Stage.{Stage}
use Rattle.statement.specs.declared.Stage.TheVariants.{Empty, Analysed, Partial, Full}
use Rattle.statement.specs.declared.Order.{Order}
use Rattle.statement.specs.declared.Order.TheVariants.{Plain, Listed}
use Rattle.statement.specs.declared.Stop.{Stop}
use Rattle.statement.specs.declared.Stop.TheVariants.{End, After}

-- ---- what goes out

abbrev pub stage_word : Stage → ℕ
stage_word Empty = 0
stage_word Analysed = 1
stage_word Partial = 2
stage_word Full = 3

-- the number and its two details, 0 where there is none
abbrev pub answer_words : Answer → List ℕ
answer_words a = number a ∷ get_or (details a) 0 0 ∷ get_or (details a) 1 0 ∷ []

abbrev pub record_words : Record → List ℕ
record_words R = stage_word R.state ∷ R.n ∷ R.supernodes ∷ R.rows ∷ R.updates ∷ R.tasks ∷ R.top ∷ R.entries ∷ R.work ∷ []

abbrev pub outcome_words : Outcome → List ℕ
outcome_words x = answer_words x.answer ++ record_words x.«record»

-- an area of m floats holds the column and zeros after it, or zeros alone where the column is longer
unfoldable pub handed : ℕ → List Float → List Float
handed m v = cond (leb (length v) m) (held m +0 v) (replicate m +0)

-- ---- what comes in: every word means something

-- 0 is the plain order, any other word that of the list
abbrev pub order_said : ℕ → Order
order_said w = cond (eqb w 0) Plain Listed

-- the largest word is the end: no count that may stand is as large
abbrev pub stop_said : ℕ → Stop
stop_said w = cond (eqb w 18446744073709551615) End (After w)

-- a word that is none of 0 to 3 is an empty record's
abbrev pub stage_said : ℕ → Stage
stage_said w = cond (eqb w 1) Analysed (cond (eqb w 2) Partial (cond (eqb w 3) Full Empty))

abbrev pub record_said : List ℕ → Record
record_said l = record {
  state = stage_said (get_or l 0 0);
  n = get_or l 1 0;
  supernodes = get_or l 2 0;
  rows = get_or l 3 0;
  updates = get_or l 4 0;
  tasks = get_or l 5 0;
  top = get_or l 6 0;
  entries = get_or l 7 0;
  work = get_or l 8 0;
}
