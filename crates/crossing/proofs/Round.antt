-- What goes out comes back. Assumes nothing.
use mathlib.Core.Path.{◌≡◌, refl}
use Rattle.statement.specs.declared.Record.{Record}
use Rattle.statement.specs.declared.Stage.{Stage}
use Rattle.statement.specs.declared.Stage.TheVariants.{Empty, Analysed, Partial, Full}
use Rattle.crossing.specs.Words.{stage_word, record_words, stage_said, record_said}

-- what analyse and factor hand out, solve and column take back: the nine words are the record
pub round : (R : Record) → record_said (record_words R) ≡ R
round R = λ i. record { state = back R.state i; n = R.n; supernodes = R.supernodes; rows = R.rows; updates = R.updates; tasks = R.tasks; top = R.top; entries = R.entries; work = R.work }
  where
    back : (s : Stage) → stage_said (stage_word s) ≡ s
    back Empty = refl
    back Analysed = refl
    back Partial = refl
    back Full = refl
