-- `checks::cut` meets its contract: the lists up to the record's counts. Assumes nothing.
use Rattle.laws.proofs.Checked.{cut}
use Rattle.checks.proofs.cut.Goals as goal

pub returns-clause-shape : goal.returns-clause-shape
returns-clause-shape c = cut _ _
