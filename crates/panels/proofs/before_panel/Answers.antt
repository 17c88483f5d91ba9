-- `panels::before_panel` meets its contract. Nothing where no columns are before the panel; else one sum for each row, subtracted. Assumes nothing.
use native.Mathlib.Omega.{arith}
use Rattle.panels.proofs.Columns as cols
use Rattle.laws.proofs.Entry.{trap_mono}
use Rattle.panels.proofs.before_panel.Goals as goal

pub returns-then-c0-eq0 : goal.returns-then-c0-eq0
returns-then-c0-eq0 c =
    let args' = c.args in
    cols.before_none _ args'.m args'.c (omega arith)

pub sums-requires : goal.sums-requires
sums-requires c =
    let args' = c.args in
    (omega arith, omega arith, omega arith, omega (arith, trap_mono args'.m args'.c0 args'.c (omega arith)), omega arith)

pub returns : goal.returns
returns c =
    let args' = c.args in
    let sums' = c.sums in
    cols.before_sum _ args'.m args'.c _ sums'.new.work _ args'.c0 c.requires.0 (omega arith) c.column_start-at.ensures sums'.ensures.inside c.subtract_run.ensures
