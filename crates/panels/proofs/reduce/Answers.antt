-- `panels::reduce` meets its contract. The sum before the panel, then the single products. Assumes nothing.
use native.Mathlib.Omega.{arith}
use Rattle.panels.proofs.Columns as cols
use Rattle.panels.proofs.reduce.Goals as goal

pub before_panel-requires : goal.before_panel-requires
before_panel-requires c = (c.panel_start-c0.ensures, omega arith, omega arith, omega arith, omega arith)

pub singles-requires : goal.singles-requires
singles-requires c = let e = c.panel_start-c0.ensures in (omega arith, omega arith, omega arith, omega arith)

pub returns : goal.returns
returns c =
    let args' = c.args in
    cols.reduced _ args'.m args'.c _ _ _ c.panel_start-c0.ensures c.before_panel.ensures c.singles.ensures
