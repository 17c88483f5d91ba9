use mathlib.Core.Path.{refl, sym, ◌∙◌}
use native.Mathlib.Omega.{arith}
use lib.ListN.{length}
use Rattle.statement.specs.Lists.{rising}
use Rattle.laws.proofs.Demand.{length_rising}
use Rattle.solving.proofs.Rules.{above_over}
use Rattle.solving.proofs.Runs.{run_above_more}
use Rattle.solving.proofs.reduce_run.Goals as goal

pub loop-i-init : goal.loop-i-init
loop-i-init c = (omega arith, refl)

pub loop-i-preserved : goal.loop-i-preserved
loop-i-preserved c =
    let loop' = c.loop-i in
    let args' = c.args in
    (omega arith, loop'.invariant.1 ∙ run_above_more args'.at args'.values.now loop'.i (omega arith) args'.x.now loop'.t (omega arith))

pub returns : goal.returns
returns c =
    let loop' = c.loop-i in
    let args' = c.args in
    sym (loop'.invariant.1 ∙ above_over (rising args'.at (length args'.values.now)) args'.values.now loop'.i (omega (arith, length_rising args'.at (length args'.values.now))) args'.x.now loop'.t)
