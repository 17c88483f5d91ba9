use mathlib.Core.Path.{refl, sym, ◌∙◌}
use native.Mathlib.Omega.{arith}
use lib.ListN.{length, length-set}
use Rattle.statement.specs.Lists.{rising}
use Rattle.laws.proofs.Demand.{length_rising}
use Rattle.solving.proofs.Rules.{below_over}
use Rattle.solving.proofs.Runs.{run_below_more}
use Rattle.solving.proofs.subtract_run.Goals as goal

pub loop-i-init : goal.loop-i-init
loop-i-init c = (omega arith, refl, refl)

pub loop-i-preserved : goal.loop-i-preserved
loop-i-preserved c =
    let loop' = c.loop-i in
    let args' = c.args in
    (omega arith, simp length-set loop'.invariant.1, loop'.invariant.2 ∙ run_below_more args'.at args'.values.now loop'.i (omega arith) loop'.x _ (omega arith))

pub shape_of-x : goal.shape_of-x
shape_of-x c =
    let loop' = c.loop-i in
    loop'.invariant.1

pub returns : goal.returns
returns c =
    let loop' = c.loop-i in
    let args' = c.args in
    sym (loop'.invariant.2 ∙ below_over (rising args'.at (length args'.values.now)) args'.values.now loop'.i (omega (arith, length_rising args'.at (length args'.values.now))) loop'.x _)
