use mathlib.Core.Path.{sym, ◌∙◌}
use native.Mathlib.Omega.{arith}
use borrow.Author.Tests.{eq-eqb, ne_eqb}
use Rattle.statement.specs.Solve.{permutes}
use Rattle.laws.proofs.Every.{tested_start, tested_more, tested_stop, tested_over}
use Rattle.factor_lists.proofs.permutes_slowly.Goals as goal

pub loop-v-init : goal.loop-v-init
loop-v-init c = tested_start _ _

pub returns-then-count-ne1 : goal.returns-then-count-ne1
unfolding permutes
returns-then-count-ne1 c =
    let loop' = c.loop-v in
    let count' = c.count in
    tested_stop loop'.invariant (omega arith) (ne_eqb _ _ (λ e. c.if-count-ne1.true (count'.ensures ∙ e)))

pub loop-v-preserved : goal.loop-v-preserved
loop-v-preserved c =
    let loop' = c.loop-v in
    let count' = c.count in
    tested_more loop'.invariant (omega arith) (eq-eqb _ _ (sym count'.ensures ∙ c.if-count-ne1.false))

pub returns : goal.returns
unfolding permutes
returns c =
    let loop' = c.loop-v in
    tested_over loop'.invariant (omega arith)
