use native.Mathlib.Omega.{arith}
use borrow.Author.Tests.{eq-eqb, ne_eqb}
use Rattle.laws.proofs.Every.{tested_start, tested_more, tested_stop, tested_over}
use Rattle.factor_lists.proofs.counts_up.Goals as goal

pub loop-c-init : goal.loop-c-init
loop-c-init c = tested_start _ _

pub returns-then-l-c : goal.returns-then-l-c
returns-then-l-c c =
    let loop' = c.loop-c in
    tested_stop loop'.invariant (omega arith) (ne_eqb _ _ c.if-l-c.true)

pub loop-c-preserved : goal.loop-c-preserved
loop-c-preserved c =
    let loop' = c.loop-c in
    tested_more loop'.invariant (omega arith) (eq-eqb _ _ c.if-l-c.false)

pub returns : goal.returns
returns c =
    let loop' = c.loop-c in
    tested_over loop'.invariant (omega arith)
