use native.Mathlib.Numerals.{add-one}
use native.Mathlib.Omega.{arith}
use borrow.Author.Tests.{lt-ltb, le-ltb}
use Rattle.laws.proofs.Every.{tested_start, tested_more, tested_stop, tested_over}
use Rattle.factor_lists.proofs.all_rising.Goals as goal

pub loop-i-init : goal.loop-i-init
loop-i-init c = tested_start _ _

pub returns-then-l-i : goal.returns-then-l-i
returns-then-l-i c =
    let loop' = c.loop-i in
    tested_stop loop'.invariant (omega arith) (rw (← add-one loop'.i) (le-ltb _ _ c.if-l-i.true))

pub loop-i-preserved : goal.loop-i-preserved
loop-i-preserved c =
    let loop' = c.loop-i in
    tested_more loop'.invariant (omega arith) (rw (← add-one loop'.i) (lt-ltb _ _ c.if-l-i.false))

pub returns : goal.returns
returns c =
    let loop' = c.loop-i in
    tested_over loop'.invariant (omega arith)
