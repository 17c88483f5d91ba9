-- `factor_lists::rising_below` meets its contract: none, or the last tells of all. Assumes nothing.
use native.Mathlib.Omega.{arith}
use Rattle.factor_lists.proofs.Parts.{none_past, last_below}
use Rattle.factor_lists.proofs.rising_below.Goals as goal

pub returns-then-l-eq0 : goal.returns-then-l-eq0
returns-then-l-eq0 c =
    let args' = c.args in
    none_past args'.l.now args'.n (omega arith)

pub returns : goal.returns
returns c =
    let args' = c.args in
    let pre' = c.requires in
    last_below args'.l.now args'.n pre' (omega arith)
