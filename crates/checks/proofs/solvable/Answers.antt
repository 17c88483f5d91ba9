-- `checks::solvable` meets its contract: (b) last. Assumes nothing.
use Rattle.statement.specs.Solve.{solvable}
use Rattle.laws.proofs.Checked.{viewed}
use Rattle.laws.proofs.Taken.{true_T, no, yes}
use Rattle.checks.proofs.solvable.Goals as goal

pub returns-then-not-viewable : goal.returns-then-not-viewable
unfolding solvable
returns-then-not-viewable c =
    let viewable' = c.viewable in
    let if1' = c.if-not-viewable in
    rw (no viewable'.ensures if1'.true)

pub permutes-requires : goal.permutes-requires
permutes-requires c =
    let viewable' = c.viewable in
    let if1' = c.if-not-viewable in
    (viewed _ _ (true_T (yes viewable'.ensures if1'.false))).roomy.permutation

pub returns : goal.returns
unfolding solvable
returns c =
    let viewable' = c.viewable in
    let if1' = c.if-not-viewable in
    let permutes' = c.permutes in
    rw (yes viewable'.ensures if1'.false) permutes'.ensures
