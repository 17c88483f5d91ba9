-- `solve::solve` meets its contract: the attempt, then scratch cleared. Assumes nothing.
use Rattle.std.proofs.Common.{sym, ◌∙◌}
use lib.ListN.{length}
use Rattle.statement.specs.Input.{+0}
use Rattle.solve.proofs.Answered.{answers_ok, answers_err, settles, cleared}
use Rattle.solve.proofs.solve.Goals as goal

pub returns-in-Ok : goal.returns-in-Ok
unfolding lib.Ieee.of_bits
returns-in-Ok c =
    let t = c.attempt-done in
    let w = c.fill.ensures.after (λ y e. e) in
    let f = c.fill-2.ensures.after (λ y e. e) in
    settles _ _ _ _ _ _ _ _ _ _ (answers_ok _ _ _ _ _ _ (sym c.in-Ok.is ∙ t.ensures.value), t.ensures.b_after) (cleared 0 _ (length c.args.words.now) t.auto.words w) (cleared +0 _ (length c.args.floats.now) t.auto.floats f)

pub returns-in-Err : goal.returns-in-Err
unfolding lib.Ieee.of_bits
returns-in-Err c =
    let t = c.attempt-done in
    let w = c.fill.ensures.after (λ y e. e) in
    let f = c.fill-2.ensures.after (λ y e. e) in
    settles _ _ _ _ _ _ _ _ _ _ (answers_err _ _ _ _ _ _ (sym c.in-Err.is ∙ t.ensures.value), t.ensures.b_after) (cleared 0 _ (length c.args.words.now) t.auto.words w) (cleared +0 _ (length c.args.floats.now) t.auto.floats f)
