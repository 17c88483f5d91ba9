-- `settling::fill` meets its contract: call by call. Assumes nothing.
use Rattle.std.proofs.Common.{refl, sym, ap, ◌∙◌, length}
use lib.ListN.{replicate}
use Rattle.statement.specs.declared.Answer.TheVariants.{Accepted}
use Rattle.std.proofs.lemmas.Option.{IfSome_then}
use native.Mathlib.Omega.{arith}
use Rattle.laws.specs.Numbered.{shape_for}
use Rattle.laws.proofs.Passed.{exit_is}
use Rattle.views.specs.Shown.{matrix_of}
use Rattle.answers.specs.Least.{least_of}
use Rattle.begin.specs.Begun.{lent_all, zero_floats}
use Rattle.survey.proofs.Asking.{split_ready, split_given}
use Rattle.finish.proofs.Running.{run_ready, over}
use Rattle.finish.proofs.Outcomes.{columns_there, refused_pivot, passed_pivot, settles_accepted, ten_accepted}
use Rattle.settling.proofs.fill.Goals as goal

pub lay-requires : goal.lay-requires
lay-requires c = λ _. c.requires.prepared.laid.laying

pub run-least-requires : goal.run-least-requires
run-least-requires c = let a = c.args in run_ready c.requires.prepared c.lay.ensures c.lay.auto.words _ (c.stop_at.ensures (shape_for (matrix_of a.matrix.now)) (sym c.requires.prepared.laid.many_supernodes))

pub pivot_answer-requires : goal.pivot_answer-requires
pivot_answer-requires c =
    let a = c.args in
    let h = columns_there (matrix_of a.matrix.now) _ c.requires.prepared.laid.one in
    IfSome_then c.run-least.result c.run-least.ensures.below (λ f k. omega (arith, h, k))

pub returns-in_err-pivot_answer-clause-refused : goal.returns-in_err-pivot_answer-clause-refused
returns-in_err-pivot_answer-clause-refused c =
    let a = c.args in
    let p = c.requires.prepared in
    let o = over p c.lay.ensures c.lay.auto.words _ (c.stop_at.ensures (shape_for (matrix_of a.matrix.now)) (sym c.requires.prepared.laid.many_supernodes)) c.run-least.ensures.left c.run-least.auto.values in
    rw (exit_is c.from_residual.ensures.1) (refused_pivot (matrix_of a.matrix.now) a.cap a.order a.«list».now a.stop (lent_all (length a.permutation.now) (length a.firsts.now) (length a.starts.now) (length a.groups.now) (length a.tasks.now) (length a.top.now) (length a.words.now) (length a.floats.now) (length a.rows.now) (length a.updates.now) (length a.values.now)) p.laid p.ordered.legal (least_of a.matrix.now.n c.run-least.result) o.low (c.in_err-pivot_answer.ensures a.matrix.now.n c.run-least.ensures.below))

pub close-requires : goal.close-requires
close-requires c =
    let a = c.args in
    let q = split_ready c.requires.prepared.laid a.top.now c.run-least.new.words refl refl (c.run-least.auto.words ∙ c.lay.auto.words ∙ c.requires.prepared.words_long) in
    record { n_in_bounds = q.0; ns_bound = q.1.0; ns_in_bounds = q.1.1 }

pub returns-clause-filled : goal.returns-clause-filled
returns-clause-filled c =
    let a = c.args in
    let p = c.requires.prepared in
    let o = over p c.lay.ensures c.lay.auto.words _ (c.stop_at.ensures (shape_for (matrix_of a.matrix.now)) (sym c.requires.prepared.laid.many_supernodes)) c.run-least.ensures.left c.run-least.auto.values in
    let none = passed_pivot (matrix_of a.matrix.now) a.cap a.order a.«list».now a.stop (lent_all (length a.permutation.now) (length a.firsts.now) (length a.starts.now) (length a.groups.now) (length a.tasks.now) (length a.top.now) (length a.words.now) (length a.floats.now) (length a.rows.now) (length a.updates.now) (length a.values.now)) p.laid p.ordered.legal (least_of a.matrix.now.n c.run-least.result) o.low (c.in_ok-pivot_answer.ensures a.matrix.now.n c.run-least.ensures.below) in
    let f = c.close.ensures in
    record {
      plain = settles_accepted (matrix_of a.matrix.now) a.cap a.order a.«list».now a.stop (lent_all (length a.permutation.now) (length a.firsts.now) (length a.starts.now) (length a.groups.now) (length a.tasks.now) (length a.top.now) (length a.words.now) (length a.floats.now) (length a.rows.now) (length a.updates.now) (length a.values.now)) a.found o (f.parts (shape_for (matrix_of a.matrix.now)) (split_given p.laid)) refl refl _ (f.state (shape_for (matrix_of a.matrix.now)) (sym p.laid.many_supernodes)) _ none (ap (λ R. record { answer = Accepted; «record» = R }) f.counted) (f.cleared.0 ∙ ap (λ m. replicate m 0) (c.run-least.auto.words ∙ c.lay.auto.words)) (f.cleared.1 ∙ ap zero_floats c.run-least.auto.floats);
      ten_holds = ten_accepted (matrix_of a.matrix.now) a.cap a.order a.«list».now a.stop (lent_all (length a.permutation.now) (length a.firsts.now) (length a.starts.now) (length a.groups.now) (length a.tasks.now) (length a.top.now) (length a.words.now) (length a.floats.now) (length a.rows.now) (length a.updates.now) (length a.values.now)) p.laid c.lay.ensures refl none;
    }
