-- `settling::settle` meets its contract: filled, or cleared. Assumes nothing.
use Rattle.std.proofs.Common.{refl, ◌≡◌, ◌∙◌, length}
use Rattle.std.proofs.lemmas.Result.{IfErr-at_err}
use Rattle.views.specs.Shown.{matrix_of}
use mathlib.Core.Option.{some}
use Rattle.begin.specs.Begun.{lent_all, begin_fault}
use Rattle.finish.proofs.Outcomes.{refused_before, settles_refused, ten_refused}
use Rattle.settling.proofs.settle.Goals as goal

pub returns-in-Err-fill : goal.returns-in-Err-fill
returns-in-Err-fill c =
    let a = c.args in
    let l = c.fill.auto in
    let q = c.in-Err-fill.ensures.refused in
    let z = c.cleared.ensures in
    record {
      plain = settles_refused (matrix_of a.matrix.now) a.cap a.order a.«list».now a.stop (lent_all (length a.permutation.now) (length a.firsts.now) (length a.starts.now) (length a.groups.now) (length a.tasks.now) (length a.top.now) (length a.words.now) (length a.floats.now) (length a.rows.now) (length a.updates.now) (length a.values.now)) q c.fill.new.floats c.fill.new.values z.outcome.0 z.outcome.1 z.zeroed z.floats_after
          (record { one = refl; two = refl; three = refl; four = refl; five = l.tasks; six = l.top; seven = l.words; nine_long = refl }) l.floats l.values;
      ten_holds = z.updates_after ∙ ten_refused (matrix_of a.matrix.now) a.cap a.order a.«list».now a.stop (lent_all (length a.permutation.now) (length a.firsts.now) (length a.starts.now) (length a.groups.now) (length a.tasks.now) (length a.top.now) (length a.words.now) (length a.floats.now) (length a.rows.now) (length a.updates.now) (length a.values.now)) q l.updates;
    }

pub returns-in-Err : goal.returns-in-Err
returns-in-Err c =
    let a = c.args in
    let q = refused_before (matrix_of a.matrix.now) a.cap a.order a.«list».now a.stop (lent_all (length a.permutation.now) (length a.firsts.now) (length a.starts.now) (length a.groups.now) (length a.tasks.now) (length a.top.now) (length a.words.now) (length a.floats.now) (length a.rows.now) (length a.updates.now) (length a.values.now)) (IfErr-at_err (λ e. begin_fault (matrix_of a.matrix.now) a.cap a.order a.«list».now a.stop (lent_all (length a.permutation.now) (length a.firsts.now) (length a.starts.now) (length a.groups.now) (length a.tasks.now) (length a.top.now) (length a.words.now) (length a.floats.now) (length a.rows.now) (length a.updates.now) (length a.values.now)) ≡ some e) c.in-Err.is c.requires.refused) in
    let z = c.cleared-in-Err.ensures in
    record {
      plain = settles_refused (matrix_of a.matrix.now) a.cap a.order a.«list».now a.stop (lent_all (length a.permutation.now) (length a.firsts.now) (length a.starts.now) (length a.groups.now) (length a.tasks.now) (length a.top.now) (length a.words.now) (length a.floats.now) (length a.rows.now) (length a.updates.now) (length a.values.now)) q a.floats.now a.values.now z.outcome.0 z.outcome.1 z.zeroed z.floats_after
          (record { one = refl; two = refl; three = refl; four = refl; five = refl; six = refl; seven = refl; nine_long = refl }) refl refl;
      ten_holds = z.updates_after ∙ ten_refused (matrix_of a.matrix.now) a.cap a.order a.«list».now a.stop (lent_all (length a.permutation.now) (length a.firsts.now) (length a.starts.now) (length a.groups.now) (length a.tasks.now) (length a.top.now) (length a.words.now) (length a.floats.now) (length a.rows.now) (length a.updates.now) (length a.values.now)) q refl;
    }
