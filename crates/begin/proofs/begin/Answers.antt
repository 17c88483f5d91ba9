-- `begin::begin` meets its contract: call by call. Assumes nothing.
use mathlib.Core.Path.{refl, ◌∙◌}
use lib.ListN.{length}
use Rattle.laws.proofs.Passed.{exit_is}
use Rattle.views.specs.Shown.{matrix_of}
use Rattle.survey.proofs.Clearing.{blank_of}
use Rattle.begin.specs.Begun.{lent_all}
use Rattle.begin.proofs.Handing.{structured, enough, moved}
use Rattle.begin.proofs.Beginning.{refused_early, refused_late}
use Rattle.begin.proofs.begin.Goals as goal

pub survey-requires : goal.survey-requires
survey-requires c = blank_of _ c.clear_lists.ensures (record { one = refl; two = refl; three = refl; four = refl; five = refl; six = refl; seven = refl; nine_long = refl })

pub returns-in_err-x-clause-refused : goal.returns-in_err-x-clause-refused
returns-in_err-x-clause-refused c = let a = c.args in rw (exit_is c.from_residual.ensures.1) (refused_early (matrix_of a.matrix.now) a.cap a.order a.list.now a.stop (lent_all (length a.permutation.now) (length a.firsts.now) (length a.starts.now) (length a.groups.now) (length a.tasks.now) (length a.top.now) (length a.words.now) (length a.floats.now) (length a.rows.now) a.long (length a.values.now)) c.in_err-x.ensures.refused)

pub prepare-requires : goal.prepare-requires
prepare-requires c =
    let l = c.in_ok-x.ensures.passed in
    record { known = (structured l).known; n_in_bounds = enough l c.survey.new.top c.survey.new.words c.args.floats.now (c.survey.auto.top ∙ c.clear_lists.auto.top) c.survey.auto.words refl }

pub returns-in_err-prepare-clause-refused : goal.returns-in_err-prepare-clause-refused
returns-in_err-prepare-clause-refused c = let a = c.args in rw (exit_is c.from_residual-in_err-prepare.ensures.1) (refused_late (matrix_of a.matrix.now) a.cap a.order a.list.now a.stop (lent_all (length a.permutation.now) (length a.firsts.now) (length a.starts.now) (length a.groups.now) (length a.tasks.now) (length a.top.now) (length a.words.now) (length a.floats.now) (length a.rows.now) a.long (length a.values.now)) c.in_ok-x.ensures.passed c.in_err-prepare.ensures.refused)

pub returns-clause-begun : goal.returns-clause-begun
returns-clause-begun c =
    let t = c.in_ok-prepare.ensures.ordered in
    record {
      laid = moved c.in_ok-x.ensures.passed c.prepare.new.words c.prepare.auto.words t.1;
      ordered = t.0;
      zero = c.clear.ensures;
      words_long = c.prepare.auto.words ∙ c.survey.auto.words;
      floats_long = c.prepare.auto.floats;
    }
