-- `analyse::make` meets its contract: call by call. Assumes nothing.
use mathlib.Core.Path.{refl, sym, ◌∙◌}
use lib.ListN.{length}
use Rattle.laws.proofs.Passed.{exit_is}
use Rattle.views.specs.Shown.{matrix_of}
use Rattle.survey.proofs.Clearing.{blank_of}
use Rattle.survey.proofs.Asking.{split_ready, split_given}
use Rattle.analyse.specs.Lent.{lent_structure}
use Rattle.analyse.proofs.Outcomes.{plain_accepted, ten_accepted}
use Rattle.analyse.proofs.make.Goals as goal

pub survey-requires : goal.survey-requires
survey-requires c = blank_of _ c.clear_lists.ensures (record { one = refl; two = refl; three = refl; four = refl; five = refl; six = refl; seven = refl; nine_long = refl })

pub lay-requires : goal.lay-requires
lay-requires c = λ _. c.in_ok-found.ensures.passed.laying

pub split-cuts-requires : goal.split-cuts-requires
split-cuts-requires c =
    let s = c.survey.auto in
    let d = c.clear_lists.auto in
    let q = split_ready c.in_ok-found.ensures.passed c.survey.new.top c.lay.new.words (s.tasks ∙ d.tasks) (s.top ∙ d.top) (c.lay.auto.words ∙ s.words) in
    record { n_in_bounds = q.0; ns_bound = q.1.0; ns_in_bounds = q.1.1 }

pub returns-in_err-found-clause-refused : goal.returns-in_err-found-clause-refused
returns-in_err-found-clause-refused c = rw (exit_is c.from_residual.ensures.1) c.in_err-found.ensures.refused

pub returns-clause-made : goal.returns-clause-made
returns-clause-made c =
    let a = c.args in
    let s = c.survey.auto in
    let d = c.clear_lists.auto in
    let l = c.in_ok-found.ensures.passed in
    record {
      plain = plain_accepted (matrix_of a.matrix.now) a.cap (lent_structure (length a.permutation.now) (length a.firsts.now) (length a.starts.now) (length a.groups.now) (length a.tasks.now) (length a.top.now) (length a.words.now) (length a.rows.now) (length a.updates.now)) refl refl c.in_ok-found.found l (c.split-cuts.ensures _ (split_given l)) (s.tasks ∙ d.tasks) (s.top ∙ d.top) _ _ refl (c.fill.ensures.after (λ y e. e)) (c.split-cuts.auto.words ∙ c.lay.auto.words ∙ s.words);
      ten_holds = ten_accepted (matrix_of a.matrix.now) a.cap (lent_structure (length a.permutation.now) (length a.firsts.now) (length a.starts.now) (length a.groups.now) (length a.tasks.now) (length a.top.now) (length a.words.now) (length a.rows.now) (length a.updates.now)) refl refl l c.lay.ensures refl;
    }
