-- `analyse::analyse` meets its contract: made, or cleared. Assumes nothing.
use mathlib.Core.Path.{refl, ◌∙◌}
use lib.ListN.{length}
use Rattle.statement.specs.Input.{matrix}
use Rattle.analyse.specs.Lent.{lent_structure}
use Rattle.analyse.proofs.Outcomes.{plain_refused, ten_refused, analyses}
use Rattle.analyse.proofs.analyse.Goals as goal

pub returns-in-Ok : goal.returns-in-Ok
returns-in-Ok c = let a = c.args in analyses (matrix a.n a.input_starts.now a.input_rows.now a.input_values.now) a.cap (lent_structure (length a.permutation.now) (length a.firsts.now) (length a.starts.now) (length a.groups.now) (length a.tasks.now) (length a.top.now) (length a.words.now) (length a.rows.now) (length a.updates.now)) c.in-Ok.ensures.made

pub returns-in-Err : goal.returns-in-Err
returns-in-Err c =
    let a = c.args in
    let l = c.make.auto in
    let q = c.in-Err.ensures.refused in
    analyses (matrix a.n a.input_starts.now a.input_rows.now a.input_values.now) a.cap (lent_structure (length a.permutation.now) (length a.firsts.now) (length a.starts.now) (length a.groups.now) (length a.tasks.now) (length a.top.now) (length a.words.now) (length a.rows.now) (length a.updates.now)) (record {
      plain = plain_refused (matrix a.n a.input_starts.now a.input_rows.now a.input_values.now) a.cap (lent_structure (length a.permutation.now) (length a.firsts.now) (length a.starts.now) (length a.groups.now) (length a.tasks.now) (length a.top.now) (length a.words.now) (length a.rows.now) (length a.updates.now)) refl refl q c.refused.ensures.0 c.refused.ensures.1 c.clear_structure.ensures
          (record { one = l.permutation; two = l.firsts; three = l.starts; four = l.groups; five = l.tasks; six = l.top; seven = l.words; nine_long = l.rows });
      ten_holds = c.clear.ensures ∙ ten_refused (matrix a.n a.input_starts.now a.input_rows.now a.input_values.now) a.cap (lent_structure (length a.permutation.now) (length a.firsts.now) (length a.starts.now) (length a.groups.now) (length a.tasks.now) (length a.top.now) (length a.words.now) (length a.rows.now) (length a.updates.now)) refl refl q l.updates;
    })
