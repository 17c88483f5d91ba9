-- `measure::measure` meets its contract: the tests in order, each after those before it have passed. Assumes nothing.
use Rattle.std.specs.Prelude.{◌++◌}
use lib.ListN.{drop, replicate}
use mathlib.Core.Path.{◌≡◌, ◌∙◌}
use native.Mathlib.Omega.{arith}
use Rattle.statement.specs.Lists.{list}
use Rattle.statement.specs.Input.{stored, pattern}
use Rattle.statement.specs.Fill.{parent, count}
use Rattle.statement.specs.Calls.{factor_needs}
use Rattle.laws.proofs.Passed.{exit_is, passed_none, passed_some}
use Rattle.tree.proofs.Totals.{counts_to, entries_are, work_is}
use Rattle.views.specs.Shown.{matrix_of}
use Rattle.views.proofs.Carried.{carried}
use Rattle.measure.proofs.Stages.{at_input, at_room, at_cap, past_cap, long}
use Rattle.measure.proofs.measure.Goals as goal

pub returns-in_err-columns-clause-refused : goal.returns-in_err-columns-clause-refused
returns-in_err-columns-clause-refused c = rw (exit_is c.from_residual.ensures.1) (at_input _ _ _ c.in_err-columns.ensures.refused)

pub returns-in_err-scratch-clause-refused : goal.returns-in_err-scratch-clause-refused
unfolding factor_needs
returns-in_err-scratch-clause-refused c = rw (exit_is c.from_residual-in_err-scratch.ensures.1) (at_room (matrix_of c.args.matrix.now) _ _ c.in_ok-columns.ensures.passed.0 (passed_some _ c.in_err-scratch.ensures))

pub tree_and_counts-requires : goal.tree_and_counts-requires
unfolding factor_needs
tree_and_counts-requires c =
    let e = c.in_ok-columns.ensures.passed in
    let l = long (matrix_of c.args.matrix.now) c.args.cap c.args.room e.0 (passed_none _ c.in_ok-scratch.ensures) in
    let q = e.1.n in
    record { n_in_bounds = (omega (arith, l.2, q), omega (arith, l.0, q), omega (arith, l.1, q)) }

pub entries-entries-requires-clause-n_bound : goal.entries-entries-requires-clause-n_bound
unfolding factor_needs
entries-entries-requires-clause-n_bound c =
    let e = c.in_ok-columns.ensures.passed in
    let l = long (matrix_of c.args.matrix.now) c.args.cap c.args.room e.0 (passed_none _ c.in_ok-scratch.ensures) in
    (e.0.small, omega (arith, l.0, c.tree_and_counts.auto))

pub entries-entries-requires-clause-by_index : goal.entries-entries-requires-clause-by_index
entries-entries-requires-clause-by_index c =
    counts_to (pattern (matrix_of c.args.matrix.now)) _ _ _ (carried c.in_ok-columns.ensures.passed.1 (λ n s r. c.tree_and_counts.new.counts ≡ list (count (stored s r) n) n ++ drop n c.args.groups.now) c.tree_and_counts.ensures.counts_after)

pub returns-then-cap-entries-clause-refused : goal.returns-then-cap-entries-clause-refused
unfolding factor_needs
returns-then-cap-entries-clause-refused c =
    let e = c.in_ok-columns.ensures.passed in
    let t = carried e.1 (λ n s r. c.tree_and_counts.new.counts ≡ list (count (stored s r) n) n ++ drop n c.args.groups.now) c.tree_and_counts.ensures.counts_after in
    at_cap (matrix_of c.args.matrix.now) _ _ e.0 (passed_none _ c.in_ok-scratch.ensures) _ (c.entries-entries.ensures ∙ entries_are (pattern (matrix_of c.args.matrix.now)) _ _ _ t) c.if-cap-entries.true

pub work-requires-clause-n_bound : goal.work-requires-clause-n_bound
unfolding factor_needs
work-requires-clause-n_bound c =
    let e = c.in_ok-columns.ensures.passed in
    let l = long (matrix_of c.args.matrix.now) c.args.cap c.args.room e.0 (passed_none _ c.in_ok-scratch.ensures) in
    (e.0.small, omega (arith, l.0, c.tree_and_counts.auto))

pub work-requires-clause-by_index : goal.work-requires-clause-by_index
work-requires-clause-by_index c =
    counts_to (pattern (matrix_of c.args.matrix.now)) _ _ _ (carried c.in_ok-columns.ensures.passed.1 (λ n s r. c.tree_and_counts.new.counts ≡ list (count (stored s r) n) n ++ drop n c.args.groups.now) c.tree_and_counts.ensures.counts_after)

pub returns : goal.returns
unfolding factor_needs
returns c =
    let M = matrix_of c.args.matrix.now in
    let e = c.in_ok-columns.ensures.passed in
    let a = passed_none _ c.in_ok-scratch.ensures in
    let k = c.tree_and_counts.ensures in
    let t = carried e.1 (λ n s r. c.tree_and_counts.new.counts ≡ list (count (stored s r) n) n ++ drop n c.args.groups.now) k.counts_after in
    let n = c.entries-entries.ensures ∙ entries_are (pattern M) _ _ _ t in
    record {
      passed = (
        e.1,
        record {
          calm = past_cap M c.args.cap c.args.room e.0 a _ n c.if-cap-entries.false;
          well = e.0;
          room = a;
          entries = n;
          work = c.work.ensures ∙ work_is (pattern M) _ _ _ t;
          four = t;
          five = carried e.1 (λ n s r. c.tree_and_counts.new.marks ≡ replicate n 0 ++ drop n c.args.tasks.now) k.marks_after;
          six = carried e.1 (λ n s r. c.tree_and_counts.new.parents ≡ list (parent (stored s r) n) n ++ drop n c.args.top.now) k.parents_after;
        },
      );
      refused = tt;
    }
