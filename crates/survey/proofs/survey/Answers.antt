-- `survey::survey` meets its contract: the tests before the structure, then the structure. Assumes nothing.
use lib.ListN.{length, take, drop}
use Prim.Native.Nat.{ℕ, ◌-◌, ◌≤◌}
use mathlib.Core.List.{List}
use native.Mathlib.Omega.{arith}
use mathlib.Core.Path.{◌≡◌, refl, sym, ◌∙◌}
use Rattle.statement.specs.Lists.{list}
use Rattle.statement.specs.Input.{stored, pattern}
use Rattle.statement.specs.Fill.{parent, count}
use Rattle.updates.specs.Layout.{places_at, owners_at}
use Rattle.areas.proofs.Tail.{tail_length}
use Rattle.laws.proofs.Passed.{exit_is}
use Rattle.views.specs.Shown.{matrix_of}
use Rattle.views.proofs.Carried.{carried, carried_back}
use Rattle.analysis.specs.Phases.{Enough, Analysed, later_needs}
use Rattle.statement.specs.Areas.{short}
use mathlib.Core.Option.{some}
use Rattle.analysis.proofs.Linked.{few_in}
use Rattle.survey.proofs.Zeros.{zeros_length}
use Rattle.survey.proofs.Laying.{owned, owned_length, owners_long, placed_length, places_in, owners_stay}
use Rattle.survey.proofs.Surveying.{at_measure, at_later, words_long, parents_there, counts_there, enough, groups_long, laid, rows_there, zeros_behind}
use Rattle.survey.proofs.survey.Goals as goal

pub measure-requires : goal.measure-requires
measure-requires c = let q = c.requires in (zeros_length 0 q.four, zeros_length 0 q.five, zeros_length 0 q.six)

pub returns-in_err-found-clause-refused : goal.returns-in_err-found-clause-refused
returns-in_err-found-clause-refused c = rw (exit_is c.from_residual.ensures.1) (at_measure _ _ _ c.in_err-found.ensures.refused)

pub overflow_mul-owners : goal.overflow_mul-owners
overflow_mul-owners c = omega (arith, c.in_ok-found.ensures.passed.1.well.small)

pub overflow_add-owners : goal.overflow_add-owners
overflow_add-owners c = omega (arith, c.in_ok-found.ensures.passed.1.well.small)

pub offset_bounds-words-owners : goal.offset_bounds-words-owners
offset_bounds-words-owners c = omega (arith, c.in_ok-found.ensures.passed.1.well.small)

pub slice_bounds-build-count : goal.slice_bounds-build-count
slice_bounds-build-count c = omega (arith, words_long (matrix_of c.args.matrix.now) c.args.cap c.args.room c.requires _ _ _ _ _ c.in_ok-found.ensures.passed.1)

pub slice_bounds-build-start : goal.slice_bounds-build-start
slice_bounds-build-start c = omega (arith, words_long (matrix_of c.args.matrix.now) c.args.cap c.args.room c.requires _ _ _ _ _ c.in_ok-found.ensures.passed.1)

pub build-requires : goal.build-requires
build-requires c =
    let M = matrix_of c.args.matrix.now in
    let e = c.in_ok-found.ensures.passed in
    let z = e.1 in
    let q = c.requires in
    let long = words_long M c.args.cap c.args.room q _ _ _ _ _ z in
    let owners = take (length c.args.words.now - owners_at c.args.matrix.now.n) (drop (owners_at c.args.matrix.now.n) c.args.words.now) in
    let k : c.args.matrix.now.n ≤ length owners = omega (arith, tail_length (owners_at c.args.matrix.now.n) c.args.words.now (omega (arith, long)), long) in
    record {
      small = omega (arith, e.0.n, z.well.small);
      enough = carried_back e.0 (λ n s r. Enough n c.args.permutation.now c.args.firsts.now c.args.starts.now c.measure.new.groups c.measure.new.tasks c.measure.new.top owners)
          (enough M c.args.cap c.args.room q _ _ _ _ _ z (omega (arith, c.measure.auto)) (omega (arith, c.measure.auto)) (omega (arith, c.measure.auto)) owners k);
      top_value = carried_back e.0 (λ n s r. (take n c.measure.new.top ≡ list (parent (stored s r) n) n) × (take n c.measure.new.groups ≡ list (count (stored s r) n) n))
          (parents_there M c.args.cap c.args.room q _ _ _ _ _ z, counts_there M c.args.cap c.args.room q _ _ _ _ _ z);
      rows_value = sym q.nine_long;
    }

pub returns-in_err-counts-clause-refused : goal.returns-in_err-counts-clause-refused
returns-in_err-counts-clause-refused c =
    let M = matrix_of c.args.matrix.now in
    let e = c.in_ok-found.ensures.passed in
    rw (exit_is c.from_residual-in_err-counts.ensures.1)
    (at_later M c.args.cap c.args.room e.1.calm _ e.1.entries (carried e.0 (λ n s r. short (later_needs (stored s r) n c.in_ok-found.found.entries c.args.room) ≡ some c.in_err-counts.field-0.0) c.in_err-counts.ensures.refused))

pub slice_bounds-put_starts-count : goal.slice_bounds-put_starts-count
slice_bounds-put_starts-count c =
    let M = matrix_of c.args.matrix.now in
    let e = c.in_ok-found.ensures.passed in
    let z = e.1 in
    let q = c.requires in
    let w = c.args.words.now in
    let long = words_long M c.args.cap c.args.room q _ _ _ _ _ z in
    omega (arith, long, owned_length M.n w c.build.new.words (omega (arith, long)) c.build.auto.words)

pub slice_bounds-put_starts-start : goal.slice_bounds-put_starts-start
slice_bounds-put_starts-start c =
    let M = matrix_of c.args.matrix.now in
    let e = c.in_ok-found.ensures.passed in
    let z = e.1 in
    let q = c.requires in
    let w = c.args.words.now in
    let long = words_long M c.args.cap c.args.room q _ _ _ _ _ z in
    omega (arith, long, owned_length M.n w c.build.new.words (omega (arith, long)) c.build.auto.words)

pub put_starts-requires : goal.put_starts-requires
put_starts-requires c =
    let M = matrix_of c.args.matrix.now in
    let e = c.in_ok-found.ensures.passed in
    let z = e.1 in
    let q = c.requires in
    let w = c.args.words.now in
    let long = words_long M c.args.cap c.args.room q _ _ _ _ _ z in
    let b = carried e.0 (λ n s r. Analysed (stored s r) n c.in_ok-found.found.entries c.args.room c.in_ok-counts.counts.supernodes c.in_ok-counts.counts.rows c.in_ok-counts.counts.updates
    c.args.permutation.now c.args.firsts.now c.args.starts.now c.measure.new.groups c.measure.new.tasks c.args.rows.now
    c.build.new.permutation c.build.new.firsts c.build.new.starts c.build.new.groups c.build.new.tasks c.build.new.words c.build.new.rows) c.in_ok-counts.ensures.passed in
    let few = few_in M.n M.starts M.rows z.well.columns z.well.small b.numbered in
    let k = owned_length M.n w c.build.new.words (omega (arith, long)) c.build.auto.words in
    (omega (arith, few, groups_long M c.args.cap c.args.room q _ _ _ _ _ z, c.build.auto.groups, c.measure.auto), omega (arith, few, long, k, tail_length (places_at M.n) (owned M.n w c.build.new.words (omega (arith, long)) c.build.auto.words) (omega (arith, k, long))))

pub clear_behind-requires : goal.clear_behind-requires
clear_behind-requires c = rows_there c.in_ok-counts.ensures.passed

pub returns : goal.returns
returns c =
    let M = matrix_of c.args.matrix.now in
    let e = c.in_ok-found.ensures.passed in
    let z = e.1 in
    let q = c.requires in
    let w = c.args.words.now in
    let long = words_long M c.args.cap c.args.room q _ _ _ _ _ z in
    let b = carried e.0 (λ n s r. Analysed (stored s r) n c.in_ok-found.found.entries c.args.room c.in_ok-counts.counts.supernodes c.in_ok-counts.counts.rows c.in_ok-counts.counts.updates
    c.args.permutation.now c.args.firsts.now c.args.starts.now c.measure.new.groups c.measure.new.tasks c.args.rows.now
    c.build.new.permutation c.build.new.firsts c.build.new.starts c.build.new.groups c.build.new.tasks c.build.new.words c.build.new.rows) c.in_ok-counts.ensures.passed in
    let few = few_in M.n M.starts M.rows z.well.columns z.well.small b.numbered in
    let many : c.in_ok-counts.counts.supernodes ≤ length c.build.new.groups = omega (arith, few, groups_long M c.args.cap c.args.room q _ _ _ _ _ z, c.build.auto.groups, c.measure.auto) in
    record {
      passed = laid M c.args.cap c.args.room q _ _ _ _ _ z (omega (arith, c.measure.auto)) (omega (arith, c.measure.auto)) (omega (arith, c.measure.auto)) _ _ (zeros_behind b (c.build.auto.rows ∙ q.nine_long) c.clear_behind.ensures) refl refl refl _ _
          (owners_long M.n w c.build.new.words (omega (arith, long)) c.build.auto.words)
          (owners_stay M.n w c.build.new.words (omega (arith, long)) c.build.auto.words c.in_ok-counts.counts.supernodes c.build.new.groups c.put_starts.new.to few many c.put_starts.ensures)
          (places_in M.n w c.build.new.words (omega (arith, long)) c.build.auto.words c.in_ok-counts.counts.supernodes c.build.new.groups c.put_starts.new.to few many c.put_starts.ensures)
          (placed_length M.n w c.build.new.words (omega (arith, long)) c.build.auto.words c.in_ok-counts.counts.supernodes c.build.new.groups c.put_starts.new.to few many c.put_starts.ensures c.put_starts.auto.to);
      refused = tt;
    }
