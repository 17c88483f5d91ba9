-- `factor_lists::permutes` meets its contract: counted slowly, or in the words. Assumes nothing.
use mathlib.Core.Path.{sym, ◌∙◌}
use Rattle.std.proofs.Common.{rules, ◌≡◌, List, ℕ, ◌++◌, drop, ap}
use lib.ListN.{replicate}
use lib.Seq.{length-take-le}
use Rattle.factor_lists.proofs.Parts.{names_past, counted, zeros_first, low_of_lem}
use Rattle.laws.proofs.Taken.{no, yes}
use Rattle.factor_lists.proofs.permutes.Goals as goal

pub returns-then-words-n : goal.returns-then-words-n
returns-then-words-n c =
    let permutes-slowly' = c.permutes_slowly in
    permutes-slowly'.ensures

pub slice_bounds-all_below-end : goal.slice_bounds-all_below-end
slice_bounds-all_below-end c =
    let pre' = c.requires in
    sym (length-take-le _ _ (pre'))

pub returns-then-not-all_below : goal.returns-then-not-all_below
returns-then-not-all_below c =
    let args' = c.args in
    let pre' = c.requires in
    let all-below' = c.all_below in
    let if2' = c.if-not-all_below in
    sym (names_past args'.n args'.p.now (pre') (no all-below'.ensures if2'.true))

pub count_all-requires-clause-by_index : goal.count_all-requires-clause-by_index
count_all-requires-clause-by_index c =
    let d = drop c.args.n c.args.words.now in
    let e : c.fill.new.self ≡ replicate c.args.n 0 = search rules in
    zeros_first c.args.n d _ (ap (λ (l : List ℕ). l ++ d) e)

pub count_all-requires-clause-by_index_2 : goal.count_all-requires-clause-by_index_2
count_all-requires-clause-by_index_2 c = low_of_lem _ _ c.requires (yes c.all_below.ensures c.if-not-all_below.false)

pub returns : goal.returns
returns c =
    let all-one' = c.all_one in
    let args' = c.args in
    let count-all' = c.count_all in
    all-one'.ensures ∙ counted args'.n args'.p.now count-all'.new.words count-all'.ensures
