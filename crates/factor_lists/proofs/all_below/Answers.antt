-- `factor_lists::all_below` meets its contract: the chain's answer, place by place. Assumes nothing.
use Rattle.std.proofs.Common.{rules, ltb, ◌∙◌}
use Rattle.std.proofs.lemmas.Iterator.{YieldsList-from_slice}
use Rattle.std.proofs.lemmas.Iterator.Search.{all_from_yields_List}
use borrow.Author.Tests.{tests}
use Rattle.factor_lists.proofs.Chains.{every_of}
use Rattle.factor_lists.proofs.all_below.Goals as goal

pub returns : goal.returns
returns c =
    let a = c.args in
    all_from_yields_List (λ x. ltb x a.n) _ _ _ c.all.ensures.ran (YieldsList-from_slice a.l.now cc) (λ x b q k. search (rules, tests)) ∙ every_of (λ x. ltb x a.n) 0 a.l.now
