-- `factor_lists::all_one` meets its contract: the chain's answer, place by place. Assumes nothing.
use Rattle.std.proofs.Common.{rules, eqb, take, ◌∙◌}
use Rattle.std.proofs.lemmas.Iterator.{YieldsList-from_slice}
use Rattle.std.proofs.lemmas.Iterator.Search.{all_from_yields_List}
use borrow.Author.Tests.{tests}
use Rattle.factor_lists.proofs.Chains.{every_first}
use Rattle.factor_lists.proofs.all_one.Goals as goal

pub returns : goal.returns
returns c =
    let a = c.args in
    all_from_yields_List (λ x. eqb x 1) _ _ _ c.all.ensures.ran (YieldsList-from_slice (take a.n a.l.now) cc) (λ x b q k. search (rules, tests)) ∙ every_first (λ x. eqb x 1) 0 a.l.now a.n c.requires
