-- `factor_lists::count` meets its contract: the chain's answer, place by place. Assumes nothing.
use Rattle.std.proofs.Common.{rules, ◌≡◌, eqb, take, ◌∙◌}
use Rattle.std.specs.List.{count_by}
use Rattle.factor_lists.proofs.Chains.{tally_of}
use Rattle.factor_lists.proofs.count.Goals as goal

pub returns : goal.returns
returns c =
    let a = c.args in
    let h : c.count.result ≡ count_by (λ x. eqb x a.v) (take a.n a.p.now) = search rules in
    h ∙ tally_of (λ x. eqb x a.v) 0 a.p.now a.n c.requires
