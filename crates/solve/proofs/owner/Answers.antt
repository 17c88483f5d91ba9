-- `solve::owner` meets its contract: the first columns up to q come before those past it. Assumes nothing.
use Rattle.std.proofs.Common.{rules, leb}
use Rattle.std.proofs.lemmas.List.Sorted.{IsPartitionPoint-from_clause}
use borrow.Author.Tests.{tests}
use Rattle.solve.proofs.Viewed.{parted, owner_some, owner_at}
use Rattle.solve.proofs.owner.Goals as goal

pub overflow_sub-result : goal.overflow_sub-result
overflow_sub-result c =
    let l = c.args.firsts.now in
    let p = IsPartitionPoint-from_clause (λ f. leb f c.args.q) l _ c.partition_point.ensures.partitioned (parted l c.args.q c.requires.by_index) (λ a r f k. search (rules, tests)) in
    owner_some l c.args.q _ c.requires.by_index c.requires.firsts_bound.0 c.requires.firsts_bound.1 p

pub returns : goal.returns
returns c =
    let l = c.args.firsts.now in
    let p = IsPartitionPoint-from_clause (λ f. leb f c.args.q) l _ c.partition_point.ensures.partitioned (parted l c.args.q c.requires.by_index) (λ a r f k. search (rules, tests)) in
    owner_at l c.args.q _ c.requires.by_index c.requires.firsts_bound.0 c.requires.firsts_bound.1 p
