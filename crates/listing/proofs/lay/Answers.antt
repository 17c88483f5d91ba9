-- `listing::lay`: what is written, and none behind it. Assumes nothing.
use Rattle.std.proofs.Common.{◌≡◌, ◌∙◌, ap, arith, rules, ◌-◌, ◌++◌, ◌≤◌, length}
use lib.ListN.{take, drop, replicate}
use Rattle.statement.specs.Areas.{no_update}
use Rattle.areas.proofs.Tail.{tail_back, tail_length}
use Rattle.listing.proofs.Writing.{laid_out}
use Rattle.listing.proofs.lay.Goals as goal

pub returns : goal.returns
returns c =
    let us = c.write_all.new.us in
    let t = c.last_place-total.result in
    let h : t ≤ length us = search rules in
    let m : length (take (length us - t) (drop t us)) ≡ length c.args.us.now - t = omega (arith, tail_length t us h, c.write_all.auto.us) in
    laid_out c.write_all.ensures c.last_place-total.ensures (tail_back t us c.clear.new.s ∙ ap (λ x. take t us ++ x) (c.clear.ensures ∙ ap (λ m. replicate m no_update) m))
