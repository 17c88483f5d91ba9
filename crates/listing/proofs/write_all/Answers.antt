use Rattle.std.proofs.Common.{◌≡◌, add-one, arith}
use Rattle.listing.proofs.Writing.{writing_begin, writing_more, writing_over}
use Rattle.listing.proofs.write_all.Goals as goal

pub loop-k-init : goal.loop-k-init
loop-k-init c = (omega arith, writing_begin c.requires)

pub loop-k-preserved : goal.loop-k-preserved
loop-k-preserved c = (omega arith, rw (add-one c.loop-k.k) (writing_more c.requires c.loop-k.invariant.1 c.loop-k-test.true c.scan_one-c.ensures c.write_one.ensures))

pub returns : goal.returns
returns c =
    let e : c.loop-k.k ≡ c.args.ns = omega arith in
    writing_over c.requires (rw e at c.loop-k.invariant.1)
