use Rattle.std.proofs.Common.{◌≡◌, arith, add-one, refl}
use Rattle.run.proofs.Fetching.{brought_none, keeps_asked, brought_more}
use Rattle.run.proofs.fetch.Goals as goal

pub loop-i-init : goal.loop-i-init
loop-i-init c = (omega arith, brought_none c.requires)

pub keep-requires : goal.keep-requires
keep-requires c = keeps_asked c.requires c.loop-i.auto.words c.loop-i.invariant.1 c.loop-i-test.true

pub loop-i-preserved : goal.loop-i-preserved
loop-i-preserved c = (omega arith, simp add-one (brought_more c.requires c.loop-i.auto.words c.loop-i.invariant.1 c.loop-i-test.true refl c.keep.ensures))

pub returns : goal.returns
returns c =
    let e : c.loop-i.i ≡ c.args.hi = omega arith in
    rw e at c.loop-i.invariant.1.1
