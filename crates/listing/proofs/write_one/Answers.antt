use Rattle.std.proofs.Common.{drop, arith, add-one, refl}
use Rattle.updates.specs.Layout.{updates_at}
use Rattle.updates.specs.Laying.{written}
use Rattle.listing.proofs.Writing.{written_next}
use Rattle.listing.proofs.write_one.Goals as goal

pub loop-i-init : goal.loop-i-init
unfolding written
loop-i-init c = (omega arith, refl)

pub loop-i-preserved : goal.loop-i-preserved
loop-i-preserved c =
    let a = c.args in
    (omega arith, rw (add-one c.loop-i.i) (written_next a.source c.loop-i.i (drop (updates_at a.n) a.words.now) a.us.now c.loop-i.invariant.1 c.place_at.ensures c.update_of.ensures refl))
