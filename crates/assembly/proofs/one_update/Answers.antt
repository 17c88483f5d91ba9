-- `assembly::one_update` meets its contract. The three words of an update, and what update does with them. Assumes nothing.
use native.Mathlib.Nat.{le_refl}
use native.Mathlib.Omega.{arith}
use Rattle.views.specs.Shown.{shape_of}
use Rattle.assembly.proofs.Gather as gather
use Rattle.assembly.proofs.one_update.Goals as goal

pub of-from-requires : goal.of-from-requires
of-from-requires c =
    let p = c.requires in
    let less = p.listed.0.before c.args.u p.u_lt_count in
    gather.stands (shape_of c.args.structure.now) p.rows _ (omega (arith, less)) c.args.offsets.now (omega (arith, less, p.offsets.room)) (p.offsets.at _ (omega (arith, less)))

pub update-requires : goal.update-requires
update-requires c =
    let p = c.requires in
    let own = p.own in
    gather.source_as _ _ _ _ _ _ _ _ _ _ _ _ _ _ own.off_is own.m_is own.w_is c.of-from.ensures
    (gather.sourced (shape_of c.args.structure.now) p.rows c.args.j (le_refl _) _ own.placed _ _ p.listed.0 c.args.u p.u_lt_count _ _ own.places own.work own.values)

pub returns : goal.returns
returns c =
    let own = c.requires.own in
    gather.updated_as _ _ _ _ _ _ _ _ _ _ _ _ own.off_is own.m_is c.of-from.ensures c.update.ensures
