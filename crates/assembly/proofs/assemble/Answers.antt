-- `assembly::assemble` meets its contract. from_a in the part at the offset, then the updates. Assumes nothing.
use mathlib.Core.Path.{refl}
use native.Mathlib.Nat.{le_refl}
use native.Mathlib.Omega.{arith}
use lib.Ieee.{nan}
use Rattle.views.specs.Shown.{shape_of}
use Rattle.areas.proofs.Part as part
use Rattle.assembly.proofs.Gather as gather
use Rattle.assembly.proofs.Scatters as scat
use Rattle.assembly.proofs.Assembles as asm
use Rattle.assembly.proofs.assemble.Goals as goal

pub offset_bounds-values-to : goal.offset_bounds-values-to
offset_bounds-values-to c = omega (arith, scat.off_in (shape_of c.args.structure.now) c.args.j _ _ _ c.args.place.now _ _ c.requires.own.0)

pub slice_bounds-from_a-count : goal.slice_bounds-from_a-count
slice_bounds-from_a-count c = omega (arith, scat.off_in (shape_of c.args.structure.now) c.args.j _ _ _ c.args.place.now _ _ c.requires.own.0)

pub slice_bounds-from_a-start : goal.slice_bounds-from_a-start
slice_bounds-from_a-start c = omega (arith, scat.off_in (shape_of c.args.structure.now) c.args.j _ _ _ c.args.place.now _ _ c.requires.own.0)

pub from_a-requires : goal.from_a-requires
from_a-requires c =
    let a = c.args in
    let p = c.requires in record { rows = p.rows; pattern = p.pattern; fresh = scat.fresh_of (shape_of a.structure.now) a.j a.to.now.offset _ _ _ a.place.now _ _ _ p.own.0 p.own.1 (part.mid_length nan a.values.now a.to.now.offset) }

pub updates-requires : goal.updates-requires
updates-requires c =
    let a = c.args in
    let p = c.requires in
    let S = shape_of a.structure.now in
    let in0 = scat.off_in S a.j _ _ _ a.place.now _ _ p.own.0 in record { rows = p.rows; listed = p.listed; offsets = p.offsets; own = gather.own_as S a.j a.to.now.offset _ _ a.place.now _ _ _ _ (part.back_length nan a.values.now a.to.now.offset in0 c.from_a.new.own c.from_a.ensures.size) refl p.own.0 }

pub returns : goal.returns
returns c =
    let a = c.args in
    let p = c.requires in
    asm.assembled (shape_of a.structure.now) p.rows a.j (le_refl _) a.lower.now.starts.now a.lower.now.rows.now _ a.values.now c.from_a.new.own _ a.to.now.offset p.own.0.off_is p.own.0.values c.from_a.ensures c.updates.ensures
