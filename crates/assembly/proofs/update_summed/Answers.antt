-- `assembly::update_summed` meets its contract. One sum for each row, subtracted through the positions. Assumes nothing.
use mathlib.Core.Path.{refl}
use native.Mathlib.Omega.{arith}
use lib.Ieee.{nan}
use Rattle.areas.proofs.Part as part
use Rattle.assembly.proofs.Spots as spots
use Rattle.assembly.proofs.update_summed.Goals as goal

pub offset_bounds-place-r : goal.offset_bounds-place-r
offset_bounds-place-r c = let s = c in omega (arith, s.requires.known s.args.q s.requires.here)

pub bounds-place-r : goal.bounds-place-r
bounds-place-r c = let s = c in s.requires.known s.args.q s.requires.here

pub column_start-requires : goal.column_start-requires
column_start-requires c = let s = c in omega (arith, s.requires.inside s.args.q (omega arith) s.requires.here)

pub overflow_sub-base : goal.overflow_sub-base
overflow_sub-base c = omega (arith, c.column_start.ensures, spots.start_ge _ _ _ _ _ _ _ _ _ _ _ c.requires)

pub subtract_rising-requires : goal.subtract_rising-requires
subtract_rising-requires c =
    let b = c.before.before in
    let d = b in
    let s = d in record { rising = spots.rising _ _ _ _ _ _ _ _ _ _ _ s.requires _ b.column_start.ensures _ (part.mid_length nan s.args.values.now s.args.to.now.offset); n_in_bounds = omega (arith, d.sums.ensures.size, s.requires.room) }

pub returns : goal.returns
returns c =
    let b = c.before.before.before.before.before in
    let d = b in
    spots.one_column _ _ _ _ _ _ _ _ _ _ _ d.requires _ b.column_start.ensures _ _ d.sums.new.work refl c.subtract_rising.ensures d.sums.ensures.inside
