-- `assembly::update_column` meets its contract, by the width. Assumes nothing.
use native.Mathlib.Omega.{arith}
use Rattle.assembly.proofs.Spots as spots
use Rattle.assembly.proofs.update_column.Goals as goal

pub update_single-requires : goal.update_single-requires
update_single-requires c =
    let if1' = c.if-from-eq1 in
    let pre' = c.requires in
    spots.single (omega (arith, if1'.true)) pre'

pub update_summed-requires : goal.update_summed-requires
update_summed-requires c =
    let pre' = c.requires in
    pre'

pub returns-then-from-eq1 : goal.returns-then-from-eq1
returns-then-from-eq1 c =
    let args' = c.args in
    let if1' = c.if-from-eq1 in
    let update-single' = c.update_single in
    spots.as_single args'.place.now args'.rows.now args'.to.now.offset args'.to.now.height args'.from.now.start args'.from.now.height args'.from.now.offset args'.q args'.from.now.width (omega (arith, if1'.true)) _ _ update-single'.ensures

pub returns-else-from-eq1 : goal.returns-else-from-eq1
returns-else-from-eq1 c =
    let update-summed' = c.update_summed in
    update-summed'.ensures
