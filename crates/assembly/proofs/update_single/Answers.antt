-- `assembly::update_single` meets its contract. A sum of one product for each row. Assumes nothing.
use mathlib.Core.Path.{refl}
use native.Mathlib.Omega.{arith}
use Rattle.assembly.proofs.Spots as spots
use Rattle.assembly.proofs.update_single.Goals as goal

pub offset_bounds-place-r : goal.offset_bounds-place-r
offset_bounds-place-r c =
    let pre' = c.requires in
    let args' = c.args in
    omega (arith, pre'.known args'.q pre'.here)

pub bounds-place-r : goal.bounds-place-r
bounds-place-r c =
    let pre' = c.requires in
    let args' = c.args in
    pre'.known args'.q pre'.here

pub column_start-requires : goal.column_start-requires
column_start-requires c =
    let pre' = c.requires in
    let args' = c.args in
    omega (arith, pre'.inside args'.q (omega arith) pre'.here)

pub overflow_sub-base : goal.overflow_sub-base
overflow_sub-base c =
    let column-start' = c.column_start in
    let pre' = c.requires in
    omega (arith, column-start'.ensures, spots.start_ge _ _ _ _ _ _ _ _ _ _ _ pre')

pub overflow_add-base : goal.overflow_add-base
overflow_add-base c =
    let column-start' = c.column_start in
    let pre' = c.requires in
    omega (arith, column-start'.ensures, pre'.column)

pub overflow_add-from : goal.overflow_add-from
overflow_add-from c =
    let column-start' = c.column_start in
    let pre' = c.requires in
    omega (arith, column-start'.ensures, pre'.column, spots.before_base _ _ _ _ _ _ _ _ _ _ _ pre' _ column-start'.ensures refl)

pub overflow_sub-from : goal.overflow_sub-from
overflow_sub-from c =
    let pre' = c.requires in
    omega (arith, pre'.here)

pub product_rising-requires : goal.product_rising-requires
product_rising-requires c =
    let pre' = c.requires in
    let column-start' = c.column_start in record { rising = spots.rising_whole _ _ _ _ _ _ _ _ _ _ _ pre' _ column-start'.ensures; n_bound = spots.before_base _ _ _ _ _ _ _ _ _ _ _ pre' _ column-start'.ensures refl }

pub returns : goal.returns
returns c =
    let pre' = c.requires in
    let column-start' = c.column_start in
    let product-rising' = c.product_rising in
    spots.one_single _ _ _ _ _ _ _ _ _ _ _ pre' _ column-start'.ensures _ _ product-rising'.ensures
