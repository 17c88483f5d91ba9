-- `panel::column_at` meets its contract: the part from the column's start, as long as the column. Assumes nothing.
use mathlib.Core.Path.{◌≡◌, ap₂}
use Prim.Native.Nat.{◌+◌, ◌-◌}
use native.Mathlib.Omega.{arith}
use lib.ListN.{take, drop}
use Rattle.panel.proofs.column_at.Goals as goal

pub column_start-at-requires : goal.column_start-at-requires
column_start-at-requires c = omega (arith, c.requires.inside, c.requires.few)

pub overflow_sub-end : goal.overflow_sub-end
overflow_sub-end c = omega (arith, c.requires.inside)

pub overflow_add-end : goal.overflow_add-end
overflow_add-end c = omega (arith, c.requires.room, c.column_start-at.ensures)

pub offset_bounds-values-at : goal.offset_bounds-values-at
offset_bounds-values-at c = omega (arith, c.requires.room, c.column_start-at.ensures)

pub slice_bounds-result-end : goal.slice_bounds-result-end
slice_bounds-result-end c = omega (arith, c.requires.room, c.column_start-at.ensures)

pub returns : goal.returns
returns c =
    let args = c.args in
    let at = c.column_start-at.result in
    let e : at + (args.m - args.c) - at ≡ args.m - args.c = omega arith in
    ap₂ (λ n k. take n (drop k args.values.now)) e c.column_start-at.ensures
