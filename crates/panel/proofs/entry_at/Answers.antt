-- `panel::entry_at` meets its contract: the entry as far past the column's start as its row is below the diagonal. Assumes nothing.
use mathlib.Core.Path.{ap}
use Prim.Native.Nat.{◌+◌, ◌-◌}
use native.Mathlib.Omega.{arith}
use lib.ListN.{get_or}
use lib.Ieee.{nan}
use Rattle.panel.proofs.entry_at.Goals as goal

pub column_start-requires : goal.column_start-requires
column_start-requires c = omega (arith, c.requires.0.inside, c.requires.0.few)

pub overflow_add-at : goal.overflow_add-at
overflow_add-at c = omega (arith, c.requires.0.room, c.column_start.ensures)

pub offset_bounds-values-at : goal.offset_bounds-values-at
offset_bounds-values-at c = omega (arith, c.requires.0.room, c.column_start.ensures)

pub bounds-values-at : goal.bounds-values-at
bounds-values-at c = omega (arith, c.requires.0.room, c.column_start.ensures)

pub returns : goal.returns
returns c =
    let args = c.args in
    ap (λ t. get_or args.values.now (t + (args.r - args.c)) nan) c.column_start.ensures
