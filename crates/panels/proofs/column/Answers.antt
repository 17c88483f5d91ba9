-- `panels::column` meets its contract. The reduced column, its test, the root and the quotients. Assumes nothing.
use mathlib.Core.Path.{◌∙◌}
use native.Mathlib.Omega.{arith}
use lib.ListN.{length-set}
use Rattle.panels.proofs.Columns as cols
use Rattle.panels.proofs.column.Goals as goal

pub at-d-requires : goal.at-d-requires
at-d-requires c = (record { inside = c.requires.0; few = c.requires.1; room = omega (arith, c.requires.2, c.reduce.ensures.size) }, omega arith, c.requires.0)

pub divide-requires : goal.divide-requires
divide-requires c = simp length-set (omega (arith, c.reduce.ensures.size, c.column_start-at.ensures))

pub shape_of-own : goal.shape_of-own
shape_of-own c = c.divide.ensures.size ∙ simp length-set c.reduce.ensures.size

pub returns-then-not-good_pivot-clause-column : goal.returns-then-not-good_pivot-clause-column
returns-then-not-good_pivot-clause-column c =
    let a = c.args in
    cols.column_no _ a.m a.c a.a _ _ _ c.requires.0 c.requires.2 c.reduce.ensures c.at-d.ensures c.good_pivot.ensures c.if-not-good_pivot.true

pub returns-clause-column : goal.returns-clause-column
returns-clause-column c =
    let a = c.args in
    cols.column_yes _ a.m a.c a.a _ _ _ c.requires.0 c.requires.2 c.reduce.ensures c.at-d.ensures c.good_pivot.ensures _ _ _ c.column_start-at.ensures c.if-not-good_pivot.false c.root-r.ensures c.divide.ensures
