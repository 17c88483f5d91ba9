-- `input::check` meets its contract, test by test. Assumes nothing.
use Rattle.views.specs.Shown.{matrix_of}
use Rattle.laws.proofs.First.{at_first, past_first}
use Rattle.input.proofs.Checks.{over_n, over_rows, wrong_starts, wrong_values, wrong_start, sound, wrong_column, accepted}
use mathlib.Core.Path.{refl}
use native.Mathlib.Omega.{arith}
use Rattle.input.proofs.check.Goals as goal

pub returns-then-matrix-gt-COLUMNS_LIMIT-clause-refused : goal.returns-then-matrix-gt-COLUMNS_LIMIT-clause-refused
returns-then-matrix-gt-COLUMNS_LIMIT-clause-refused c = over_n (matrix_of c.args.matrix.now) c.if-matrix-gt-COLUMNS_LIMIT.true

pub returns-then-matrix-gt-ROWS_LIMIT-clause-refused : goal.returns-then-matrix-gt-ROWS_LIMIT-clause-refused
returns-then-matrix-gt-ROWS_LIMIT-clause-refused c = over_rows _ c.if-matrix-gt-COLUMNS_LIMIT.false c.if-matrix-gt-ROWS_LIMIT.true

pub returns-then-matrix-clause-refused : goal.returns-then-matrix-clause-refused
returns-then-matrix-clause-refused c = wrong_starts _ c.if-matrix-gt-COLUMNS_LIMIT.false c.if-matrix-gt-ROWS_LIMIT.false c.if-matrix.true

pub returns-then-matrix-2-clause-refused : goal.returns-then-matrix-2-clause-refused
returns-then-matrix-2-clause-refused c = wrong_values _ c.if-matrix-gt-COLUMNS_LIMIT.false c.if-matrix-gt-ROWS_LIMIT.false c.if-matrix.false c.if-matrix-2.true

pub returns-in-Some-clause-refused : goal.returns-in-Some-clause-refused
returns-in-Some-clause-refused c = let f = at_first _ _ c.in-Some.ensures in wrong_start _ c.if-matrix-gt-COLUMNS_LIMIT.false c.if-matrix-gt-ROWS_LIMIT.false c.if-matrix.false c.if-matrix-2.false _ f.1 (omega (arith, f.0))

pub first_column-requires-clause-by_index : goal.first_column-requires-clause-by_index
first_column-requires-clause-by_index c = sound _ c.if-matrix-gt-COLUMNS_LIMIT.false c.if-matrix-gt-ROWS_LIMIT.false c.if-matrix.false c.if-matrix-2.false _ refl (past_first _ _ c.in_default.ensures)

pub returns-in-Some-first_column-clause-refused : goal.returns-in-Some-first_column-clause-refused
returns-in-Some-first_column-clause-refused c = let k = at_first _ _ c.in-Some-first_column.ensures in wrong_column _ c.if-matrix-gt-COLUMNS_LIMIT.false c.if-matrix-gt-ROWS_LIMIT.false c.if-matrix.false c.if-matrix-2.false _ refl (past_first _ _ c.in_default.ensures) _ k.1 k.0

pub invariant_of-result : goal.invariant_of-result
invariant_of-result c = record { valid = (accepted _ c.if-matrix-gt-COLUMNS_LIMIT.false c.if-matrix-gt-ROWS_LIMIT.false c.if-matrix.false c.if-matrix-2.false _ refl (past_first _ _ c.in_default.ensures) _ refl (past_first _ _ c.in_default-first_column.ensures)).columns }

pub returns-clause-passed : goal.returns-clause-passed
returns-clause-passed c = (accepted _ c.if-matrix-gt-COLUMNS_LIMIT.false c.if-matrix-gt-ROWS_LIMIT.false c.if-matrix.false c.if-matrix-2.false _ refl (past_first _ _ c.in_default.ensures) _ refl (past_first _ _ c.in_default-first_column.ensures), record { n = refl; starts = refl; rows = refl })
