-- `input::wrong_start` meets its contract, by the position. Assumes nothing.
use Rattle.views.specs.Shown.{matrix_of}
use Rattle.input.proofs.Checks.{start_first, start_only, start_zero, start_falls, start_last, start_rises}
use Rattle.input.proofs.wrong_start.Goals as goal

pub returns-then-x-ne0 : goal.returns-then-x-ne0
returns-then-x-ne0 c = start_first (matrix_of c.args.matrix.now) c.args.p c.if-p-eq0.true c.if-x-ne0.true

pub returns-then-p-matrix : goal.returns-then-p-matrix
returns-then-p-matrix c = start_only (matrix_of c.args.matrix.now) c.args.p c.if-p-eq0.true c.if-x-ne0.false c.if-p-matrix.true

pub returns-else-p-matrix : goal.returns-else-p-matrix
returns-else-p-matrix c = start_zero (matrix_of c.args.matrix.now) c.args.p c.if-p-eq0.true c.if-x-ne0.false c.if-p-matrix.false

pub returns-then-x-matrix : goal.returns-then-x-matrix
returns-then-x-matrix c = start_falls (matrix_of c.args.matrix.now) c.args.p c.if-p-eq0.false c.if-x-matrix.true

pub returns-then-p-matrix-2 : goal.returns-then-p-matrix-2
returns-then-p-matrix-2 c = start_last (matrix_of c.args.matrix.now) c.args.p c.if-p-eq0.false c.if-x-matrix.false c.if-p-matrix-2.true

pub returns-else-p-matrix-2 : goal.returns-else-p-matrix-2
returns-else-p-matrix-2 c = start_rises (matrix_of c.args.matrix.now) c.args.p c.if-p-eq0.false c.if-x-matrix.false c.if-p-matrix-2.false
