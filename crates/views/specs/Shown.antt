-- What each view shows, in the statement's words. Definitions only.
use Rattle.std.specs.Prelude.{◌≡◌}
use Rattle.statement.specs.Input as input
use Rattle.statement.specs.Shape.{Shape}
use Rattle.statement.specs.Solve.{FactorAreas}
use Rattle.laws.specs.Lent.{lent, laid}
use Rattle.views.specs.declared.Matrix.{Matrix}
use Rattle.views.specs.declared.Columns.{Columns}
use Rattle.views.specs.declared.Structure.{Structure}
use Rattle.views.specs.declared.Factor.{Factor}

abbrev pub matrix_of : Matrix → input.Matrix
matrix_of m = input.matrix m.n m.starts.now m.rows.now m.values.now

abbrev pub shape_of : Structure → Shape
shape_of s = laid s.n s.firsts.now s.starts.now s.rows.now

abbrev pub areas_of : Factor → FactorAreas
areas_of f = lent f.permutation.now f.firsts.now f.starts.now f.rows.now f.values.now

-- the columns are the matrix's
pub record ColumnsOf (m : Matrix) (c : Columns) : Type 0 where
  pub n : c.n ≡ m.n
  pub starts : c.starts.now ≡ m.starts.now
  pub rows : c.rows.now ≡ m.rows.now
