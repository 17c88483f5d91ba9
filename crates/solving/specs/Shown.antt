-- The structure that a full factor holds. Definitions only.
use Rattle.statement.specs.Shape.{Shape}
use Rattle.laws.specs.Lent.{laid}
use Rattle.solving.specs.declared.full.Full.{Full}

abbrev pub shape_of : Full → Shape
shape_of f = laid f.n f.firsts.now f.starts.now f.rows.now
