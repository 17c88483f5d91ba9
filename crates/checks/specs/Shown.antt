-- The structure that is walked. Definitions only.
use Rattle.statement.specs.Shape.{Shape}
use Rattle.laws.specs.Lent.{laid}
use Rattle.checks.specs.declared.walked.Walked.{Walked}

abbrev pub walk_of : Walked → Shape
walk_of w = laid w.n w.firsts.now w.starts.now w.rows.now
