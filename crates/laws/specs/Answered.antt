-- The answer that the tests of a call come to. Definitions only.
use Rattle.std.specs.Prelude.{Result, Ok, Err}
use Rattle.std.proofs.Math.Option.{Option, none, some}
use Rattle.statement.specs.declared.Answer.{Answer}
use Rattle.statement.specs.declared.Answer.TheVariants.{Accepted}

-- accepted where there is no fault
unfoldable pub answered : Option Answer → Answer
answered none = Accepted
answered (some a) = a

-- Ok where there is no fault, and else the first one as the error
unfoldable pub passed : Option Answer → Result Unit Answer
passed none = Ok tt
passed (some a) = Err a
