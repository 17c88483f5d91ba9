-- What the code makes of a line, in the statement's words. Assumes nothing.
use Rattle.std.specs.Prelude.{Option, Some, None}
use Rattle.std.proofs.Math.Option as math
use Rattle.statement.specs.Job as job
use Rattle.frame.specs.declared.Frame.{Frame}
use Rattle.frame.specs.declared.Frame.TheVariants.{Begin, Stored, Side, End}

-- an option of the code as the statement writes it
abbrev pub said : {A : Type 0} → Option A → math.Option A
said None = math.none
said (Some x) = math.some x

-- the statement's frame, or none
abbrev pub meant : Option Frame → math.Option job.Frame
meant (Some (Begin n cap)) = math.some (job.begin n cap)
meant (Some (Stored column row bits)) = math.some (job.stored column row bits)
meant (Some (Side position bits)) = math.some (job.side position bits)
meant (Some End) = math.some job.end
meant None = math.none
