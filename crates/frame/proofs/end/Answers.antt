-- `frame::end` meets its contract, by whether its digits stand for 4. Assumes nothing.
use Rattle.std.proofs.Common.{◌≡◌, Bool, true, false, cond, refl, sym, ◌∙◌, eqb}
use Rattle.std.proofs.Math.Option.{none, some}
use Rattle.std.specs.Bool.{then_some}
use Rattle.statement.specs.Job as job
use Rattle.statement.specs.Job.{frame, frame_of}
use Rattle.frame.specs.Line.{meant}
use Rattle.frame.specs.declared.Frame.TheVariants.{End}
use Rattle.frame.proofs.end.Goals as goal

ending : (b : Bool) → meant (then_some b End) ≡ cond b (some job.end) none
ending true = refl
ending false = refl

pub returns-in_err-value : goal.returns-in_err-value
unfolding frame_of
returns-in_err-value c = rw (c.from_residual.ensures, sym c.in_err-value.ensures, frame_of) refl

pub returns : goal.returns
unfolding frame_of frame
returns c = rw c.then_some.ensures (ending (eqb c.in_ok-value.field-0 4) ∙ rw (sym c.in_ok-value.ensures, frame_of, c.requires) refl)
