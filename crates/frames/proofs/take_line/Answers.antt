-- `frames::take_line` meets its contract: by the line's frame. Assumes nothing.
use Rattle.std.proofs.Common.{sym, ap, ◌∙◌, Some}
use Rattle.frame.specs.Line.{meant}
use Rattle.frames.proofs.Taken.{next_as, next_none}
use Rattle.frames.proofs.take_line.Goals as goal

pub returns-in_err-frame : goal.returns-in_err-frame
returns-in_err-frame c = rw c.from_residual.ensures (tt, λ j h. next_none c.args.starts.now c.args.rows.now c.args.values.now c.args.right.now j _ (sym c.in_err-frame.ensures))

pub returns-in-Begin : goal.returns-in-Begin
returns-in-Begin c =
    let e = sym c.in_ok-frame.ensures ∙ ap (λ f. meant (Some f)) c.in-Begin.is in
    let t = c.take_begin.ensures in
    (t.0, λ j h. next_as _ _ _ _ j _ _ _ e (t.1 _ _ _ _ j h))

pub returns-in-Stored : goal.returns-in-Stored
returns-in-Stored c =
    let e = sym c.in_ok-frame.ensures ∙ ap (λ f. meant (Some f)) c.in-Stored.is in
    let t = c.take_stored.ensures in
    (t.0, λ j h. next_as _ _ _ _ j _ _ _ e (t.1 _ j h))

pub returns-in-Side : goal.returns-in-Side
returns-in-Side c =
    let e = sym c.in_ok-frame.ensures ∙ ap (λ f. meant (Some f)) c.in-Side.is in
    let t = c.take_side.ensures in
    (t.0, λ j h. next_as _ _ _ _ j _ _ _ e (t.1 _ _ _ j h))

pub returns-in-End : goal.returns-in-End
returns-in-End c =
    let e = sym c.in_ok-frame.ensures ∙ ap (λ f. meant (Some f)) c.in-End.is in
    let t = c.take_end.ensures in
    (t.0, λ j h. next_as _ _ _ _ j _ _ _ e (t.1 _ _ _ j h))
