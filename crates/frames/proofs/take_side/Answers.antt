-- `frames::take_side` meets its contract: by the test. Assumes nothing.
use Rattle.std.proofs.Common.{sym}
use Rattle.frames.proofs.Taken.{side_yes, side_no}
use Rattle.frames.proofs.take_side.Goals as goal

pub returns-then-not-side_ok : goal.returns-then-not-side_ok
returns-then-not-side_ok c = let a = c.args in (tt, λ st ro va j h. side_no a.p st ro va a.right.now j h a.position a.bits (sym c.if-not-side_ok.ensures))

pub returns : goal.returns
returns c =
    let a = c.args in (
      record { n = c.requires.0.n; known = c.requires.0.known },
      λ st ro va j h. side_yes a.p st ro va a.right.now j h a.position a.bits c.to_float.result (sym c.if-not-side_ok.ensures) c.requires.0.n c.requires.1 c.to_float.ensures,
    )
