-- `frames::take_begin` meets its contract: by the test. Assumes nothing.
use Rattle.std.proofs.Common.{sym, arith}
use Rattle.frames.proofs.Taken.{begin_yes, begin_no}
use Rattle.frames.proofs.Forms.{begin_says}
use Rattle.frames.proofs.take_begin.Goals as goal

pub returns-then-not-begin_ok : goal.returns-then-not-begin_ok
returns-then-not-begin_ok c = let a = c.args in (tt, λ st ro va ri j h. begin_no a.p st ro va ri j h a.n a.cap (sym c.if-not-begin_ok.ensures))

pub returns : goal.returns
returns c =
    let a = c.args in
    let e = sym c.if-not-begin_ok.ensures in
    rw c.unbegun.ensures (record { n = (begin_says _ a.n e).1; known = omega arith }, λ st ro va ri j h. begin_yes a.p st ro va ri j h a.n a.cap e)
