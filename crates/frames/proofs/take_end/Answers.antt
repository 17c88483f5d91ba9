-- `frames::take_end` meets its contract: by the test. Assumes nothing.
use Rattle.std.proofs.Common.{sym, arith}
use Rattle.frames.proofs.Taken.{end_yes, end_no}
use Rattle.frames.proofs.Pad.{run_filled}
use Rattle.frames.proofs.take_end.Goals as goal

pub returns-then-not-end_ok : goal.returns-then-not-end_ok
returns-then-not-end_ok c = let a = c.args in (tt, λ ro va ri j h. end_no a.p a.starts.now ro va ri j h (sym c.if-not-end_ok.ensures))

pub returns : goal.returns
returns c =
    let a = c.args in
    let e = sym c.if-not-end_ok.ensures in
    let f = run_filled a.p.count a.starts.now _ a.p.known.0 a.p.n c.requires.0.known (omega (arith, c.requires.0.n, c.requires.1)) (c.fill.ensures.after (λ y z. z)) in
    (record { n = c.requires.0.n; known = omega arith }, λ ro va ri j h. end_yes a.p a.starts.now ro va ri j h _ e c.requires.0.n c.requires.0.known c.requires.1 f)
