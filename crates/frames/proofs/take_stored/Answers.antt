-- `frames::take_stored` meets its contract: by the test. Assumes nothing.
use Rattle.std.proofs.Common.{sym, arith}
use Rattle.frames.proofs.Taken.{stored_yes, stored_no}
use Rattle.frames.proofs.Pad.{run_filled}
use Rattle.frames.proofs.Forms.{stored_says}
use Rattle.frames.specs.Held.{rank}
use Rattle.frames.proofs.take_stored.Goals as goal

pub returns-then-not-stored_ok : goal.returns-then-not-stored_ok
returns-then-not-stored_ok c = let a = c.args in (tt, λ ri j h. stored_no a.p a.starts.now a.rows.now a.values.now ri j h a.column a.row a.bits (sym c.if-not-stored_ok.ensures))

pub returns : goal.returns
returns c =
    let a = c.args in
    let e = sym c.if-not-stored_ok.ensures in
    let u = stored_says (rank a.p.phase) a.p.n a.p.known a.p.count a.column e in
    let f = run_filled a.p.count a.starts.now _ a.p.known.0 a.column.0 u.rises (omega (arith, u.inside, c.requires.0.n, c.requires.1)) (c.fill.ensures.after (λ y z. z)) in (
      record { n = c.requires.0.n; known = omega (arith, u.inside) },
      λ ri j h. stored_yes a.p a.starts.now a.rows.now a.values.now ri j h a.column a.row a.bits c.to_float.result _ e c.requires.0.n c.requires.1 c.requires.2 c.requires.3 f c.to_float.ensures,
    )
