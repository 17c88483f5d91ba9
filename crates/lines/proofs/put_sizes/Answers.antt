-- `lines::put_sizes` meets its contract: each field follows the ones before it. Assumes nothing.
use mathlib.Core.Path.{◌∙◌}
use mathlib.Core.List.{◌++◌}
use native.Mathlib.Omega.{arith}
use Rattle.statement.specs.Job.{hex}
use Rattle.lines.proofs.Written.{hex_length, long, placed_more, placed_end}
use Rattle.lines.proofs.put_sizes.Goals as goal

pub returns : goal.returns
returns c =
    let a = c.args in
    let d = a.out.now in
    let h1 = c.put_hex.ensures in
    let n1 = hex_length 2 0x81 in
    let h2 = placed_more d _ _ (hex 2 0x81) (hex 8 a.entries) (0) (2) h1 (omega arith) (omega (arith, c.requires)) c.put_hex-2.ensures in
    let n2 = long (hex 2 0x81) 2 8 a.entries n1 in
    let h3 = placed_more d _ _ (hex 2 0x81 ++ hex 8 a.entries) (hex 4 a.supernodes) (0) (10) h2 (omega arith) (omega (arith, c.requires)) c.put_hex-3.ensures in
    let n3 = long (hex 2 0x81 ++ hex 8 a.entries) 10 4 a.supernodes n2 in
    let l = c.put_hex-3.auto.out ∙ c.put_hex-2.auto.out ∙ c.put_hex.auto.out in
    placed_end d _ (hex 2 0x81 ++ hex 8 a.entries ++ hex 4 a.supernodes) (0) (14) 10 h3 (omega arith) (omega (arith, c.requires)) l
