-- `lines::put_fields` meets its contract: each field follows the ones before it. Assumes nothing.
use mathlib.Core.Path.{◌∙◌}
use mathlib.Core.List.{◌++◌}
use native.Mathlib.Omega.{arith}
use Rattle.statement.specs.Job.{hex}
use Rattle.lines.proofs.Written.{hex_length, long, placed_more, placed_end}
use Rattle.lines.proofs.put_fields.Goals as goal

pub returns : goal.returns
returns c =
    let a = c.args in
    let d = a.out.now in
    let h1 = c.put_hex.ensures in
    let n1 = hex_length 2 0x8f in
    let h2 = placed_more d _ _ (hex 2 0x8f) (hex 2 a.number) 0 2 h1 (omega arith) (omega (arith, c.requires)) c.put_hex-2.ensures in
    let n2 = long (hex 2 0x8f) 2 2 a.number n1 in
    let h3 = placed_more d _ _ (hex 2 0x8f ++ hex 2 a.number) (hex 8 a.first) 0 4 h2 (omega arith) (omega (arith, c.requires)) c.put_hex-3.ensures in
    let n3 = long (hex 2 0x8f ++ hex 2 a.number) 4 8 a.first n2 in
    let h4 = placed_more d _ _ (hex 2 0x8f ++ hex 2 a.number ++ hex 8 a.first) (hex 8 a.second) 0 12 h3 (omega arith) (omega (arith, c.requires)) c.put_hex-4.ensures in
    let n4 = long (hex 2 0x8f ++ hex 2 a.number ++ hex 8 a.first) 12 8 a.second n3 in
    let l = c.put_hex-4.auto.out ∙ c.put_hex-3.auto.out ∙ c.put_hex-2.auto.out ∙ c.put_hex.auto.out in
    placed_end d _ (hex 2 0x8f ++ hex 2 a.number ++ hex 8 a.first ++ hex 8 a.second) 0 20 10 h4 (omega arith) (omega (arith, c.requires)) l
