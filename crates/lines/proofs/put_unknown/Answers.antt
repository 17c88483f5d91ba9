-- `lines::put_unknown` meets its contract: each field follows the ones before it. Assumes nothing.
use mathlib.Core.Path.{◌∙◌}
use mathlib.Core.List.{◌++◌}
use Prim.Native.Nat.{◌+◌}
use native.Mathlib.Omega.{arith}
use lib.Ieee.{to_bits, binary64}
use Rattle.statement.specs.Job.{hex}
use Rattle.lines.proofs.Written.{hex_length, long, placed_more, placed_end, placed_as}
use Rattle.lines.proofs.put_unknown.Goals as goal

pub returns : goal.returns
returns c =
    let a = c.args in
    let d = a.out.now in
    let h1 = c.put_hex.ensures in
    let n1 = hex_length 2 0x82 in
    let h2 = placed_more d _ _ (hex 2 0x82) (hex 4 a.position.0) a.at (a.at + 2) h1 (omega arith) (omega (arith, c.requires)) c.put_hex-2.ensures in
    let n2 = long (hex 2 0x82) 2 4 a.position.0 n1 in
    let h3 = placed_more d _ _ (hex 2 0x82 ++ hex 4 a.position.0) (hex 16 (to_bits binary64 a.x)) a.at (a.at + 6) h2 (omega arith) (omega (arith, c.requires)) (placed_as _ _ _ _ _ _ c.put_hex-3.ensures c.bits_of.ensures) in
    let n3 = long (hex 2 0x82 ++ hex 4 a.position.0) 6 16 (to_bits binary64 a.x) n2 in
    let l = c.put_hex-3.auto.out ∙ c.put_hex-2.auto.out ∙ c.put_hex.auto.out in
    placed_end d _ (hex 2 0x82 ++ hex 4 a.position.0 ++ hex 16 (to_bits binary64 a.x)) a.at (a.at + 22) 10 h3 (omega arith) (omega (arith, c.requires)) l
