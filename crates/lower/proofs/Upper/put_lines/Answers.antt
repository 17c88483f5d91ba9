use Rattle.lower.proofs.Passes.{put_begin}
use Rattle.lower.proofs.Total.{total}
use Rattle.std.proofs.Common.{arith}
use Rattle.lower.proofs.Upper.put_lines.Goals as goal

pub loop-r-init : goal.loop-r-init
loop-r-init c = let t = total _ _ _ c.args.self.now.sited.formed in (put_begin _ _ _ _ _ _ _ c.requires.holds (omega (arith, t)) (omega (arith, t)), omega arith)
