use Rattle.postorder.proofs.Forest.{size_step, size_fits, size_start}
use lib.ListN.{length, length-set, length-replicate}
use mathlib.Core.Path.{ap, ◌∙◌}
use native.Mathlib.Omega.{arith}
use Rattle.postorder.proofs.sizes.Goals as goal

pub loop-j-init : goal.loop-j-init
loop-j-init c = let f = c.fill.ensures.after (λ y e. e) in (omega arith, ap length f ∙ length-replicate _ _ ∙ c.requires.size_len, f ∙ size_start c.args.parents.now c.requires.size_len)

pub overflow_add-size : goal.overflow_add-size
overflow_add-size c = omega (arith, size_fits _ _ c.requires.tree _ _ c.loop-j.invariant.2 c.loop-j-test.true)

pub loop-j-preserved : goal.loop-j-preserved
loop-j-preserved c = (omega arith, simp length-set (omega arith), size_step _ _ c.requires.tree _ _ c.loop-j.invariant.2 c.loop-j-test.true)
