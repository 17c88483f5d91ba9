use Prim.Native.Nat.{◌≤◌}
use Rattle.supernodes.proofs.Nodes.{kids_begin, kids_fits, kids_step}
use lib.ListN.{length, get_or, length-set, length-replicate}
use mathlib.Core.Path.{ap, ◌∙◌}
use native.Mathlib.Omega.{arith}
use Rattle.supernodes.proofs.children.Goals as goal

pub loop-j-init : goal.loop-j-init
loop-j-init c = let f = c.fill.ensures.after (λ y e. e) in let q = c.requires.parents_len.1 in (omega arith, ap length f ∙ length-replicate _ _ ∙ q, f ∙ kids_begin c.args.parents.now _ _ q)

pub overflow_add-kids : goal.overflow_add-kids
overflow_add-kids c =
    let p-to : get_or c.args.parents.now c.loop-j.j 0 ≤ c.args.n = c.requires.by_index _ c.loop-j-test.true in omega (arith, kids_fits c.args.parents.now _ _ _ c.loop-j.invariant.2 (p-to))

pub loop-j-preserved : goal.loop-j-preserved
loop-j-preserved c =
    let p-to : get_or c.args.parents.now c.loop-j.j 0 ≤ c.args.n = c.requires.by_index _ c.loop-j-test.true in (omega arith, simp length-set (omega arith), kids_step c.args.parents.now _ _ _ c.loop-j.invariant.2 (p-to))
