use Rattle.tree.proofs.Steps.{row_begin, walk_asks, row_step, row_over}
use Rattle.tree.proofs.row.Goals as goal

pub loop-p-init : goal.loop-p-init
loop-p-init c = let q = c.requires in row_begin _ _ _ _ q.k_lt_n c.args.matrix.now.valid _ _ _ q.before

pub walk-requires : goal.walk-requires
walk-requires c = let q = c.requires in let rest' = walk_asks _ _ _ _ q.k_lt_n c.args.matrix.now.valid _ _ _ _ c.loop-p.invariant c.loop-p-test.true in record { k_lt_n = q.k_lt_n; i_le_k = rest'.0; fill = rest'.1.0; next = rest'.1.1 }

pub loop-p-preserved : goal.loop-p-preserved
loop-p-preserved c = let q = c.requires in row_step _ _ _ _ q.k_lt_n c.args.matrix.now.valid _ _ _ _ c.loop-p.invariant c.loop-p-test.true _ _ _ c.walk.ensures.between c.walk.ensures.kept c.walk.ensures.met

pub returns : goal.returns
returns c = let q = c.requires in row_over _ _ _ _ q.k_lt_n c.args.matrix.now.valid _ _ _ _ c.loop-p.invariant c.loop-p-test.false
