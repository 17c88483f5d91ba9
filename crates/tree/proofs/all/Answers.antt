use Rattle.tree.proofs.Steps.{pass_begin, pass_over}
use lib.ListN.{replicate}
use mathlib.Core.Path.{◌∙◌, ap}
use native.Mathlib.Numerals.{add-one}
use native.Mathlib.Omega.{arith}
use Rattle.tree.proofs.all.Goals as goal

pub loop-k-init : goal.loop-k-init
loop-k-init c = let q = c.requires in (omega arith, omega arith, pass_begin _ _ _ c.args.matrix.now.valid (c.fill.ensures.after (λ y e. e)) (c.fill-2.ensures.after (λ y e. e)) (c.fill-3.ensures.after (λ y e. e)) q.parents_len.0 q.parents_len.1 q.parents_len.2)

pub row-requires : goal.row-requires
row-requires c = record { k_lt_n = c.loop-k-test.true; before = c.loop-k.invariant.2 }

pub loop-k-preserved : goal.loop-k-preserved
loop-k-preserved c = let r = c.row.ensures in (omega arith, omega (arith, r.1), rw add-one r)

pub returns : goal.returns
returns c = let l = c.loop-k in let a = c.args in let o = pass_over a.matrix.now.starts.now a.matrix.now.rows.now _ _ _ _ _ l.invariant.2 (omega arith) in record { parents_after = o.0; counts_after = o.1; marks_after = c.fill-4.ensures.after (λ y e. e) ∙ ap (λ x. replicate x 0) l.invariant.1 }
