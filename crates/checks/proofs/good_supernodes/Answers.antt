use mathlib.Core.Path.{refl, sym, ◌∙◌}
use native.Mathlib.Numerals.{add-one}
use native.Mathlib.Omega.{arith}
use Rattle.laws.proofs.Every.{tested_start, tested_more, tested_stop, tested_over}
use Rattle.laws.proofs.Walked.{node}
use Rattle.checks.proofs.good_supernodes.Goals as goal

pub loop-k-init : goal.loop-k-init
loop-k-init c = tested_start _ _

pub overflow_sub-w : goal.overflow_sub-w
overflow_sub-w c =
    let pre' = c.requires in
    let loop' = c.loop-k in
    omega (arith, (node _ (pre') loop'.k (omega arith)).right)

pub offset_bounds-structure-s : goal.offset_bounds-structure-s
offset_bounds-structure-s c =
    let pre' = c.requires in
    let loop' = c.loop-k in
    omega (arith, (node _ (pre') loop'.k (omega arith)).inside, (node _ (pre') loop'.k (omega arith)).down)

pub slice_bounds-good_supernode-count : goal.slice_bounds-good_supernode-count
slice_bounds-good_supernode-count c =
    let pre' = c.requires in
    let loop' = c.loop-k in
    omega (arith, (node _ (pre') loop'.k (omega arith)).down)

pub slice_bounds-good_supernode-start : goal.slice_bounds-good_supernode-start
slice_bounds-good_supernode-start c =
    let pre' = c.requires in
    let loop' = c.loop-k in
    omega (arith, (node _ (pre') loop'.k (omega arith)).down)

pub slice_bounds-good_supernode-end : goal.slice_bounds-good_supernode-end
slice_bounds-good_supernode-end c =
    let pre' = c.requires in
    let loop' = c.loop-k in
    omega (arith, (node _ (pre') loop'.k (omega arith)).inside)

pub good_supernode-requires : goal.good_supernode-requires
good_supernode-requires c = let n = node _ c.requires c.loop-k.k (omega arith) in let h = c.type_inv.structure in omega (arith, n.right, n.cols, h.0)

pub returns-then-not-good_supernode : goal.returns-then-not-good_supernode
returns-then-not-good_supernode c =
    let loop' = c.loop-k in
    let good-supernode' = c.good_supernode in
    let pre' = c.requires in
    let if1' = c.if-not-good_supernode in
    tested_stop loop'.invariant (omega arith) (sym (good-supernode'.ensures _ loop'.k (node _ (pre') loop'.k (omega arith)).part refl (rw (add-one loop'.k)) refl) ∙ if1'.true)

pub loop-k-preserved : goal.loop-k-preserved
loop-k-preserved c =
    let loop' = c.loop-k in
    let good-supernode' = c.good_supernode in
    let pre' = c.requires in
    let if1' = c.if-not-good_supernode in
    tested_more loop'.invariant (omega arith) (sym (good-supernode'.ensures _ loop'.k (node _ (pre') loop'.k (omega arith)).part refl (rw (add-one loop'.k)) refl) ∙ if1'.false)

pub returns : goal.returns
returns c =
    let loop' = c.loop-k in
    tested_over loop'.invariant (omega arith)
