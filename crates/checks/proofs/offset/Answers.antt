use mathlib.Core.Path.{◌≡◌, refl}
use Prim.Native.Nat.{◌+◌, ◌-◌}
use native.Mathlib.Omega.{arith}
use lib.ListN.{get_or}
use Rattle.statement.specs.Shape.{offset}
use Rattle.laws.proofs.Walked.{whole}
use Rattle.checks.proofs.Parts.{trapezoid_bound}
use Rattle.checks.proofs.offset.Goals as goal

pub loop-j-init : goal.loop-j-init
unfolding offset
loop-j-init c = (omega arith, refl, omega arith)

pub overflow_sub-w : goal.overflow_sub-w
overflow_sub-w c =
    let pre' = c.requires in
    let loop' = c.loop-j in
    omega (arith, (whole _ c.args.walked.now.valid loop'.j (omega arith)).node.right)

pub overflow_sub-m : goal.overflow_sub-m
overflow_sub-m c =
    let pre' = c.requires in
    let loop' = c.loop-j in
    omega (arith, (whole _ c.args.walked.now.valid loop'.j (omega arith)).node.down)

pub column_start-sum-requires : goal.column_start-sum-requires
column_start-sum-requires c =
    let pre' = c.requires in
    let loop' = c.loop-j in
    let p = whole _ c.args.walked.now.valid loop'.j (omega arith) in
    (p.wide, omega (arith, p.few, pre'.0))

pub overflow_add-sum : goal.overflow_add-sum
overflow_add-sum c =
    let pre' = c.requires in
    let loop' = c.loop-j in
    let args' = c.args in
    let p = whole _ c.args.walked.now.valid loop'.j (omega arith) in
    let m = get_or args'.walked.now.starts.now (loop'.j + 1) 0 - get_or args'.walked.now.starts.now loop'.j 0 in
    let w = get_or args'.walked.now.firsts.now (loop'.j + 1) 0 - get_or args'.walked.now.firsts.now loop'.j 0 in
    omega (arith, trapezoid_bound m w (omega (arith, p.few, pre'.0)), p.node.right, p.node.cols, pre'.0)

pub loop-j-preserved : goal.loop-j-preserved
loop-j-preserved c =
    let pre' = c.requires in
    let loop' = c.loop-j in
    let args' = c.args in
    let p = whole _ c.args.walked.now.valid loop'.j (omega arith) in
    let m = get_or args'.walked.now.starts.now (loop'.j + 1) 0 - get_or args'.walked.now.starts.now loop'.j 0 in
    let w = get_or args'.walked.now.firsts.now (loop'.j + 1) 0 - get_or args'.walked.now.firsts.now loop'.j 0 in
    (omega arith, omega (arith, p.node.next), omega (arith, trapezoid_bound m w (omega (arith, p.few, pre'.0)), p.node.right, p.node.cols, pre'.0))

pub returns : goal.returns
returns c =
    let loop' = c.loop-j in
    let args' = c.args in
    let e : loop'.j ≡ args'.k = omega arith in
    rw e at loop'.invariant.1
