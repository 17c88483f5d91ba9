use mathlib.Core.Path.{◌≡◌, sym, ap, ◌∙◌}
use Prim.Native.Nat.{suc, ◌-◌}
use native.Mathlib.Omega.{arith}
use lib.ListN.{get_or}
use Rattle.statement.specs.Shape.{offset}
use Rattle.statement.specs.Solve.{backward}
use Rattle.solving.specs.Shown.{shape_of}
use Rattle.solving.proofs.backward.Goals as goal

pub loop-k-init : goal.loop-k-init
loop-k-init c =
    let f = c.args.factor.now in
    record { end = f.valid.sized; size = c.requires; left = ap (backward (shape_of f) f.values.now c.args.x.now) (sym f.valid.walked.walk.framed.ends) }

pub backward_supernode-end-requires : goal.backward_supernode-end-requires
backward_supernode-end-requires c =
    let e : c.loop-k.k ≡ suc (c.loop-k.k - 1) = omega arith in
    record { k_in_bounds = omega arith; end_value = c.loop-k.invariant.end ∙ ap (offset (shape_of c.args.factor.now)) e; x_len = c.loop-k.invariant.size }

pub loop-k-preserved : goal.loop-k-preserved
loop-k-preserved c =
    let f = c.args.factor.now in
    let i = c.loop-k.invariant in
    let s = c.backward_supernode-end in
    let e : c.loop-k.k ≡ suc (c.loop-k.k - 1) = omega arith in
    record { end = s.ensures.value; size = s.auto.x ∙ i.size; left = i.left ∙ ap (λ k. backward (shape_of f) f.values.now c.loop-k.x (get_or f.firsts.now k 0)) e ∙ s.ensures.k_value }

pub shape_of-x : goal.shape_of-x
shape_of-x c = c.loop-k.invariant.size ∙ sym c.requires

pub returns : goal.returns
unfolding backward
returns c =
    let f = c.args.factor.now in
    let e : c.loop-k.k ≡ 0 = omega arith in
    sym (c.loop-k.invariant.left ∙ ap (backward (shape_of f) f.values.now c.loop-k.x) (ap (λ i. get_or f.firsts.now i 0) e ∙ f.valid.walked.walk.framed.from))
