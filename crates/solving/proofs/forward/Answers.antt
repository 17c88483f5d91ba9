use mathlib.Core.Path.{◌≡◌, refl, sym, ap, ◌∙◌}
use Prim.Native.Nat.{◌-◌}
use native.Mathlib.Numerals.{add-one}
use native.Mathlib.Omega.{arith}
use lib.ListN.{length, get_or}
use Rattle.statement.specs.Shape.{offset}
use Rattle.statement.specs.Solve.{forward}
use Rattle.solving.specs.Shown.{shape_of}
use Rattle.solving.proofs.forward.Goals as goal

pub loop-k-init : goal.loop-k-init
unfolding offset forward
loop-k-init c =
    let f = c.args.factor.now in
    record { off = refl; size = c.requires; done = sym (ap (forward (shape_of f) f.values.now c.args.x.now) f.valid.walked.walk.framed.from) }

pub forward_supernode-off-requires : goal.forward_supernode-off-requires
forward_supernode-off-requires c = record { k_in_bounds = c.loop-k-test.true; off_value = c.loop-k.invariant.off; x_len = c.loop-k.invariant.size }

pub loop-k-preserved : goal.loop-k-preserved
loop-k-preserved c =
    let s = c.forward_supernode-off in
    let i = c.loop-k.invariant in
    record { off = rw add-one s.ensures.value; size = s.auto.x ∙ i.size; done = rw add-one (s.ensures.x_after c.args.x.now i.done) }

pub shape_of-x : goal.shape_of-x
shape_of-x c = c.loop-k.invariant.size ∙ sym c.requires

pub returns : goal.returns
returns c =
    let f = c.args.factor.now in
    let e : c.loop-k.k ≡ length f.firsts.now - 1 = omega arith in
    c.loop-k.invariant.done ∙ ap (forward (shape_of f) f.values.now c.args.x.now) (ap (λ i. get_or f.firsts.now i 0) e ∙ f.valid.walked.walk.framed.ends)
