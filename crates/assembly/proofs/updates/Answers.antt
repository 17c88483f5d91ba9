use mathlib.Core.Path.{refl, ◌∙◌}
use native.Mathlib.Omega.{arith}
use native.Mathlib.Nat.{le_refl}
use Rattle.views.specs.Shown.{shape_of}
use Rattle.assembly.proofs.Gather as gather
use Rattle.assembly.proofs.Earlies as early
use Rattle.assembly.proofs.updates.Goals as goal

pub loop-u-init : goal.loop-u-init
loop-u-init c =
    let args' = c.args in
    let pre' = c.requires in
    let S = shape_of args'.structure.now in
    let o = pre'.own in
    (omega arith, refl, early.start S pre'.rows args'.j (le_refl _) args'.place.now o.placed o.places _ _ pre'.listed.0 _)

pub one_update-requires : goal.one_update-requires
one_update-requires c =
    let pre' = c.requires in
    let loop' = c.loop-u in
    let loop-test' = c.loop-u-test in record { rows = pre'.rows; listed = pre'.listed; offsets = pre'.offsets; own = gather.own_as _ _ _ _ _ _ _ _ _ _ loop'.invariant.2.size loop'.invariant.1 pre'.own; u_lt_count = loop-test'.true }

pub loop-u-preserved : goal.loop-u-preserved
loop-u-preserved c =
    let args' = c.args in
    let pre' = c.requires in
    let loop' = c.loop-u in
    let loop-test' = c.loop-u-test in
    let one-update' = c.one_update in
    let S = shape_of args'.structure.now in
    let o = pre'.own in (
      omega (arith, loop-test'.true),
      one-update'.auto.work ∙ loop'.invariant.1,
      early.further S pre'.rows args'.j (le_refl _) args'.place.now o.placed o.places _ _ pre'.listed.0 _ _ _ loop'.u loop-test'.true loop'.invariant.2 one-update'.ensures,
    )

pub shape_of-values : goal.shape_of-values
shape_of-values c =
    let loop' = c.loop-u in
    loop'.invariant.2.size

pub shape_of-work : goal.shape_of-work
shape_of-work c =
    let loop' = c.loop-u in
    loop'.invariant.1

pub returns : goal.returns
returns c =
    let args' = c.args in
    let pre' = c.requires in
    let loop' = c.loop-u in
    let loop-test' = c.loop-u-test in
    let S = shape_of args'.structure.now in
    let o = pre'.own in
    early.all S pre'.rows args'.j (le_refl _) args'.place.now o.placed o.places _ _ pre'.listed.0 _ _ loop'.u loop'.invariant.0 loop-test'.false loop'.invariant.2
