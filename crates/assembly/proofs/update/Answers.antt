use mathlib.Core.Path.{refl, ◌∙◌}
use native.Mathlib.Omega.{arith}
use Rattle.assembly.proofs.Takes as takes
use Rattle.assembly.proofs.update.Goals as goal

-- where it begins, and where the does
pub loop-q-init : goal.loop-q-init
loop-q-init c =
    let s = c.before.before.before.before in
    (omega arith, omega (arith, s.requires.ordered), refl, takes.upto_none _ _ _ _ _ _ _ _ _ _ _ _ _ s.requires _)

pub update_column-requires : goal.update_column-requires
update_column-requires c =
    let t = c.before.before in
    let l = t.loop-q in
    takes.target _ _ _ _ _ _ _ _ _ _ _ _ _ t.requires l.q _ l.invariant.2 _ l.invariant.3.size l.invariant.0 t.loop-q-test.true

pub loop-q-preserved : goal.loop-q-preserved
loop-q-preserved c =
    let t = c in
    let l = t.loop-q in
    let u = c.update_column in (
      omega (arith, l.invariant.0),
      omega (arith, t.loop-q-test.true),
      u.auto.work ∙ l.invariant.2,
      takes.upto_more _ _ _ _ _ _ _ _ _ _ _ _ _ t.requires _ _ _ l.q l.invariant.0 t.loop-q-test.true l.invariant.3 u.ensures,
    )

pub shape_of-values : goal.shape_of-values
shape_of-values c = c.loop-q.invariant.3.size

pub shape_of-work : goal.shape_of-work
shape_of-work c = c.loop-q.invariant.2

pub returns : goal.returns
returns c =
    let l = c.loop-q in
    takes.upto_all _ _ _ _ _ _ _ _ _ _ _ _ _ c.requires _ _ l.q l.invariant.3 l.invariant.1 c.loop-q-test.false
