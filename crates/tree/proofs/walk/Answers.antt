use Rattle.tree.proofs.Steps.{stepped, rises, over, count_fits}
use mathlib.Core.Logic.{inl}
use mathlib.Core.Path.{refl}
use native.Mathlib.Omega.{arith}
use Rattle.tree.proofs.walk.Goals as goal

pub loop-marks-init : goal.loop-marks-init
loop-marks-init c = let q = c.requires in record { next = q.next; fill = q.fill; to = q.i_le_k; keep = λ j t. t; hit = inl refl }

pub visit-requires : goal.visit-requires
visit-requires c = omega (arith, count_fits _ _ _ _ _ c.requires.k_lt_n _ _ _ _ _ c.loop-marks.invariant)

pub loop-marks-smaller : goal.loop-marks-smaller
loop-marks-smaller c = rises _ _ _ _ _ c.requires.k_lt_n _ _ _ _ _ c.loop-marks.invariant c.loop-marks-test.true _ _ _ c.visit.ensures.parents_after c.visit.ensures.counts_after c.visit.ensures.marks_after

pub loop-marks-preserved : goal.loop-marks-preserved
loop-marks-preserved c = stepped _ _ _ _ _ c.requires.k_lt_n _ _ _ _ _ c.loop-marks.invariant c.loop-marks-test.true _ _ _ c.visit.ensures.parents_after c.visit.ensures.counts_after c.visit.ensures.marks_after

pub returns : goal.returns
returns c = let rest' = over _ _ _ _ _ c.requires.k_lt_n _ _ _ _ _ c.loop-marks.invariant c.loop-marks-test.false in record { between = rest'.0; kept = rest'.1.0; met = rest'.1.1 }
