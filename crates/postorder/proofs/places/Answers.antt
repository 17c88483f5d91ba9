use Rattle.postorder.proofs.Forest.{place_begin, place_room, place_more, place_over}
use native.Mathlib.Nat.{le_refl}
use native.Mathlib.Omega.{arith}
use Rattle.postorder.proofs.places.Goals as goal

pub loop-j-init : goal.loop-j-init
loop-j-init c = let q = c.requires in (q.tree, le_refl _, place_begin _ _ q.tree (c.fill.ensures.after (λ y e. e)) (c.fill-2.ensures.after (λ y e. e)) q.size_len.1 q.size_len.2)

pub overflow_sub-ends : goal.overflow_sub-ends
overflow_sub-ends c = let x = c.loop-j.invariant in omega (arith, place_room _ _ x.0 _ c.requires.size_value _ c.loop-j-test.true x.1 _ _ x.2)

pub overflow_sub-ends-in-loop-j : goal.overflow_sub-ends-in-loop-j
overflow_sub-ends-in-loop-j c = let x = c.loop-j.invariant in omega (arith, place_room _ _ x.0 _ c.requires.size_value _ c.loop-j-test.true x.1 _ _ x.2)

pub overflow_sub-place : goal.overflow_sub-place
overflow_sub-place c = let x = c.loop-j.invariant in omega (arith, place_room _ _ x.0 _ c.requires.size_value _ c.loop-j-test.true x.1 _ _ x.2)

pub loop-j-preserved : goal.loop-j-preserved
loop-j-preserved c = let x = c.loop-j.invariant in (x.0, omega arith, place_more _ _ x.0 _ c.requires.size_value _ c.loop-j-test.true x.1 _ _ x.2)

pub returns : goal.returns
returns c = let x = c.loop-j.invariant in place_over _ _ x.0 _ _ _ (omega arith) x.2
