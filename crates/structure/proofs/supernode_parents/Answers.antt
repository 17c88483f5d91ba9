use Rattle.structure.proofs.Begun.{last_at, parent_most, above_at, parents_over}
use mathlib.Core.Path.{◌∙◌}
use Rattle.areas.proofs.Front.{front_start, front_more}
use native.Mathlib.Omega.{arith}
use Rattle.structure.proofs.supernode_parents.Goals as goal

pub loop-k-init : goal.loop-k-init
loop-k-init c = front_start _ _ _ c.requires.room

pub overflow_sub-last : goal.overflow_sub-last
overflow_sub-last c = omega (arith, last_at _ _ _ _ _ c.args.supernodes.now.known _ c.loop-k-test.true)

pub offset_bounds-parents-last : goal.offset_bounds-parents-last
offset_bounds-parents-last c = omega (arith, last_at _ _ _ _ _ c.args.supernodes.now.known _ c.loop-k-test.true, c.requires.parented.fits)

pub bounds-parents-last : goal.bounds-parents-last
bounds-parents-last c = omega (arith, last_at _ _ _ _ _ c.args.supernodes.now.known _ c.loop-k-test.true, c.requires.parented.fits)

pub owner_or-requires : goal.owner_or-requires
owner_or-requires c = let q = c.requires in (parent_most _ _ _ _ _ c.args.supernodes.now.known _ c.loop-k-test.true _ _ q.parented q.owned, q.owned.fits)

pub loop-k-preserved : goal.loop-k-preserved
loop-k-preserved c = let q = c.requires in front_more c.loop-k.invariant c.loop-k-test.true (c.owner_or.ensures ∙ above_at _ _ _ _ _ c.args.supernodes.now.known _ c.loop-k-test.true _ _ q.parented q.owned)

pub returns : goal.returns
returns c = parents_over _ _ _ _ _ c.args.supernodes.now.known c.loop-k.invariant c.loop-k-test.false
