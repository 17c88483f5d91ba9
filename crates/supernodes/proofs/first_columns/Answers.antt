use Prim.Native.Nat.{◌+◌, ◌≤◌}
use Rattle.areas.proofs.Front.{front_start, front_more, front_over}
use Rattle.supernodes.proofs.Nodes.{Listing, listing_start, listing_take, listing_skip, listing_over, listed, listed_one}
use Rattle.supernodes.specs.Found.{begins_in}
use mathlib.Core.Path.{refl, sym, ◌∙◌}
use native.Mathlib.Omega.{arith}
use Rattle.supernodes.proofs.first_columns.Goals.{then-begins, else-begins}
use Rattle.supernodes.proofs.first_columns.Goals as goal

pub loop-j-init : goal.loop-j-init
loop-j-init c = let q = c.requires.n_in_bounds in (listing_start _ _ _ q.0, front_start _ _ _ q.1)

pub overflow_sub-owner : goal.overflow_sub-owner
unfolding begins_in
overflow_sub-owner c =
    let next : let a = c.args in
    Listing (begins_in a.parents.now a.counts.now a.n) a.n a.first.now c.if-begins.first c.if-begins.m (c.loop-j.j + 1) = elim c.if-begins.branch [
      | then-begins w ↦ rw (w.first-is, w.m-is) (listing_take c.loop-j.invariant.0 c.loop-j-test.true (sym w.if-begins.true ∙ c.begins.ensures))
      | else-begins w ↦ rw (w.first-is, w.m-is) (listing_skip c.loop-j.invariant.0 c.loop-j-test.true (sym w.if-begins.false ∙ c.begins.ensures))
    ] in
    let some : 1 ≤ c.if-begins.m = listed_one _ (next) refl in omega (arith, some)

pub loop-j-preserved : goal.loop-j-preserved
loop-j-preserved c =
    let next : let a = c.args in
    Listing (begins_in a.parents.now a.counts.now a.n) a.n a.first.now c.if-begins.first c.if-begins.m (c.loop-j.j + 1) = elim c.if-begins.branch [
      | then-begins w ↦ rw (w.first-is, w.m-is) (listing_take c.loop-j.invariant.0 c.loop-j-test.true (sym w.if-begins.true ∙ c.begins.ensures))
      | else-begins w ↦ rw (w.first-is, w.m-is) (listing_skip c.loop-j.invariant.0 c.loop-j-test.true (sym w.if-begins.false ∙ c.begins.ensures))
    ] in (next, front_more c.loop-j.invariant.1 c.loop-j-test.true (listed _ (next)))

pub returns : goal.returns
returns c = let o = listing_over c.loop-j.invariant.0 c.loop-j-test.false in record { value = o.0; first_after = o.1; owner_after = front_over c.loop-j.invariant.1 c.loop-j-test.false }
