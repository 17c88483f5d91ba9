use mathlib.Core.Path.{◌≡◌, sym, ◌∙◌}
use Prim.Native.Nat.{◌+◌, ◌-◌, ◌*◌}
use native.Mathlib.Omega.{arith}
use lib.ListN.{length-take, length-drop}
use Rattle.sides.proofs.Each.{each_start, each_long, each_room, each_more, each_over}
use Rattle.sides.proofs.solve_each.Goals as goal

pub loop-j-init : goal.loop-j-init
loop-j-init c = record { unknowns = c.requires.x_len; done = each_start _ _ _ _ _ _ }

pub overflow_mul-at : goal.overflow_mul-at
overflow_mul-at c = let r = each_room _ _ _ _ _ _ c.requires.sides_le_sides_limit.1 c.loop-j.invariant.done (omega arith) in omega (arith, r.1)

pub overflow_add-at : goal.overflow_add-at
overflow_add-at c = let r = each_room _ _ _ _ _ _ c.requires.sides_le_sides_limit.1 c.loop-j.invariant.done (omega arith) in omega (arith, r.1)

pub offset_bounds-b-at : goal.offset_bounds-b-at
offset_bounds-b-at c = let r = each_room _ _ _ _ _ _ c.requires.sides_le_sides_limit.1 c.loop-j.invariant.done (omega arith) in omega (arith, r.1)

pub slice_bounds-solve_one-end : goal.slice_bounds-solve_one-end
slice_bounds-solve_one-end c = let r = each_room _ _ _ _ _ _ c.requires.sides_le_sides_limit.1 c.loop-j.invariant.done (omega arith) in omega (arith, r.0)

pub solve_one-requires : goal.solve_one-requires
solve_one-requires c = let r = each_room _ _ _ _ _ _ c.requires.sides_le_sides_limit.1 c.loop-j.invariant.done (omega arith) in record { x_len = c.loop-j.invariant.unknowns; b_len = simp (length-take, length-drop) (omega (arith, r.0)) }

pub loop-j-preserved : goal.loop-j-preserved
loop-j-preserved c =
    let n = c.args.factor.now.n in
    let e : n * c.loop-j.j + n - n * c.loop-j.j ≡ n = omega arith in
    record { unknowns = c.solve_one.auto.x ∙ c.loop-j.invariant.unknowns; done = each_more _ _ _ _ _ _ c.requires.sides_le_sides_limit.1 c.loop-j.invariant.done (omega arith) _ e _ c.solve_one.ensures }

pub shape_of-x : goal.shape_of-x
shape_of-x c = c.loop-j.invariant.unknowns ∙ sym c.requires.x_len

pub shape_of-b : goal.shape_of-b
shape_of-b c =
    let h = c.requires.sides_le_sides_limit.1 in
    each_long _ _ _ _ _ _ h c.loop-j.invariant.done ∙ sym h

pub returns : goal.returns
returns c = each_over _ _ _ _ _ _ c.requires.sides_le_sides_limit.1 c.loop-j.invariant.done (omega arith)
