-- `solving::solve_one` meets its contract: the four passes. Assumes nothing.
use mathlib.Core.Path.{sym, ◌∙◌}
use native.Mathlib.Omega.{arith}
use Rattle.laws.proofs.Permuted.{permuted}
use Rattle.solving.proofs.Order.{passes}
use Rattle.laws.proofs.Taken.{true_T}
use Rattle.solving.proofs.solve_one.Goals as goal

pub gather-requires : goal.gather-requires
gather-requires c =
    let f = c.args.factor.now in
    record { x_in_bounds = omega (arith, f.valid.long, c.requires.x_len); by_index = λ a l. omega (arith, c.requires.b_len, (permuted _ _ f.valid.long (true_T f.valid.once)).low a (omega (arith, c.requires.x_len))) }

pub forward-requires : goal.forward-requires
forward-requires c = c.gather.auto.x ∙ c.requires.x_len

pub backward-requires : goal.backward-requires
backward-requires c = c.forward.auto.x ∙ c.gather.auto.x ∙ c.requires.x_len

pub scatter-requires : goal.scatter-requires
scatter-requires c =
    let f = c.args.factor.now in
    let k = c.backward.auto.x ∙ c.forward.auto.x ∙ c.gather.auto.x ∙ c.requires.x_len in
    record { x_in_bounds = (omega (arith, f.valid.long, k), c.requires.b_len ∙ sym k); permutation_value = rw k f.valid.once }

pub shape_of-x : goal.shape_of-x
shape_of-x c = c.backward.auto.x ∙ c.forward.auto.x ∙ c.gather.auto.x

pub returns : goal.returns
returns c = passes _ _ _ _ _ _ _ _ _ _ c.requires.x_len c.gather.ensures c.forward.ensures c.backward.ensures (rw (c.backward.auto.x ∙ c.forward.auto.x ∙ c.gather.auto.x) at c.scatter.ensures)
