-- `sides::solve_sides` meets its contract: over the parts that the record's counts cut out. Assumes nothing.
use mathlib.Core.Path.{sym, ap, ◌∙◌}
use Prim.Native.Nat.{◌*◌}
use native.Mathlib.Omega.{arith}
use lib.Seq.{length-take-le}
use Rattle.laws.proofs.Checked.{ready}
use Rattle.laws.proofs.Taken.{true_T}
use Rattle.sides.proofs.Parts.{whole_solving}
use Rattle.sides.proofs.solve_sides.Goals as goal

pub cut-own-requires : goal.cut-own-requires
cut-own-requires c =
    let v = (ready _ _ (true_T c.requires.values_value)).viewed in
    record { columns = (omega (arith, v.few, v.roomy.firsts), omega (arith, v.few, v.roomy.starts)); rows = v.roomy.rows }

pub invariant_of-full : goal.invariant_of-full
invariant_of-full c = record { valid = rw c.cut-own.ensures.shape (whole_solving _ _ c.requires.values_value) }

pub slice_bounds-solve_each-end : goal.slice_bounds-solve_each-end
slice_bounds-solve_each-end c = c.requires.record_in_bounds.0

pub slice_bounds-solve_each-end-2 : goal.slice_bounds-solve_each-end-2
slice_bounds-solve_each-end-2 c = sym (length-take-le _ _ c.requires.record_in_bounds.0)

pub solve_each-requires : goal.solve_each-requires
solve_each-requires c = record {
  x_len = length-take-le _ _ c.requires.record_in_bounds.0 ∙ sym c.cut-own.ensures.n;
  sides_le_sides_limit = (c.requires.record_in_bounds.1, c.requires.record_in_bounds.2 ∙ ap (λ i. i * c.args.sides) (sym c.cut-own.ensures.n));
}

pub returns : goal.returns
returns c = rw (c.cut-own.ensures.shape, c.cut-own.ensures.n) at c.solve_each.ensures
