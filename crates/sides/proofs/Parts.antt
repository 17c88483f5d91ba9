-- What number 11's checks tell of the factor that the record's counts cut out. Assumes nothing.
use mathlib.Core.Path.{◌≡◌, ap, ◌∙◌}
use mathlib.Core.Bool.{true, ◌&&◌}
use Prim.Native.Nat.{ℕ, ◌<◌}
use native.Mathlib.Omega.{arith}
use lib.Dec.{T}
use Rattle.statement.specs.Lists.{every}
use Rattle.statement.specs.Shape.{supernodes, offset}
use Rattle.statement.specs.Solve.{FactorAreas, shape_in, full_record, permutes, rising_columns, good_supernode, rising_rows, sized, viewable, solvable}
use Rattle.statement.specs.declared.Record.{Record}
use Rattle.laws.proofs.Checked.{rising_starts, rows_parts, ready}
use Rattle.laws.proofs.Bools.{and_both, T_true}
use Rattle.laws.proofs.Every.{every_at}
use Rattle.laws.proofs.Taken.{true_T}
use Rattle.solving.specs.Walk.{Solving}

module _ (R : Record) (f : FactorAreas) where
  -- (d) of each supernode
  good_all : solvable R f ≡ true → (K : ℕ) → K < supernodes (shape_in R f) → T (good_supernode (shape_in R f) K)
  good_all h K l =
      let r = ready R f (true_T h) in
      let S = shape_in R f in
      let a = and_both (viewable R f) (permutes R.n f.permutation) (unfold solvable in true_T h) in
      let b = and_both (full_record R f) (rising_columns R S && (rising_rows R S && sized R S)) (unfold viewable in a.0) in
      let c = and_both (rising_rows R S) (sized R S) (and_both (rising_columns R S) (rising_rows R S && sized R S) b.1).1 in
      let d = and_both (rising_starts R S.starts) (every (good_supernode S) R.supernodes) (rw (rows_parts R S) at c.0) in
      every_at (good_supernode S) R.supernodes d.1 K (omega (arith, r.viewed.fitted.firsts))

  pub whole_solving : solvable R f ≡ true → Solving (shape_in R f) f.permutation f.values R.entries
  whole_solving h =
      let r = ready R f (true_T h) in
      let v = r.viewed in
      record {
        walked = record { walk = v.walkable; good = good_all h };
        few = omega (arith, v.fitted.columns, v.roomy.small);
        sized = v.entries ∙ ap (offset (shape_in R f)) (let z : R.supernodes ≡ supernodes (shape_in R f) = omega (arith, v.fitted.firsts) in z);
        room = v.roomy.values;
        long = omega (arith, v.fitted.columns, v.roomy.permutation);
        once = ap (λ i. permutes i f.permutation) v.fitted.columns ∙ T_true _ (and_both (viewable R f) (permutes R.n f.permutation) (unfold solvable in true_T h)).1;
      }
