-- `step::step` meets its contract. Assembly, dense factor, and zeros where a pivot breaks: what the rules' step makes. Assumes nothing.
use mathlib.Core.Path.{◌≡◌, refl, ap, ◌∙◌}
use mathlib.Core.List.{List}
use Prim.Native.Nat.{ℕ, suc, ◌+◌, ◌≤◌}
use native.Mathlib.Nat.{le_refl}
use native.Mathlib.Omega.{arith}
use lib.ListN.{length}
use lib.Ieee.{Float, nan}
use Rattle.laws.specs.Lower.{lower_value}
use Rattle.statement.specs.Shape.{Shape, offset}
use Rattle.views.specs.Shown.{shape_of}
use Rattle.areas.proofs.Part as part
use Rattle.assembly.proofs.Gather as gather
use Rattle.assembly.proofs.Scatters as scat
use Rattle.step.proofs.Ends as ends
use Rattle.step.proofs.step.Goals as goal

-- the stretch begins within values as long as the lent ones
within : (S : Shape) (J off : ℕ) (v w : List Float) → off ≡ offset S J → offset S (suc J) ≤ length v → length w ≡ length v → off ≤ length w
within S J off v w e l s = gather.off_le S J off (length w) e (omega (arith, l, s))

pub of-own-requires : goal.of-own-requires
of-own-requires c =
    let p = c.requires in
    gather.stands (shape_of c.args.structure.now) p.shape c.args.j (le_refl _) c.args.offsets.now p.offsets.room (p.offsets.at c.args.j (le_refl _))

pub assemble-requires : goal.assemble-requires
assemble-requires c =
    let p = c.requires in
    let k = c.of-own.ensures in record {
      rows = p.shape;
      listed = (p.updates, p.words);
      offsets = p.offsets;
      pattern = (p.columns, p.pattern);
      own = (record { off_is = ap (λ s. s.offset) k; m_is = ap (λ s. s.height) k; w_is = ap (λ s. s.width) k; placed = p.placed; places = p.places; work = p.work; values = p.values }, ap (λ s. s.first) k);
    }

pub offset_bounds-values-own : goal.offset_bounds-values-own
offset_bounds-values-own c =
    let S = shape_of c.args.structure.now in
    let p = c.requires in
    let k = c.of-own.ensures in
    omega (arith, within S c.args.j _ c.args.values.now c.args.values.now (ap (λ s. s.offset) k) p.values refl)

pub slice_bounds-dense-count : goal.slice_bounds-dense-count
slice_bounds-dense-count c = within (shape_of c.args.structure.now) c.args.j _ c.args.values.now _ (ap (λ s. s.offset) c.of-own.ensures) c.requires.values c.assemble.ensures.size

pub slice_bounds-dense-start : goal.slice_bounds-dense-start
slice_bounds-dense-start c = within (shape_of c.args.structure.now) c.args.j _ c.args.values.now _ (ap (λ s. s.offset) c.of-own.ensures) c.requires.values c.assemble.ensures.size

pub dense-requires : goal.dense-requires
dense-requires c =
    let S = shape_of c.args.structure.now in
    let p = c.requires in
    let k = c.of-own.ensures in
    let m = ap (λ s. s.height) k in
    let w = ap (λ s. s.width) k in
    let v = c.assemble.new.values in
    let off = c.of-own.result.offset in
    let z = gather.sides S p.shape c.args.j (le_refl _) _ _ m w in (
      z.0,
      z.1,
      gather.stretch_in S p.shape c.args.j (le_refl _) _ _ m w off (length v) _ (ap (λ s. s.offset) k) (omega (arith, c.assemble.ensures.size, p.values)) (part.mid_length nan v off),
      omega (arith, z.2, p.work, c.assemble.auto.work),
      omega (arith, gather.cols_in S p.shape c.args.j (le_refl _) _ _ m w, ap (λ s. s.first) k, p.columns),
    )

pub offset_bounds-values-own-in-Err : goal.offset_bounds-values-own-in-Err
offset_bounds-values-own-in-Err c =
    let S = shape_of c.args.structure.now in
    let p = c.requires in
    let k = c.of-own.ensures in
    omega (arith, within S c.args.j _ c.args.values.now c.args.values.now (ap (λ s. s.offset) k) p.values refl)

-- the values once the dense factor is back in them
after : (S : Shape) (J off : ℕ) (v v1 own : List Float) → off ≡ offset S J → offset S (suc J) ≤ length v → length v1 ≡ length v → length own ≡ length (part.mid nan v1 off) → length (part.back nan v1 off own) ≡ length v
after S J off v v1 own e l s d = part.back_length nan v1 off (within S J off v v1 e l s) own d ∙ s

pub slice_bounds-clear-count : goal.slice_bounds-clear-count
slice_bounds-clear-count c =
    let S = shape_of c.args.structure.now in
    let p = c.requires in
    let k = c.of-own.ensures in
    within S c.args.j _ c.args.values.now _ (ap (λ s. s.offset) k) p.values (after S c.args.j _ c.args.values.now _ _ (ap (λ s. s.offset) k) p.values c.assemble.ensures.size c.in-Err.ensures.dense.size)

pub slice_bounds-clear-start : goal.slice_bounds-clear-start
slice_bounds-clear-start c =
    let S = shape_of c.args.structure.now in
    let p = c.requires in
    let k = c.of-own.ensures in
    within S c.args.j _ c.args.values.now _ (ap (λ s. s.offset) k) p.values (after S c.args.j _ c.args.values.now _ _ (ap (λ s. s.offset) k) p.values c.assemble.ensures.size c.in-Err.ensures.dense.size)

pub column_start-requires : goal.column_start-requires
column_start-requires c =
    let S = shape_of c.args.structure.now in
    let p = c.requires in
    let k = c.of-own.ensures in
    let z = gather.sides S p.shape c.args.j (le_refl _) _ _ (ap (λ s. s.height) k) (ap (λ s. s.width) k) in
    (z.0, z.1)

pub clear-requires : goal.clear-requires
clear-requires c =
    let S = shape_of c.args.structure.now in
    let p = c.requires in
    let k = c.of-own.ensures in
    let off = c.of-own.result.offset in
    let v2 = part.back nan c.assemble.new.values off c.dense.new.own in
    omega (arith, c.column_start.ensures, gather.stretch_in S p.shape c.args.j (le_refl _) _ _ (ap (λ s. s.height) k) (ap (λ s. s.width) k) off (length v2) (length (part.mid nan v2 off)) (ap (λ s. s.offset) k) (omega (arith, after S c.args.j _ c.args.values.now _ _ (ap (λ s. s.offset) k) p.values c.assemble.ensures.size c.in-Err.ensures.dense.size, p.values)) (part.mid_length nan v2 off))

pub returns-in-Ok-clause-stepped : goal.returns-in-Ok-clause-stepped
returns-in-Ok-clause-stepped c =
    let S = shape_of c.args.structure.now in
    let p = c.requires in
    let k = c.of-own.ensures in
    let l = c.args.lower.now in
    let d = ends.dense_as l.starts.now l.rows.now l.values.now _ _ _ _ _ k c.in-Ok.ensures.dense in
    ends.ended_made S p.shape c.args.j (le_refl _) (lower_value l.starts.now l.rows.now l.values.now) c.args.values.now c.assemble.new.values c.dense.new.own c.of-own.result.offset (ap (λ s. s.offset) k) p.values c.assemble.ensures _ d _ refl (omega (arith, ap (λ s. s.width) k))

pub returns-in-Err-clause-stepped : goal.returns-in-Err-clause-stepped
returns-in-Err-clause-stepped c =
    let S = shape_of c.args.structure.now in
    let p = c.requires in
    let k = c.of-own.ensures in
    let l = c.args.lower.now in
    let d = ends.dense_as l.starts.now l.rows.now l.values.now _ _ _ _ _ k c.in-Err.ensures.dense in
    ends.ended_broke S p.shape c.args.j (le_refl _) (lower_value l.starts.now l.rows.now l.values.now) c.args.values.now c.assemble.new.values c.dense.new.own c.of-own.result.offset (ap (λ s. s.offset) k) p.values c.assemble.ensures _ d _ refl c.clear.new.w _ _ (omega (arith, c.in-Err.ensures.breaks, ap (λ s. s.width) k)) (scat.size_code S c.args.j _ _ _ c.column_start.ensures (ap (λ s. s.height) k) (ap (λ s. s.width) k)) (ap (λ s. s.first + c.in-Err.c) k) c.clear.ensures

pub returns-in-Err-clause-below : goal.returns-in-Err-clause-below
returns-in-Err-clause-below c =
    let k = c.of-own.ensures in
    omega (arith, c.in-Err.ensures.breaks, gather.cols_in (shape_of c.args.structure.now) c.requires.shape c.args.j (le_refl _) _ _ (ap (λ s. s.height) k) (ap (λ s. s.width) k), ap (λ s. s.first) k)
