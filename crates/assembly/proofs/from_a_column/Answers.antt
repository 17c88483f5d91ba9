-- `assembly::from_a_column` meets its contract. Each entry of A has a place of its own in column c. Assumes nothing.
use native.Mathlib.Omega.{arith}
use native.Mathlib.Nat.{le_refl}
use Rattle.views.specs.Shown.{shape_of}
use Rattle.assembly.proofs.Scatters as scat
use Rattle.assembly.proofs.Gather as gather
use Rattle.assembly.proofs.Spots as spots
use Rattle.assembly.proofs.from_a_column.Goals as goal

pub overflow_add-k : goal.overflow_add-k
overflow_add-k c = omega (arith, (gather.col c.requires.rows c.requires.fresh c.requires.c_lt_w).0, c.requires.rows.few)

pub overflow_add-t1 : goal.overflow_add-t1
overflow_add-t1 c = omega (arith, (gather.col c.requires.rows c.requires.fresh c.requires.c_lt_w).0, c.requires.rows.few)

pub offset_bounds-lower-k : goal.offset_bounds-lower-k
offset_bounds-lower-k c = omega (arith, (gather.col c.requires.rows c.requires.fresh c.requires.c_lt_w).0, c.requires.rows.few, c.args.lower.now.valid.room, c.requires.pattern.0)

pub bounds-lower-k : goal.bounds-lower-k
bounds-lower-k c = omega (arith, (gather.col c.requires.rows c.requires.fresh c.requires.c_lt_w).0, c.requires.rows.few, c.args.lower.now.valid.room, c.requires.pattern.0)

pub offset_bounds-lower-k-2 : goal.offset_bounds-lower-k-2
offset_bounds-lower-k-2 c = omega (arith, (gather.col c.requires.rows c.requires.fresh c.requires.c_lt_w).0, c.requires.rows.few, c.args.lower.now.valid.room, c.requires.pattern.0)

pub bounds-lower-k-2 : goal.bounds-lower-k-2
bounds-lower-k-2 c = omega (arith, (gather.col c.requires.rows c.requires.fresh c.requires.c_lt_w).0, c.requires.rows.few, c.args.lower.now.valid.room, c.requires.pattern.0)

pub column_start-requires : goal.column_start-requires
column_start-requires c =
    let p = c.requires in
    let f = p.fresh in
    let S = shape_of c.args.structure.now in
    omega (arith, p.c_lt_w, f.w_is, f.m_is, p.rows.tall c.args.j (le_refl _), gather.height_le S p.rows c.args.j (le_refl _), p.rows.few)

pub overflow_sub-base : goal.overflow_sub-base
overflow_sub-base c =
    let p = c.requires in
    omega (arith, c.column_start.ensures, spots.trap_ge c.args.to.now.height c.args.c (omega (arith, p.c_lt_w, p.fresh.w_is, p.fresh.m_is, p.rows.tall c.args.j (le_refl _))))

pub overflow_sub-t1 : goal.overflow_sub-t1
overflow_sub-t1 c =
    let a = c.args in
    let p = c.requires in
    let f = p.fresh in
    let l = a.lower.now in
    (scat.count_at (shape_of a.structure.now) p.rows a.j (le_refl _) a.place.now f.placed f.places l.starts.now l.rows.now l.values.now (gather.as_lower p.pattern.0 l.valid) p.pattern.1 a.c a.to.now.first a.to.now.height _ (gather.col p.rows f p.c_lt_w).1 f.f_is f.m_is c.column_start.ensures).0

pub store_through-requires : goal.store_through-requires
store_through-requires c =
    let a = c.args in
    let p = c.requires in
    let f = p.fresh in
    let l = a.lower.now in
    record { spread = scat.spread_at (shape_of a.structure.now) p.rows a.j (le_refl _) a.place.now f.placed f.places l.starts.now l.rows.now l.values.now (gather.as_lower p.pattern.0 l.valid) p.pattern.1 a.c a.to.now.first a.to.now.height _ (gather.col p.rows f p.c_lt_w).1 f.f_is f.m_is c.column_start.ensures _ f.own; n_in_bounds = (scat.count_at (shape_of a.structure.now) p.rows a.j (le_refl _) a.place.now f.placed f.places l.starts.now l.rows.now l.values.now (gather.as_lower p.pattern.0 l.valid) p.pattern.1 a.c a.to.now.first a.to.now.height _ (gather.col p.rows f p.c_lt_w).1 f.f_is f.m_is c.column_start.ensures).1 }

pub returns : goal.returns
returns c =
    let a = c.args in
    let p = c.requires in
    let f = p.fresh in
    let l = a.lower.now in
    scat.scattered_at (shape_of a.structure.now) p.rows a.j (le_refl _) a.place.now f.placed f.places l.starts.now l.rows.now l.values.now (gather.as_lower p.pattern.0 l.valid) p.pattern.1 a.c a.to.now.first a.to.now.height _ (gather.col p.rows f p.c_lt_w).1 f.f_is f.m_is c.column_start.ensures _ _ c.store_through.ensures
