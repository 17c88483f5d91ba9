-- `turn::one` meets its contract. The positions of the rows, then the step. Assumes nothing.
use mathlib.Core.Path.{refl}
use Prim.Native.Nat.{suc}
use native.Mathlib.Omega.{arith}
use native.Mathlib.Nat.{le_refl}
use Rattle.views.specs.Shown.{shape_of}
use Rattle.statement.specs.Shape.{width}
use Rattle.assembly.proofs.Gather as gather
use Rattle.turn.proofs.Turns as turns
use Rattle.turn.proofs.one.Goals as goal

pub set_places-requires : goal.set_places-requires
set_places-requires c =
    let S = shape_of c.args.structure.now in
    let J = c.args.j in
    let b = c.requires.due_at.shape in
    let h = le_refl (suc J) in
    let r = gather.places_ready S b J h _ (width S J) (gather.height_code S b J h) refl _ (omega (arith, turns.lent_is S J _ _ _ _ _ c.requires.due_at)) in record { m_in_bounds = r.0; by_index = r.1.0; by_index_2 = r.1.1 }

pub invariant_of-lower : goal.invariant_of-lower
invariant_of-lower c = record { valid = turns.lower_now (shape_of c.args.structure.now) c.args.j _ _ _ _ _ c.requires.due_at c.set_places.new.place c.set_places.ensures }

pub step-requires : goal.step-requires
step-requires c = turns.ready (shape_of c.args.structure.now) c.args.j _ _ _ _ _ c.requires.due_at c.set_places.new.place c.set_places.ensures c.requires.fetched

pub returns-clause-stepped : goal.returns-clause-stepped
returns-clause-stepped c = turns.stepped (shape_of c.args.structure.now) c.args.j _ _ _ _ _ c.requires.due_at c.set_places.new.place c.set_places.ensures _ _ _ _ _ _ refl refl c.step.ensures.stepped

pub returns-clause-words_unchanged : goal.returns-clause-words_unchanged
returns-clause-words_unchanged c =
    let S = shape_of c.args.structure.now in
    (turns.front S c.args.j _ _ _ _ _ c.requires.due_at c.set_places.new.place c.set_places.ensures, turns.rest S c.args.j _ _ _ _ _ c.requires.due_at c.set_places.new.place c.set_places.ensures)
