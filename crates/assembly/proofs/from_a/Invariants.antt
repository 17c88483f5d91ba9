-- `assembly::from_a` meets its contract. After c columns: those hold A's entries, the later ones 0.0. Assumes nothing.
use Prim.Native.Nat.{◌≤◌}
use Rattle.views.specs.Shown.{shape_of}
use Rattle.assembly.specs.Assembled.{FromA}
use Rattle.assembly.proofs.from_a.Given as goal

abbrev pub invariant-loop-c : goal.invariant-loop-c
invariant-loop-c l = (l.c ≤ l.to.width) × FromA (shape_of l.structure) l.j l.lower.starts.now l.lower.rows.now l.lower.values.now l.c l.initial.own l.own
