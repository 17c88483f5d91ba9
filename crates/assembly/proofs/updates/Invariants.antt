-- `assembly::updates` meets its contract. Each entry has its sums for the supernodes below any N between the updates done and those to come. Assumes nothing.
use mathlib.Core.Path.{◌≡◌}
use Prim.Native.Nat.{◌≤◌}
use lib.ListN.{length}
use Rattle.views.specs.Shown.{shape_of}
use Rattle.assembly.specs.Ready.{in_words}
use Rattle.assembly.proofs.Earlies as early
use Rattle.assembly.proofs.updates.Given as goal

abbrev pub invariant-loop-u : goal.invariant-loop-u
invariant-loop-u l = (l.u ≤ l.count) × (length l.work ≡ length l.initial.work) × early.Sofar (shape_of l.structure) l.j (in_words l.upd) l.count l.initial.values l.values l.u
