-- `analysis::filled` meets its contract, call by call. Assumes nothing.
use Rattle.laws.specs.Numbered.{shape}
use Rattle.statement.specs.Supernodes.{update_starts}
use Rattle.statement.specs.Input.{stored}
use Prim.Native.Nat.{suc}
use Rattle.areas.proofs.Tail.{tail_lent}
use Rattle.analysis.proofs.Linked.{starts_begun, laid_of, over_cleared}
use native.Mathlib.Omega.{arith}
use Rattle.analysis.proofs.filled.Goals as goal

pub invariant_of-numbering : goal.invariant_of-numbering
invariant_of-numbering c =
    let a = c.args in
    record { given = rw (tail_lent a.matrix.now.n a.tasks.now) c.requires.placed.given }

pub structure-differs-requires : goal.structure-differs-requires
structure-differs-requires c =
    let q = c.requires in
    record { started = (q.placed.known.number, starts_begun q.placed); room = omega (arith, q.ns_in_bounds) }

pub invariant_of-supernodes : goal.invariant_of-supernodes
invariant_of-supernodes c = record { laid = laid_of c.requires.placed _ c.structure-differs.ensures.to_after }

pub returns : goal.returns
returns c =
    let a = c.args in
    let e = c.update_starts-updates.ensures in
    record {
      updates_value = (e.value, c.structure-differs.ensures.value);
      groups_after = over_cleared (update_starts (shape (stored a.matrix.now.starts.now a.matrix.now.rows.now) a.matrix.now.n)) _ _ c.structure-differs.new.next a.groups.now (suc a.ns) e.to_after (c.fill.ensures.after (λ y e. e)) (omega (arith, c.structure-differs.auto));
      rows_after = c.structure-differs.ensures.to_after;
    }
