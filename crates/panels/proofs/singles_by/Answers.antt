use mathlib.Core.Path.{sym, ◌∙◌}
use Prim.Native.Nat.{◌+◌}
use native.Mathlib.Omega.{arith}
use native.Mathlib.Nat.{le_refl, le_of_eq}
use lib.ListN.{length-set}
use Rattle.laws.proofs.Entry.{trap_mono}
use Rattle.panels.proofs.Columns as cols
use Rattle.products.proofs.Rising as rise
use Rattle.panels.proofs.singles_by.Goals as goal

pub overflow_add-src : goal.overflow_add-src
overflow_add-src g c =
    let a = c.args in
    let r = c.requires.stored in
    omega (arith, trap_mono a.m a.from a.c r.0, c.column_start.ensures, r.1, r.2, r.3)

pub loop-k-init : goal.loop-k-init
loop-k-init g c =
    let a = c.args in
    let r = c.requires.stored in
    (omega arith, r.0, omega (arith, c.column_start.ensures), cols.singled_none _ a.m a.c a.from _)

pub overflow_add-src-in-loop-j : goal.overflow_add-src-in-loop-j
overflow_add-src-in-loop-j g c =
    let a = c.args in
    let r = c.requires.stored in
    omega (arith, rise.at_in a.m (c.loop-k.k + c.loop-j.j) a.c a.c c.loop-j.src _ (omega arith) (le_refl a.c) r.1 c.loop-j.invariant.2 (le_of_eq (sym c.column_start-dst.ensures)), c.column_start-dst.ensures, r.2, r.3)

pub loop-j-preserved : goal.loop-j-preserved
loop-j-preserved g c =
    let a = c.args in
    let r = c.requires.stored in
    let k = c.loop-k.k in
    let l = c.loop-j in (
      omega arith,
      length-set _ _ _ ∙ l.invariant.1,
      rise.at_next a.m (k + l.j) (k + (l.j + 1)) a.c _ _ (omega arith) r.1 (omega arith) (omega (arith, r.1)) l.invariant.2,
      rise.kept a.m a.c k l.at l.j l.src (omega (arith, l.invariant.1)) l.invariant.3 l.invariant.2,
    )

pub sub-requires : goal.sub-requires
sub-requires g c =
    let a = c.args in
    let r = c.requires.stored in
    let l = c.loop-j in (
      omega (arith, r.1, r.2),
      (
        rise.some _ _ r.1,
        (λ j h. rise.at_in a.m (c.loop-k.k + j) a.c a.c _ _ (omega arith) (le_refl a.c) r.1 (l.invariant.3 j (omega arith)) (le_of_eq (sym c.column_start-dst.ensures))),
        omega (arith, c.column_start-dst.ensures, c.loop-k.invariant.3.size, r.3),
      ),
    )

pub loop-k-preserved : goal.loop-k-preserved
loop-k-preserved g c =
    let a = c.args in
    let k = c.loop-k in
    let l = c.loop-j in (
      omega arith,
      omega arith,
      rise.stands_at a.m a.c l.src _ _ l.invariant.2 (omega arith),
      cols.singled_more _ a.m a.c a.from _ _ _ _ g.row.N k.k c.column_start-dst.ensures k.invariant.3 k.invariant.0 (omega arith) c.requires.stored.1 (λ j h. l.invariant.3 j (omega arith)) c.sub.ensures,
    )

pub returns-clause-singles : goal.returns-clause-singles
returns-clause-singles g c =
    let a = c.args in
    cols.singled_at _ a.m a.c a.from _ _ _ c.column_start-dst.ensures c.loop-k.invariant.3
