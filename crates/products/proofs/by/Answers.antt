use mathlib.Core.Path.{refl, ◌∙◌}
use Prim.Native.Nat.{◌+◌}
use native.Mathlib.Omega.{arith}
use lib.ListN.{length-set}
use Rattle.products.proofs.Rising as rise
use Rattle.laws.proofs.Entry.{trap_mono}
use Rattle.products.proofs.by.Goals as goal

pub overflow_add-src : goal.overflow_add-src
overflow_add-src g c =
    let a = c.args in
    let b = c.requires.begun in
    omega (arith, trap_mono a.m a.from a.kw b.upto, c.column_start.ensures, b.stored, b.above, b.here, b.few)

pub loop-k-init : goal.loop-k-init
loop-k-init g c =
    let b = c.requires.begun in
    (b.upto, omega (arith, c.column_start.ensures), rise.summed_here _ _ _ _ _ refl b)

pub overflow_add-src-in-loop-j : goal.overflow_add-src-in-loop-j
overflow_add-src-in-loop-j g c =
    let a = c.args in
    let b = c.requires.begun in
    omega (arith, rise.at_in a.m (c.loop-k.k + c.loop-j.j) a.q a.kw c.loop-j.src _ (omega arith) b.above b.here c.loop-j.invariant.2 b.stored, b.few)

pub loop-j-preserved : goal.loop-j-preserved
loop-j-preserved g c =
    let a = c.args in
    let b = c.requires.begun in
    let k = c.loop-k.k in
    let l = c.loop-j in (
      omega arith,
      length-set _ _ _ ∙ l.invariant.1,
      rise.at_next a.m (k + l.j) (k + (l.j + 1)) a.q _ _ (omega (arith, b.above)) b.here (omega arith) (omega (arith, b.above, b.here)) l.invariant.2,
      rise.kept a.m a.q k l.at l.j l.src (omega (arith, l.invariant.1)) l.invariant.3 l.invariant.2,
    )

pub add-requires : goal.add-requires
add-requires g c =
    let a = c.args in
    let b = c.requires.begun in
    let l = c.loop-j in (
      omega (arith, b.above, b.here, b.few),
      (
        rise.some _ _ b.here,
        (λ j h. rise.at_in a.m (c.loop-k.k + j) a.q a.kw _ _ (omega arith) b.above b.here (l.invariant.3 j (omega arith)) b.stored),
        omega (arith, c.loop-k.invariant.2.size, b.room),
      ),
    )

pub loop-k-preserved : goal.loop-k-preserved
loop-k-preserved g c =
    let a = c.args in
    let b = c.requires.begun in
    let k = c.loop-k in
    let l = c.loop-j in (
      omega arith,
      rise.stands_at a.m a.q l.src _ _ l.invariant.2 (omega arith),
      rise.summed_more _ a.v.now a.m a.q _ _ _ _ g.row.N k.k (omega (arith, b.above)) (λ j h. l.invariant.3 j (omega arith)) k.invariant.2 c.add.ensures,
    )
