-- `panels::dense` meets its contract, column by column. Assumes nothing.
use mathlib.Core.Path.{refl, ◌∙◌}
use Prim.Native.Nat.{suc}
use native.Mathlib.Omega.{arith}
use Rattle.laws.proofs.Entry.{trap_suc, trap_mono}
use Rattle.panels.proofs.Denses as den
use Rattle.panels.proofs.dense.Goals as goal

pub loop-c-init : goal.loop-c-init
loop-c-init c = (omega arith, refl, den.start c.args.m _ _)

pub column-requires : goal.column-requires
column-requires c =
    let l = c.loop-c in
    (omega arith, omega arith, omega (arith, l.invariant.2.size, trap_suc c.args.m l.c, trap_mono c.args.m (suc l.c) c.args.w c.loop-c-test.true), omega (arith, l.invariant.1))

pub returns-in_err-column-clause-dense : goal.returns-in_err-column-clause-dense
returns-in_err-column-clause-dense c =
    let l = c.loop-c in
    den.broke _ c.from_residual.ensures.1 c.in_err-column.ensures.here (den.stopped c.args.m _ _ _ _ l.c (omega arith) _ l.invariant.2 (den.as_a c.args.m l.c _ _ _ _ _ c.diagonal-d.ensures c.in_err-column.ensures.column) c.args.w c.loop-c-test.true refl)

pub loop-c-preserved : goal.loop-c-preserved
loop-c-preserved c =
    let l = c.loop-c in
    (omega arith, c.column.auto.work ∙ l.invariant.1, den.further c.args.m _ _ _ _ l.c (omega arith) _ l.invariant.2 (den.as_a c.args.m l.c _ _ _ _ _ c.diagonal-d.ensures c.in_ok-column.ensures.column) refl)

pub returns-clause-dense : goal.returns-clause-dense
returns-clause-dense c = den.finished c.args.m _ _ _ c.loop-c.c c.args.w c.loop-c.invariant.2 (omega arith) (omega arith)
