use mathlib.Core.Path.{refl}
use Prim.Native.Nat.{◌-◌}
use Rattle.input.proofs.Checks.{no_rows, risen_more, risen_stops, risen_over}
use native.Mathlib.Omega.{arith}
use Rattle.input.proofs.wrong_rows.Goals as goal

pub returns-then-a-e : goal.returns-then-a-e
returns-then-a-e c = let a = c.args in no_rows a.k a.rows.now a.e (omega arith) a.a c.if-a-e.true

pub loop-p-init : goal.loop-p-init
loop-p-init c = λ h. record { from = omega arith; to = omega arith; same = refl }

pub returns-then-rows-p : goal.returns-then-rows-p
returns-then-rows-p c = let a = c.args in let h = c.requires.1 in risen_stops a.k a.rows.now a.e h (c.loop-p.invariant h) (omega arith) c.if-rows-p.true

pub loop-p-preserved : goal.loop-p-preserved
loop-p-preserved c = λ h. let a = c.args in risen_more a.k a.rows.now a.e h (c.loop-p.invariant h) (omega arith) c.if-rows-p.false

pub returns : goal.returns
returns c = let a = c.args in let h = c.requires.1 in risen_over a.k a.rows.now a.e h (c.loop-p.invariant h) (omega arith)
