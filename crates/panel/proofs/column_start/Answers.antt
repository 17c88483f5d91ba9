-- `panel::column_start` meets its contract. The trapezoid's closed form, and no product wraps. Assumes nothing.
use mathlib.Core.Path.{sym, ap}
use Prim.Native.Nat.{◌-◌}
use native.Mathlib.Omega.{arith}
use Rattle.statement.specs.Shape.{trapezoid}
use Rattle.laws.proofs.Loops.{trapezoid_is}
use Rattle.panel.proofs.Starts.{prod_fits, half_le}
use Rattle.panel.proofs.column_start.Goals as goal

pub returns-then-c-eq0 : goal.returns-then-c-eq0
unfolding trapezoid
returns-then-c-eq0 c = sym (ap (trapezoid c.args.m) c.if-c-eq0.true)

pub overflow_mul-result : goal.overflow_mul-result
overflow_mul-result c = omega (arith, prod_fits c.args.c c.args.m (omega arith) (omega arith))

pub overflow_mul-result-2 : goal.overflow_mul-result-2
overflow_mul-result-2 c = omega (arith, prod_fits c.args.c (c.args.c - 1) (omega arith) (omega arith))

pub overflow_sub-result-2 : goal.overflow_sub-result-2
overflow_sub-result-2 c = half_le c.args.c c.args.m (omega arith)

pub returns : goal.returns
returns c = sym (trapezoid_is c.args.m c.args.c (omega arith))
