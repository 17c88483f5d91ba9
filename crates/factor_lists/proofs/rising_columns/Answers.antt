-- `factor_lists::rising_columns` meets its contract, test by test. Assumes nothing.
use mathlib.Core.Path.{◌≡◌}
use Prim.Native.Nat.{◌-◌}
use native.Mathlib.Omega.{arith}
use lib.ListN.{length}
use borrow.Author.Tests.{eq-eqb, ne_eqb}
use Rattle.statement.specs.Solve.{rising_columns}
use Rattle.factor_lists.proofs.rising_columns.Goals as goal

pub returns-then-firsts-ne0 : goal.returns-then-firsts-ne0
unfolding rising_columns
returns-then-firsts-ne0 c =
    let if1' = c.if-firsts-ne0 in
    rw (ne_eqb _ _ if1'.true)

pub returns-then-firsts-last : goal.returns-then-firsts-last
unfolding rising_columns
returns-then-firsts-last c =
    let if1' = c.if-firsts-ne0 in
    let if2' = c.if-firsts-last in
    rw (eq-eqb _ _ if1'.false, ne_eqb _ _ if2'.true)

pub returns : goal.returns
unfolding rising_columns
returns c =
    let args' = c.args in
    let pre' = c.requires in
    let if1' = c.if-firsts-ne0 in
    let if2' = c.if-firsts-last in
    let all-rising' = c.all_rising in
    let e : length args'.firsts.now - 1 ≡ args'.«record».supernodes = omega (arith, pre') in
    rw (eq-eqb _ _ if1'.false, eq-eqb _ _ if2'.false) (rw e at all-rising'.ensures)
