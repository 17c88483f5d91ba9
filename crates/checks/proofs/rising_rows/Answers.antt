-- `checks::rising_rows` meets its contract, test by test. Assumes nothing.
use mathlib.Core.Path.{◌≡◌, sym, ◌∙◌}
use Prim.Native.Nat.{◌-◌}
use native.Mathlib.Omega.{arith}
use lib.ListN.{length}
use borrow.Author.Tests.{eq-eqb, ne_eqb}
use Rattle.statement.specs.Solve.{rising_rows}
use Rattle.laws.proofs.Checked.{framed}
use Rattle.laws.proofs.Taken.{true_T}
use Rattle.checks.proofs.Parts.{sorted}
use Rattle.checks.proofs.rising_rows.Goals as goal

pub returns-then-structure-ne0 : goal.returns-then-structure-ne0
unfolding rising_rows
returns-then-structure-ne0 c =
    let if1' = c.if-structure-ne0 in
    rw (ne_eqb _ _ if1'.true)

pub returns-then-structure-last : goal.returns-then-structure-last
unfolding rising_rows
returns-then-structure-last c =
    let if1' = c.if-structure-ne0 in
    let if2' = c.if-structure-last in
    rw (eq-eqb _ _ if1'.false, ne_eqb _ _ if2'.true)

pub returns-then-not-is_sorted : goal.returns-then-not-is_sorted
unfolding rising_rows
returns-then-not-is_sorted c =
    let args' = c.args in
    let pre' = c.requires in
    let if1' = c.if-structure-ne0 in
    let if2' = c.if-structure-last in
    let if3' = c.if-not-is_sorted in
    let e : length args'.structure.now.starts.now - 1 ≡ args'.«record».supernodes = omega (arith, pre'.fitted.starts) in
    rw (eq-eqb _ _ if1'.false, eq-eqb _ _ if2'.false, sym (rw e at (sorted _ _ c.is_sorted.ensures.cases)) ∙ if3'.true)

pub good_supernodes-requires : goal.good_supernodes-requires
good_supernodes-requires c =
    let args' = c.args in
    let pre' = c.requires in
    let if1' = c.if-structure-ne0 in
    let if2' = c.if-structure-last in
    let if3' = c.if-not-is_sorted in
    let e : length args'.structure.now.starts.now - 1 ≡ args'.«record».supernodes = omega (arith, pre'.fitted.starts) in
    framed _ _ pre'.fitted (true_T pre'.rows_value) (rw (eq-eqb _ _ if1'.false, eq-eqb _ _ if2'.false, sym (rw e at (sorted _ _ c.is_sorted.ensures.cases)) ∙ if3'.false) tt)

pub returns : goal.returns
unfolding rising_rows
returns c =
    let args' = c.args in
    let pre' = c.requires in
    let if1' = c.if-structure-ne0 in
    let if2' = c.if-structure-last in
    let if3' = c.if-not-is_sorted in
    let good-supernodes' = c.good_supernodes in
    let e : length args'.structure.now.starts.now - 1 ≡ args'.«record».supernodes = omega (arith, pre'.fitted.starts) in
    let k : length args'.structure.now.firsts.now - 1 ≡ args'.«record».supernodes = omega (arith, pre'.fitted.firsts) in
    rw (eq-eqb _ _ if1'.false, eq-eqb _ _ if2'.false, sym (rw e at (sorted _ _ c.is_sorted.ensures.cases)) ∙ if3'.false) (rw k at good-supernodes'.ensures)
