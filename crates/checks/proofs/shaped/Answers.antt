-- `checks::shaped` meets its contract: (c), (d) and (e). Assumes nothing.
use mathlib.Core.Path.{◌∙◌}
use native.Mathlib.Omega.{arith}
use Rattle.checks.proofs.Parts.{columns_same, walkable_of}
use Rattle.laws.proofs.Taken.{no, yes}
use Rattle.checks.proofs.shaped.Goals as goal

pub rising_columns-requires : goal.rising_columns-requires
rising_columns-requires c =
    let pre' = c.requires in
    pre'.fitted.firsts

pub returns-then-not-rising_columns : goal.returns-then-not-rising_columns
returns-then-not-rising_columns c =
    let rising-columns' = c.rising_columns in
    let args' = c.args in
    let if1' = c.if-not-rising_columns in
    let h = no (rising-columns'.ensures ∙ columns_same args'.«record» args'.structure.now.n args'.structure.now.firsts.now args'.structure.now.starts.now args'.structure.now.rows.now) if1'.true in
    rw h

pub rising_rows-requires : goal.rising_rows-requires
rising_rows-requires c =
    let pre' = c.requires in
    let rising-columns' = c.rising_columns in
    let if1' = c.if-not-rising_columns in record { fitted = pre'.fitted; rows_value = yes (rising-columns'.ensures ∙ columns_same _ _ _ _ _) if1'.false }

pub returns-then-not-rising_rows : goal.returns-then-not-rising_rows
returns-then-not-rising_rows c =
    let rising-columns' = c.rising_columns in
    let args' = c.args in
    let if1' = c.if-not-rising_columns in
    let rising-rows' = c.rising_rows in
    let if2' = c.if-not-rising_rows in
    let h = yes (rising-columns'.ensures ∙ columns_same args'.«record» args'.structure.now.n args'.structure.now.firsts.now args'.structure.now.starts.now args'.structure.now.rows.now) if1'.false in
    rw (h, no rising-rows'.ensures if2'.true)

pub invariant_of-walked : goal.invariant_of-walked
invariant_of-walked c = record { valid = walkable_of c.args.«record» _ c.requires.fitted (yes (c.rising_columns.ensures ∙ columns_same _ _ _ _ _) c.if-not-rising_columns.false) (yes c.rising_rows.ensures c.if-not-rising_rows.false) }

pub sized-requires : goal.sized-requires
sized-requires c = (omega (arith, c.requires.fitted.columns, c.requires.record_bound), c.requires.fitted.firsts)

pub returns : goal.returns
returns c =
    let rising-columns' = c.rising_columns in
    let args' = c.args in
    let if1' = c.if-not-rising_columns in
    let rising-rows' = c.rising_rows in
    let if2' = c.if-not-rising_rows in
    let sized' = c.sized in
    let h = yes (rising-columns'.ensures ∙ columns_same args'.«record» args'.structure.now.n args'.structure.now.firsts.now args'.structure.now.starts.now args'.structure.now.rows.now) if1'.false in
    rw (h, yes rising-rows'.ensures if2'.false) sized'.ensures
