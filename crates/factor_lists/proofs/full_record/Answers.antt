-- `factor_lists::full_record` meets its contract: (a), test by test. Assumes nothing.
use borrow.Author.Tests.{le-leb, lt-leb}
use Rattle.statement.specs.Solve.{full_record}
use Rattle.factor_lists.proofs.Parts.{le_more, lt_more}
use Rattle.laws.proofs.Taken.{no, yes}
use Rattle.factor_lists.proofs.full_record.Goals as goal

pub returns-then-not-is_full : goal.returns-then-not-is_full
unfolding full_record
returns-then-not-is_full c =
    let is-full' = c.is_full in
    let if1' = c.if-not-is_full in
    rw (no is-full'.ensures if1'.true)

pub returns-then-record-gt32768 : goal.returns-then-record-gt32768
unfolding full_record
returns-then-record-gt32768 c =
    let is-full' = c.is_full in
    let if1' = c.if-not-is_full in
    let if2' = c.if-record-gt32768 in
    rw (yes is-full'.ensures if1'.false, lt-leb _ _ if2'.true)

pub returns-then-factor-record : goal.returns-then-factor-record
unfolding full_record
returns-then-factor-record c =
    let is-full' = c.is_full in
    let if1' = c.if-not-is_full in
    let if2' = c.if-record-gt32768 in
    let if3' = c.if-factor-record in
    rw (yes is-full'.ensures if1'.false, le-leb _ _ if2'.false, lt-leb _ _ if3'.true)

pub returns-then-factor-record-2 : goal.returns-then-factor-record-2
unfolding full_record
returns-then-factor-record-2 c =
    let is-full' = c.is_full in
    let if1' = c.if-not-is_full in
    let if2' = c.if-record-gt32768 in
    let if3' = c.if-factor-record in
    let if4' = c.if-factor-record-2 in
    rw (yes is-full'.ensures if1'.false, le-leb _ _ if2'.false, le-leb _ _ if3'.false, lt-leb _ _ (le_more if4'.true))

pub returns-then-factor-record-3 : goal.returns-then-factor-record-3
unfolding full_record
returns-then-factor-record-3 c =
    let is-full' = c.is_full in
    let if1' = c.if-not-is_full in
    let if2' = c.if-record-gt32768 in
    let if3' = c.if-factor-record in
    let if4' = c.if-factor-record-2 in
    let if5' = c.if-factor-record-3 in
    rw (yes is-full'.ensures if1'.false, le-leb _ _ if2'.false, le-leb _ _ if3'.false, le-leb _ _ (lt_more if4'.false), lt-leb _ _ (le_more if5'.true))

pub returns-then-factor-record-4 : goal.returns-then-factor-record-4
unfolding full_record
returns-then-factor-record-4 c =
    let is-full' = c.is_full in
    let if1' = c.if-not-is_full in
    let if2' = c.if-record-gt32768 in
    let if3' = c.if-factor-record in
    let if4' = c.if-factor-record-2 in
    let if5' = c.if-factor-record-3 in
    let if6' = c.if-factor-record-4 in
    rw (yes is-full'.ensures if1'.false, le-leb _ _ if2'.false, le-leb _ _ if3'.false, le-leb _ _ (lt_more if4'.false), le-leb _ _ (lt_more if5'.false), lt-leb _ _ if6'.true)

pub returns : goal.returns
unfolding full_record
returns c =
    let is-full' = c.is_full in
    let if1' = c.if-not-is_full in
    let if2' = c.if-record-gt32768 in
    let if3' = c.if-factor-record in
    let if4' = c.if-factor-record-2 in
    let if5' = c.if-factor-record-3 in
    let if6' = c.if-factor-record-4 in
    rw (yes is-full'.ensures if1'.false, le-leb _ _ if2'.false, le-leb _ _ if3'.false, le-leb _ _ (lt_more if4'.false), le-leb _ _ (lt_more if5'.false), le-leb _ _ if6'.false)
