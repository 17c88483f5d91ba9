-- `factor_lists::good_supernode` meets its contract, test by test. Assumes nothing.
use mathlib.Core.Path.{sym, ◌∙◌}
use borrow.Author.Tests.{le-leb, lt-leb}
use Rattle.factor_lists.proofs.Parts.{good_is}
use Rattle.factor_lists.proofs.good_supernode.Goals as goal

pub returns-then-not-all_rising : goal.returns-then-not-all_rising
returns-then-not-all_rising c =
    let all-rising' = c.all_rising in
    let if1' = c.if-not-all_rising in
    λ S K e p q r. sym (good_is S K e p q r ∙ rw (sym all-rising'.ensures ∙ if1'.true))

pub returns-then-w-rows : goal.returns-then-w-rows
returns-then-w-rows c =
    let all-rising' = c.all_rising in
    let if1' = c.if-not-all_rising in
    let if2' = c.if-w-rows in
    λ S K e p q r. sym (good_is S K e p q r ∙ rw (sym all-rising'.ensures ∙ if1'.false, lt-leb _ _ if2'.true))

pub returns-then-not-counts_up : goal.returns-then-not-counts_up
returns-then-not-counts_up c =
    let all-rising' = c.all_rising in
    let if1' = c.if-not-all_rising in
    let if2' = c.if-w-rows in
    let counts-up' = c.counts_up in
    let if3' = c.if-not-counts_up in
    λ S K e p q r. sym (good_is S K e p q r ∙ rw (sym all-rising'.ensures ∙ if1'.false, le-leb _ _ if2'.false, sym counts-up'.ensures ∙ if3'.true))

pub rising_below-requires : goal.rising_below-requires
rising_below-requires c =
    let all-rising' = c.all_rising in
    let if1' = c.if-not-all_rising in
    sym all-rising'.ensures ∙ if1'.false

pub returns : goal.returns
returns c =
    let rising-below' = c.rising_below in
    let all-rising' = c.all_rising in
    let if1' = c.if-not-all_rising in
    let if2' = c.if-w-rows in
    let counts-up' = c.counts_up in
    let if3' = c.if-not-counts_up in
    λ S K e p q r. rising-below'.ensures ∙ sym (good_is S K e p q r ∙ rw (sym all-rising'.ensures ∙ if1'.false, le-leb _ _ if2'.false, sym counts-up'.ensures ∙ if3'.false))
