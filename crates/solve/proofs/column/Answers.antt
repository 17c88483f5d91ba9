-- `solve::column` meets its contract: the tests, then the part that is the column. Assumes nothing.
use native.Mathlib.Omega.{arith}
use borrow.Author.Tests.{le-ltb}
use Rattle.statement.specs.Solve.{view}
use Rattle.laws.proofs.Taken.{no, yes}
use Rattle.solve.proofs.Viewed.{seen, seen_room, seen_view}
use Rattle.solve.proofs.column.Goals as goal

pub returns-then-not-viewable : goal.returns-then-not-viewable
unfolding view
returns-then-not-viewable c =
    let viewable' = c.viewable in
    let if1' = c.if-not-viewable in
    rw (no viewable'.ensures if1'.true)

pub returns-then-at-record : goal.returns-then-at-record
unfolding view
returns-then-at-record c =
    let viewable' = c.viewable in
    let if1' = c.if-not-viewable in
    let if2' = c.if-at-record in
    rw (yes viewable'.ensures if1'.false, le-ltb _ _ if2'.true)

pub cut-own-requires : goal.cut-own-requires
cut-own-requires c =
    let v = seen _ _ (yes c.viewable.ensures c.if-not-viewable.false) in
    record { columns = (omega (arith, v.few, v.roomy.firsts), omega (arith, v.few, v.roomy.starts)); rows = v.roomy.rows }

pub invariant_of-walked : goal.invariant_of-walked
invariant_of-walked c = record { valid = rw c.cut-own.ensures.shape (seen _ _ (yes c.viewable.ensures c.if-not-viewable.false)).walkable }

pub column_part-requires : goal.column_part-requires
column_part-requires c =
    let h = yes c.viewable.ensures c.if-not-viewable.false in
    record { firsts_in_bounds = seen_room _ _ h _ c.cut-own.ensures.shape; n_bound = (omega (arith, c.cut-own.ensures.n, (seen _ _ h).roomy.small), omega (arith, c.cut-own.ensures.n, c.if-at-record.false)) }

pub returns : goal.returns
returns c = seen_view _ _ (yes c.viewable.ensures c.if-not-viewable.false) c.args.q _ c.if-at-record.false (rw c.cut-own.ensures.shape at c.column_part.ensures)
