-- `checks::viewable` meets its contract: (a), then the rest over the parts that the counts cut out. Assumes nothing.
use mathlib.Core.Path.{sym, ◌∙◌}
use native.Mathlib.Omega.{arith}
use Rattle.statement.specs.Solve.{viewable}
use Rattle.checks.proofs.Parts.{view_many, room, part_fits, view_rest}
use Rattle.laws.proofs.Taken.{no, yes}
use Rattle.checks.proofs.viewable.Goals as goal

pub returns-then-not-full_record : goal.returns-then-not-full_record
unfolding viewable
returns-then-not-full_record c = rw (no c.full_record.ensures c.if-not-full_record.true)

pub returns-then-record : goal.returns-then-record
returns-then-record c = view_many _ _ c.if-record.true

pub cut-requires : goal.cut-requires
cut-requires c = let r = room _ _ (yes c.full_record.ensures c.if-not-full_record.false) in record { columns = (omega arith, omega arith); rows = r.rows }

pub shaped-requires : goal.shaped-requires
shaped-requires c =
    let h = yes c.full_record.ensures c.if-not-full_record.false in
    record { fitted = rw c.cut.ensures.shape (part_fits _ _ h c.if-record.false); record_bound = (room _ _ h).small }

pub returns : goal.returns
returns c =
    let h = yes c.full_record.ensures c.if-not-full_record.false in
    (rw c.cut.ensures.shape at c.shaped.ensures) ∙ sym (view_rest _ _ h)
