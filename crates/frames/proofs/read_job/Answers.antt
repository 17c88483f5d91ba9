-- `frames::read_job` meets its contract: the areas are cleared, the text is scanned, and on a fault they are cleared again. Assumes nothing.
use Rattle.std.proofs.Common.{sym, ◌∙◌}
use Rattle.frames.proofs.Going.{ready, read_whole, read_fault}
use Rattle.frames.proofs.Wholes.{whole_fits}
use Rattle.frames.proofs.read_job.Goals as goal

pub scan-r-requires : goal.scan-r-requires
scan-r-requires c = ready _ _ _ _ _ _ _ _ c.requires c.clear_all.ensures

pub returns-then-is_err-clause-fits : goal.returns-then-is_err-clause-fits
returns-then-is_err-clause-fits c = whole_fits _ _ c.scan-r.ensures.answer

pub returns-then-is_err-clause-done : goal.returns-then-is_err-clause-done
returns-then-is_err-clause-done c =
    let a = c.args in
    let k = c.clear_all.auto in
    let t = c.scan-r in
    read_fault _ a.starts.now a.rows.now a.values.now a.right.now _ _ _ _ _ t.ensures (t.auto.starts ∙ k.starts) (t.auto.rows ∙ k.rows) (t.auto.values ∙ k.values) (t.auto.right ∙ k.right) _ _ _ _ (sym c.is_err.ensures.value ∙ c.if-is_err.true) c.clear_all-then-is_err.ensures

pub returns-else-is_err-clause-fits : goal.returns-else-is_err-clause-fits
returns-else-is_err-clause-fits c = whole_fits _ _ c.scan-r.ensures.answer

pub returns-else-is_err-clause-done : goal.returns-else-is_err-clause-done
returns-else-is_err-clause-done c =
    let a = c.args in
    let k = c.clear_all.auto in
    let t = c.scan-r in
    read_whole _ a.starts.now a.rows.now a.values.now a.right.now _ _ _ _ _ t.ensures (t.auto.starts ∙ k.starts) (t.auto.rows ∙ k.rows) (t.auto.values ∙ k.values) (t.auto.right ∙ k.right) (sym c.is_err.ensures.value ∙ c.if-is_err.false)
