use Rattle.std.proofs.Common.{◌≡◌, arith, ap, refl, Option, None, Some, Result, Err}
use Rattle.std.proofs.lemmas.Result.{err_from_is_err_and}
use Rattle.std.specs.Option.{ok_or}
use Rattle.frames.specs.declared.Fault.{Fault}
use Rattle.frames.specs.declared.Phase.{Phase}
use Rattle.frames.specs.declared.Phase.TheVariants.{Unbegun, Storing, Siding, Ended}
use Rattle.frames.specs.Held.{rank}
use Rattle.frames.proofs.Going.{going_start, cut_scanned, stop_scanned, going_next, done_scanned, short_scanned}
use Rattle.frames.proofs.scan.Goals as goal

-- the fault that is told where there is nothing else
told : {A : Type 0} (o : Option A) {x y : Fault} → o ≡ None → ◌≡◌ {A = Result A Fault} (Err x) (ok_or o y) → x ≡ y
told None e h = cc
told (Some a) e h = cc

last_phase : (x : Phase) → rank x ≡ 3 → x ≡ Ended
last_phase Unbegun h = absurd (omega arith)
last_phase Storing h = absurd (omega arith)
last_phase Siding h = absurd (omega arith)
last_phase Ended h = refl

pub loop-at-init : goal.loop-at-init
loop-at-init c = going_start _ _ _ _ _ _ c.unbegun-p.ensures c.requires.0 c.requires.1

pub returns-in_err-end : goal.returns-in_err-end
returns-in_err-end c =
    let p = err_from_is_err_and c.from_residual.result c.from_residual.ensures.1 in
    let e = c.in_err-end.ensures in
    let n = rw e.ok_part at c.line_end.ensures.none in
    rw (p.1, p.2, told c.line_end.result e.ok_part e.value) (cut_scanned _ _ _ _ _ _ _ _ _ _ _ _ c.loop-at.invariant c.loop-at-test.true n)

pub returns-in_err-p : goal.returns-in_err-p
returns-in_err-p c =
    let p = err_from_is_err_and c.from_residual-in_err-p.result c.from_residual-in_err-p.ensures.1 in
    let g = c.loop-at.invariant in
    let e = c.in_err-p.ensures in
    let s = rw c.in_ok-end.ensures.ok_part at c.line_end.ensures.some in
    let h = rw e.ok_part at (c.step.ensures.1 g.frames g.holds) in
    rw (p.1, p.2, told c.step.result e.ok_part e.value) (stop_scanned _ _ _ _ _ _ _ _ _ _ _ _ g _ s.0 s.1 _ _ _ _ h)

pub loop-at-preserved : goal.loop-at-preserved
loop-at-preserved c =
    let g = c.loop-at.invariant in
    let e = c.in_ok-p.ensures.ok_part in
    let s = rw c.in_ok-end.ensures.ok_part at c.line_end.ensures.some in
    let h = rw e at (c.step.ensures.1 g.frames g.holds) in
    let m = rw e at c.step.ensures.0 in
    let k = c.step.auto in
    going_next _ _ _ _ _ _ _ _ _ _ _ _ g _ s.0 s.1 _ _ _ _ _ h m k.starts k.rows k.values k.right

pub returns-in-Ended : goal.returns-in-Ended
returns-in-Ended c = done_scanned _ _ _ _ _ _ _ _ _ _ _ _ c.loop-at.invariant c.loop-at-test.false (ap rank c.in-Ended.is)

pub returns-in_default : goal.returns-in_default
returns-in_default c = short_scanned _ _ _ _ _ _ _ _ _ _ _ _ c.loop-at.invariant c.loop-at-test.false (λ h. c.in_default.not-Ended (last_phase c.loop-at.p.phase h))
