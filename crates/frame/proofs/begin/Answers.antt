-- `frame::begin` meets its contract, by its parts. Assumes nothing.
use Rattle.std.proofs.Common.{ℕ, ◌/◌, ◌%◌, ◌^◌, arith, sym, ap, refl, ◌∙◌}
use native.Mathlib.Nat.{div-one}
use borrow.Author.Tests.{eq-eqb, ne_eqb}
use Rattle.statement.specs.Job.{frame}
use Rattle.frame.proofs.Digits.{frame_by, part_wrong, part_is, first_is, rest_none, read_whole}
use Rattle.frame.proofs.begin.Goals as goal

pub returns-in_err-kind : goal.returns-in_err-kind
returns-in_err-kind c = rw c.from_residual.ensures (part_wrong c.args.line.now 0 2 c.in_err-kind.ensures)

pub returns-in_err-n : goal.returns-in_err-n
returns-in_err-n c = rw c.from_residual-in_err-n.ensures (part_wrong c.args.line.now 2 4 c.in_err-n.ensures)

pub returns-in_err-cap : goal.returns-in_err-cap
returns-in_err-cap c = rw c.from_residual-in_err-cap.ensures (part_wrong c.args.line.now 6 8 c.in_err-cap.ensures)

pub returns-then-kind-ne1 : goal.returns-then-kind-ne1
unfolding frame
returns-then-kind-ne1 c =
    let l = c.args.line.now in
    let n = c.requires in
    frame_by l 14 _ n (λ _. refl) (λ x e. rw (ne_eqb (x / 16 ^ 12) 1 (λ z. c.if-kind-ne1.true (first_is l x e 0 2 12 (omega (arith, n)) _ c.in_ok-kind.ensures refl ∙ z))))

pub returns : goal.returns
unfolding frame
returns c =
    let l = c.args.line.now in
    let n = c.requires in
    frame_by l 14 _ n
    (λ e. absurd (read_whole l 14 (omega (arith, n)) (rest_none l 6 8 _ c.in_ok-cap.ensures (rest_none l 2 4 _ c.in_ok-n.ensures (rest_none l 0 2 _ c.in_ok-kind.ensures e)))))
    (λ x e.
    let n = part_is l x e 2 4 8 (omega (arith, n)) _ c.in_ok-n.ensures in
    let cap = part_is l x e 6 8 0 (omega (arith, n)) _ c.in_ok-cap.ensures ∙ ap (λ (t : ℕ). t % 16 ^ 8) (div-one x) in
    rw (eq-eqb (x / 16 ^ 12) 1 (sym (first_is l x e 0 2 12 (omega (arith, n)) _ c.in_ok-kind.ensures refl) ∙ c.if-kind-ne1.false), ← n, ← cap))
