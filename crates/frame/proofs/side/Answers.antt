-- `frame::side` meets its contract, by its parts. Assumes nothing.
use Rattle.std.proofs.Common.{ℕ, ◌/◌, ◌%◌, ◌^◌, arith, sym, ap, refl, ◌∙◌}
use native.Mathlib.Nat.{div-one}
use borrow.Author.Tests.{eq-eqb, ne_eqb}
use Rattle.statement.specs.Job.{frame}
use Rattle.frame.proofs.Digits.{frame_by, part_wrong, part_is, first_is, rest_none, read_whole}
use Rattle.frame.proofs.side.Goals as goal

pub returns-in_err-kind : goal.returns-in_err-kind
returns-in_err-kind c = rw c.from_residual.ensures (part_wrong c.args.line.now 0 2 c.in_err-kind.ensures)

pub returns-in_err-position : goal.returns-in_err-position
returns-in_err-position c = rw c.from_residual-in_err-position.ensures (part_wrong c.args.line.now 2 4 c.in_err-position.ensures)

pub returns-in_err-bits : goal.returns-in_err-bits
returns-in_err-bits c = rw c.from_residual-in_err-bits.ensures (part_wrong c.args.line.now 6 16 c.in_err-bits.ensures)

pub returns-then-kind-ne3 : goal.returns-then-kind-ne3
unfolding frame
returns-then-kind-ne3 c =
    let l = c.args.line.now in
    let n = c.requires in
    frame_by l 22 _ n (λ _. refl) (λ x e. rw (ne_eqb (x / 16 ^ 20) 3 (λ z. c.if-kind-ne3.true (first_is l x e 0 2 20 (omega (arith, n)) _ c.in_ok-kind.ensures refl ∙ z))))

pub returns : goal.returns
unfolding frame
returns c =
    let l = c.args.line.now in
    let n = c.requires in
    frame_by l 22 _ n
    (λ e. absurd (read_whole l 22 (omega (arith, n)) (rest_none l 6 16 _ c.in_ok-bits.ensures (rest_none l 2 4 _ c.in_ok-position.ensures (rest_none l 0 2 _ c.in_ok-kind.ensures e)))))
    (λ x e.
    let position = part_is l x e 2 4 16 (omega (arith, n)) _ c.in_ok-position.ensures in
    let bits = part_is l x e 6 16 0 (omega (arith, n)) _ c.in_ok-bits.ensures ∙ ap (λ (t : ℕ). t % 16 ^ 16) (div-one x) in
    rw (eq-eqb (x / 16 ^ 20) 3 (sym (first_is l x e 0 2 20 (omega (arith, n)) _ c.in_ok-kind.ensures refl) ∙ c.if-kind-ne3.false), ← position, ← bits))
