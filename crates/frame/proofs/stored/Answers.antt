-- `frame::stored` meets its contract, by its parts. Assumes nothing.
use Rattle.std.proofs.Common.{ℕ, ◌/◌, ◌%◌, ◌^◌, arith, sym, ap, refl, ◌∙◌}
use native.Mathlib.Nat.{div-one}
use borrow.Author.Tests.{eq-eqb, ne_eqb}
use Rattle.statement.specs.Job.{frame}
use Rattle.frame.proofs.Digits.{frame_by, part_wrong, part_is, first_is, rest_none, read_whole}
use Rattle.frame.proofs.stored.Goals as goal

pub returns-in_err-kind : goal.returns-in_err-kind
returns-in_err-kind c = rw c.from_residual.ensures (part_wrong c.args.line.now 0 2 c.in_err-kind.ensures)

pub returns-in_err-column : goal.returns-in_err-column
returns-in_err-column c = rw c.from_residual-in_err-column.ensures (part_wrong c.args.line.now 2 4 c.in_err-column.ensures)

pub returns-in_err-row : goal.returns-in_err-row
returns-in_err-row c = rw c.from_residual-in_err-row.ensures (part_wrong c.args.line.now 6 4 c.in_err-row.ensures)

pub returns-in_err-bits : goal.returns-in_err-bits
returns-in_err-bits c = rw c.from_residual-in_err-bits.ensures (part_wrong c.args.line.now 10 16 c.in_err-bits.ensures)

pub returns-then-kind-ne2 : goal.returns-then-kind-ne2
unfolding frame
returns-then-kind-ne2 c =
    let l = c.args.line.now in
    let n = c.requires in
    frame_by l 26 _ n (λ _. refl) (λ x e. rw (ne_eqb (x / 16 ^ 24) 2 (λ z. c.if-kind-ne2.true (first_is l x e 0 2 24 (omega (arith, n)) _ c.in_ok-kind.ensures refl ∙ z))))

pub returns : goal.returns
unfolding frame
returns c =
    let l = c.args.line.now in
    let n = c.requires in
    frame_by l 26 _ n
    (λ e. absurd (read_whole l 26 (omega (arith, n)) (rest_none l 10 16 _ c.in_ok-bits.ensures (rest_none l 6 4 _ c.in_ok-row.ensures (rest_none l 2 4 _ c.in_ok-column.ensures (rest_none l 0 2 _ c.in_ok-kind.ensures e))))))
    (λ x e.
    let column = part_is l x e 2 4 20 (omega (arith, n)) _ c.in_ok-column.ensures in
    let row = part_is l x e 6 4 16 (omega (arith, n)) _ c.in_ok-row.ensures in
    let bits = part_is l x e 10 16 0 (omega (arith, n)) _ c.in_ok-bits.ensures ∙ ap (λ (t : ℕ). t % 16 ^ 16) (div-one x) in
    rw (eq-eqb (x / 16 ^ 24) 2 (sym (first_is l x e 0 2 24 (omega (arith, n)) _ c.in_ok-kind.ensures refl) ∙ c.if-kind-ne2.false), ← column, ← row, ← bits))
