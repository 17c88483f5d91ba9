-- `root::root` meets its contract, by the sign, by whether the value is zero, and by whether it is finite.
-- Assumes nothing.
use Rattle.std.proofs.Common.{sym, ◌∙◌}
use lib.Ieee.{of_bits, div}
use Rattle.laws.proofs.RootZero.{positive_of, root_positive, root_infinite, root_zero, root_other}
use Rattle.root.proofs.root.Goals as goal

pub positive_root-requires : goal.positive_root-requires
unfolding of_bits
positive_root-requires c = positive_of c.args.x c.if-x.true (sym c.is_finite.ensures ∙ c.if-is_finite.true)

pub returns-then-is_finite : goal.returns-then-is_finite
unfolding of_bits
returns-then-is_finite c =
    let b = c.before in
    let x = b.args.x in
    c.positive_root.ensures ∙ root_positive x (positive_of x b.if-x.true (sym b.is_finite.ensures ∙ b.if-is_finite.true))

pub returns-then-x : goal.returns-then-x
unfolding of_bits
returns-then-x c = root_infinite c.args.x c.if-x.true (sym c.is_finite.ensures ∙ c.if-is_finite.false)

pub returns-then-x-2 : goal.returns-then-x-2
unfolding of_bits
returns-then-x-2 c = root_zero c.args.x c.if-x-2.true

pub returns : goal.returns
unfolding of_bits div
returns c = root_other c.args.x c.if-x.false c.if-x-2.false
