-- `root::abs` meets its contract, by the sign and by whether the value is zero. A zero that an f64 holds has the exponent 0.
-- Assumes nothing.
use Rattle.std.proofs.Common.{T, sym, subst}
use lib.Ieee.{binary64, fits, of_bits}
use Rattle.laws.proofs.RootZero.{negative, zero_abs, positive_abs}
use Rattle.root.proofs.abs.Goals as goal
use Rattle.root.proofs.abs.Goals.{Start}

held : (c : Start) → T (fits binary64 c.args.x)
held c = subst T (sym c.well_formed.0.1) tt

pub returns-then-x : goal.returns-then-x
unfolding of_bits
returns-then-x c = negative c.args.x c.if-x.true

pub returns-then-x-2 : goal.returns-then-x-2
unfolding of_bits
returns-then-x-2 c = zero_abs c.args.x (held c.before.before) c.if-x-2.true

pub returns : goal.returns
unfolding of_bits
returns c = positive_abs c.args.x c.if-x.false c.if-x-2.false
