-- `root::positive_root` meets its contract: x's count is what the two parts of its pattern say.
-- Assumes nothing.
use Rattle.std.proofs.Common.{T, sym, ap, ◌∙◌, subst, arith}
use lib.Ieee.{binary64, fits}
use Rattle.statement.specs.Root.{root_of_units}
use Rattle.laws.proofs.RootCount.{no_nan, no_nan_bits, bits_pos, bits_lt, count_subnormal, count_normal}
use Rattle.root.proofs.positive_root.Goals as goal
use Rattle.root.proofs.positive_root.Goals.{Start}

held : (c : Start) → T (fits binary64 c.args.x)
held c = subst T (sym c.well_formed.0.1) tt

pub float_to_bits-b : goal.float_to_bits-b
float_to_bits-b c = no_nan c.args.x c.requires

pub root_bits-requires : goal.root_bits-requires
root_bits-requires c = omega (arith, bits_pos c.args.x (held c.before) c.requires)

pub float_from_bits-result : goal.float_from_bits-result
float_from_bits-result c = no_nan_bits c.root_bits.result c.root_bits.ensures.1

pub returns-then-b-lt4503599627370496 : goal.returns-then-b-lt4503599627370496
returns-then-b-lt4503599627370496 c =
    let s = c.before.before in
    c.root_bits.ensures.0 ∙ ap root_of_units (sym (count_subnormal s.args.x (held s) c.if-b-lt4503599627370496.true))

pub root_bits-requires-2 : goal.root_bits-requires-2
root_bits-requires-2 c = omega (arith, bits_lt c.args.x (held c.before) c.requires)

pub float_from_bits-result-2 : goal.float_from_bits-result-2
float_from_bits-result-2 c = no_nan_bits c.root_bits-2.result c.root_bits-2.ensures.1

pub returns : goal.returns
returns c =
    let s = c.before.before in
    c.root_bits-2.ensures.0 ∙ ap root_of_units (sym (count_normal s.args.x (held s) s.requires c.if-b-lt4503599627370496.false))
