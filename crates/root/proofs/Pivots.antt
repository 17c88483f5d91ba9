-- The pivot's test, as it is computed. Assumes nothing.
use Rattle.std.proofs.Common.{◌≡◌, Bool, true, false, sym}
use lib.Ieee.{Float, binary64, of_bits, mul, lt}
use Rattle.statement.specs.Root.{finite, abs}
use Rattle.statement.specs.Rules.{tolerance, passes}

pub test_yes : (a d y : Float) (b : Bool) → y ≡ abs a → b ≡ finite d → b ≡ true → lt (mul binary64 (of_bits binary64 0x3ddb_7cdf_d9d7_bdbb) y) d ≡ passes a d
unfolding passes tolerance
test_yes a d y b e f t = rw (e, sym f, t)

pub test_no : (a d : Float) (b : Bool) → b ≡ finite d → b ≡ false → false ≡ passes a d
unfolding passes
test_no a d b f t = rw (sym f, t)
