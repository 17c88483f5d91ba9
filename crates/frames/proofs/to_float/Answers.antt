-- `frames::to_float` meets its contract: a pattern above infinity's, its sign dropped, is a NaN's, and no other is. Assumes nothing.
use lib.Ieee.{of_bits, div}
use Rattle.frames.proofs.Floats.{nan_pattern, no_nan_pattern}
use Rattle.frames.proofs.to_float.Goals as goal

pub returns-then-bits-gt9218868437227405312 : goal.returns-then-bits-gt9218868437227405312
unfolding of_bits div
returns-then-bits-gt9218868437227405312 c = nan_pattern c.args.bits c.if-bits-gt9218868437227405312.true

pub float_from_bits-result : goal.float_from_bits-result
float_from_bits-result c = no_nan_pattern c.args.bits c.if-bits-gt9218868437227405312.false
