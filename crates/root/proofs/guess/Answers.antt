-- `root::guess` meets its contract: no pattern here is a NaN's. Assumes nothing.
use Rattle.std.proofs.Common.{arith}
use Rattle.laws.proofs.RootCount.{no_nan_bits}
use Rattle.root.proofs.guess.Goals as goal

pub float_from_bits-y0 : goal.float_from_bits-y0
float_from_bits-y0 c = no_nan_bits _ (omega arith)
