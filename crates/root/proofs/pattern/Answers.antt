-- `root::pattern` meets its contract: only a NaN differs from itself. Assumes nothing.
use Rattle.laws.proofs.RootCount.{no_nan_same}
use Rattle.root.proofs.pattern.Goals as goal

pub float_to_bits-result : goal.float_to_bits-result
float_to_bits-result c =
    let args' = c.args in
    let if1' = c.if-x in
    no_nan_same args'.x if1'.false
