-- `panels::singles` meets its contract: by four, and by one. Assumes nothing.
use native.Mathlib.Omega.{arith}
use Rattle.panels.proofs.Columns as cols
use Rattle.panels.proofs.singles.Goals as goal

pub returns : goal.returns
returns c =
    let a = c.args in
    let four = c.singles_by-k.ensures in
    let one = c.singles_by.ensures in
    cols.singles_to a.own.now _ a.m a.c a.c0 _ _ (omega (arith, one.upto.1, one.upto.2))
    (cols.singled_on a.own.now _ _ a.m a.c a.c0 _ _ four.upto.0 one.upto.0 one.upto.1 four.singles one.singles)
