-- `turn::group_end` meets its contract. Assumes nothing.
use mathlib.Core.Path.{ap}
use lib.ListN.{get_or}
use native.Mathlib.Numerals.{add-one}
use Rattle.turn.proofs.group_end.Goals as goal

pub returns : goal.returns
returns c =
    let args' = c.args in
    ap (λ k. get_or args'.groups.now k 0) (add-one args'.j)
