-- `factor::factor` meets its contract: begun and settled, in the same room. Assumes nothing.
use Rattle.std.proofs.Common.{refl, length}
use Rattle.statement.specs.Input.{matrix}
use Rattle.factor.proofs.Rooms.{lent_same, factors}
use Rattle.factor.proofs.factor.Goals as goal

pub settle-requires : goal.settle-requires
settle-requires c =
    let b = c.begin-begun.auto in
    let q = lent_same {u = length c.args.updates.now} b.permutation b.firsts b.starts b.groups b.tasks b.top b.words b.floats b.rows refl b.values in
    record { begun = rw q c.begin-begun.ensures.begun; refused = rw q c.begin-begun.ensures.refused }

pub returns : goal.returns
returns c =
    let a = c.args in
    let b = c.begin-begun.auto in
    factors (matrix a.n a.input_starts.now a.input_rows.now a.input_values.now) a.cap a.order a.«list».now a.stop (lent_same {u = length a.updates.now} b.permutation b.firsts b.starts b.groups b.tasks b.top b.words b.floats b.rows refl b.values) c.settle.ensures
