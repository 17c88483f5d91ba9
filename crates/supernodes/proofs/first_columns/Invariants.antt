-- `supernodes::first_columns` meets its contract. Assumes nothing.
use Prim.Native.Nat.{suc, ◌-◌}
use Rattle.areas.proofs.Front.{Front}
use Rattle.supernodes.proofs.Nodes.{Listing}
use Rattle.supernodes.specs.Found.{begins_in}
use Rattle.statement.specs.Lists.{tally}
use Rattle.supernodes.proofs.first_columns.Given as goal

abbrev pub invariant-loop-j : goal.invariant-loop-j
invariant-loop-j l = Listing (begins_in l.parents l.counts l.n) l.n l.initial.first l.first l.m l.j × Front (λ j. tally (begins_in l.parents l.counts l.n) (suc j) - 1) l.n l.initial.owner l.owner l.j
