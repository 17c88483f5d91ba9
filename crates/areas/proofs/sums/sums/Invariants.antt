-- `areas::sums::sums` meets its contract: the sums of the first k counts stand at the front. Assumes nothing.
use Rattle.areas.proofs.Summing.{Summing}
use lib.ListN.{get_or}
use Rattle.areas.proofs.sums.sums.Given as goal

abbrev pub invariant-loop-k : goal.invariant-loop-k
invariant-loop-k l = Summing (λ j. get_or l.counts j 0) l.m l.initial.to l.to l.k
