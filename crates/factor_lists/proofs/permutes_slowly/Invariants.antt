-- `factor_lists::permutes_slowly` meets its contract: each number passed is named once. Assumes nothing.
use lib.Dec.{eqb}
use lib.ListN.{get_or}
use Rattle.statement.specs.Lists.{tally}
use Rattle.laws.proofs.Every.{Tested}
use Rattle.factor_lists.proofs.permutes_slowly.Given as goal

abbrev pub invariant-loop-v : goal.invariant-loop-v
invariant-loop-v l = Tested (λ k. eqb (tally (λ a. eqb (get_or l.p a 0) k) l.n) 1) l.n l.v
