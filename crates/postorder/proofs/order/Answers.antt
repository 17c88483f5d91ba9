-- `postorder::order` meets its contract: the parts come back. Assumes nothing.
use Rattle.postorder.proofs.Forest.{place_numbers, perm_is}
use lib.ListN.{drop}
use lib.Seq.{length-take-le}
use mathlib.Core.List.{◌++◌}
use mathlib.Core.Path.{ap, ◌∙◌}
use Rattle.postorder.proofs.order.Goals as goal

pub permutation-requires-clause-numbers : goal.permutation-requires-clause-numbers
permutation-requires-clause-numbers c = place_numbers _ _ c.requires.tree _ c.places.ensures

pub returns-clause-perm_after : goal.returns-clause-perm_after
returns-clause-perm_after c = ap (λ l. l ++ drop c.args.n c.args.perm.now) (perm_is _ _ c.requires.tree _ c.places.ensures _ (c.permutation.auto.perm ∙ length-take-le _ _ c.requires.n_in_bounds.4) c.permutation.ensures)
