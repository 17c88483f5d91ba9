-- `tree::entries` meets its contract. Assumes nothing.
use lib.ListN.{take}
use mathlib.Core.Path.{◌∙◌}
use native.Mathlib.Omega.{arith}
use Rattle.std.proofs.lemmas.Iterator.{YieldsList-from_slice}
use Rattle.std.proofs.lemmas.Iterator.Consumers.{sum_from_yields_List, fits_from_yields_list}
use Rattle.tree.proofs.Totals.{sum_from, sum_to}
use Rattle.tree.proofs.entries.Goals as goal

pub sum-requires-clause-fits : goal.sum-requires-clause-fits
sum-requires-clause-fits c = fits_from_yields_list c.iter.result _ (YieldsList-from_slice (take c.args.n c.args.counts.now) cc) (omega (arith, sum_to (λ x. x) c.args.counts.now c.args.n 32768 c.requires.n_bound.1 (λ j h. omega (arith, c.requires.by_index j h)), c.requires.n_bound.0))

pub returns : goal.returns
returns c = sum_from_yields_List c.iter.result _ c.sum.ensures.ran (YieldsList-from_slice (take c.args.n c.args.counts.now) cc) ∙ sum_from (λ x. x) c.args.counts.now c.args.n c.requires.n_bound.1
