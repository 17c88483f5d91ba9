-- `tree::work` meets its contract. Assumes nothing.
use lib.ListN.{take}
use Rattle.areas.proofs.Lists.{get_d_any}
use Rattle.std.proofs.lemmas.List.{length-take-le, get_or-take}
use mathlib.Core.Path.{◌∙◌}
use native.Mathlib.Omega.{arith}
use Prim.Native.Nat.{◌*◌, ◌<◌, ◌≤◌}
use Rattle.std.proofs.Common.{rules, tests}
use Rattle.std.proofs.lemmas.Iterator.{YieldsList-from_slice, YieldsList-from_map}
use Rattle.std.proofs.lemmas.Iterator.Adapters.{serves_from_places}
use Rattle.std.proofs.lemmas.Iterator.Consumers.{YieldsList-at, sum_by_from_yields_List, fits_by_from_yields_list}
use Rattle.tree.proofs.Totals.{square_to, sum_from, sum_to}
use Rattle.tree.proofs.work.Goals as goal

pub sum-requires-clause-can : goal.sum-requires-clause-can
sum-requires-clause-can c = (
  tt,
  serves_from_places (YieldsList-from_slice (take c.args.n c.args.counts.now) cc) (λ x q r. search rules)
      (λ x k l e. let h : k < c.args.n = omega (arith, length-take-le c.args.n c.args.counts.now c.requires.n_bound.1) in
      let b : x.now * x.now ≤ 1073741824 = square_to _ _ (omega (arith, e, get_or-take c.args.n c.args.counts.now k x.now h, get_d_any c.args.counts.now k x.now 0 (omega (arith, c.requires.n_bound.1)), c.requires.by_index k h)) c.requires.n_bound.0 in search rules),
)

pub sum-requires-clause-fits : goal.sum-requires-clause-fits
sum-requires-clause-fits c = fits_by_from_yields_list (λ x. x * x) (take c.args.n c.args.counts.now) c.map.result _ (YieldsList-from_map _ (λ x. x * x) (YieldsList-at c.map.ensures.source (YieldsList-from_slice _ cc)) c.map.ensures.closure (λ x r q k. search (rules, tests)))
    (omega (arith, sum_to (λ x. x * x) c.args.counts.now c.args.n 1073741824 c.requires.n_bound.1 (λ j h. square_to _ _ (c.requires.by_index j h) c.requires.n_bound.0), c.requires.n_bound.0))

pub returns : goal.returns
returns c = sum_by_from_yields_List (λ x. x * x) (take c.args.n c.args.counts.now) c.map.result _ c.sum.ensures.ran (YieldsList-from_map _ (λ x. x * x) (YieldsList-at c.map.ensures.source (YieldsList-from_slice _ cc)) c.map.ensures.closure (λ x r q k. search (rules, tests))) ∙ sum_from (λ x. x * x) c.args.counts.now c.args.n c.requires.n_bound.1
