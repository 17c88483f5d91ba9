use mathlib.Core.Path.{refl, ap, ◌∙◌}
use mathlib.Core.List.{◌++◌}
use lib.ListN.{drop}
use Rattle.areas.proofs.Front.{front_start, front_more, front_over}
use Rattle.order.proofs.Firsts.{counted}
use Rattle.order.proofs.count_up.Goals as goal

pub loop-i-init : goal.loop-i-init
loop-i-init c = front_start _ _ _ c.requires

pub loop-i-preserved : goal.loop-i-preserved
loop-i-preserved c = front_more c.loop-i.invariant c.loop-i-test.true refl

pub returns : goal.returns
returns c = front_over c.loop-i.invariant c.loop-i-test.false ∙ ap (λ l. l ++ drop c.args.t c.args.to.now) (counted c.args.t)
