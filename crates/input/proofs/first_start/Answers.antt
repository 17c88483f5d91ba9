use mathlib.Core.Path.{sym, ◌∙◌}
use native.Mathlib.Omega.{arith}
use Rattle.areas.proofs.Search.{search_start, search_more, search_hit, search_none}
use Rattle.laws.proofs.First.{first_is, first_none}
use Rattle.input.proofs.first_start.Goals as goal

pub loop-p-init : goal.loop-p-init
loop-p-init c = search_start _ _ _

pub returns-then-wrong_start : goal.returns-then-wrong_start
returns-then-wrong_start c = first_is _ _ _ (search_hit c.loop-p.invariant (omega arith) (sym c.wrong_start.ensures ∙ c.if-wrong_start.true)) (omega arith)

pub loop-p-preserved : goal.loop-p-preserved
loop-p-preserved c = search_more c.loop-p.invariant (omega arith) (sym c.wrong_start.ensures ∙ c.if-wrong_start.false)

pub returns : goal.returns
returns c = first_none _ _ _ (search_none c.loop-p.invariant (omega arith)) (omega arith)
