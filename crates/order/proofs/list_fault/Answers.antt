-- `order::list_fault` meets its contract. Assumes nothing.
use Rattle.laws.proofs.First.{at_first, past_first}
use Rattle.order.proofs.Fault.{wrong_length, fault_some, fault_none, answer_some, answer_none, above_part, of_part}
use mathlib.Core.Path.{refl}
use Rattle.order.proofs.list_fault.Goals as goal

pub returns-then-list-ns : goal.returns-then-list-ns
returns-then-list-ns c = λ S of t h. answer_some (wrong_length S c.args.parents.now _ c.requires.above of _ _ c.if-list-ns.true)

pub returns-in-Some : goal.returns-in-Some
returns-in-Some c = λ S of t h. let k = at_first _ _ c.in-Some.ensures in answer_some (fault_some S _ _ (above_part _ _ c.requires.above) (of_part c.args.parents.now _ of) _ _ c.if-list-ns.false h k.1 k.0)

pub returns-in-None : goal.returns-in-None
returns-in-None c = λ S of t h. answer_none (fault_none S _ _ (above_part _ _ c.requires.above) (of_part c.args.parents.now _ of) _ _ c.if-list-ns.false h refl (past_first _ _ c.in-None.ensures))
