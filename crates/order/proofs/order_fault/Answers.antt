-- `order::order_fault` meets its contract. Assumes nothing.
use native.Mathlib.Omega.{arith}
use Rattle.order.proofs.Fault.{wrong_stop, plain_none, as_plain, as_listed, answer_some}
use Rattle.order.proofs.order_fault.Goals as goal

pub returns-then-t-ns : goal.returns-then-t-ns
returns-then-t-ns c = λ S of. let e = c.stop_at-t.ensures S of.many in answer_some (wrong_stop S c.args.parents.now _ c.requires.above of _ _ (omega arith))

pub returns-in-Plain : goal.returns-in-Plain
returns-in-Plain c = λ S of. let e = c.stop_at-t.ensures S of.many in as_plain S c.args.list.now _ c.in-Plain.is (plain_none S c.args.parents.now _ c.requires.above of _ (omega arith))

pub returns-in-Listed : goal.returns-in-Listed
returns-in-Listed c = λ S of. let e = c.stop_at-t.ensures S of.many in as_listed S c.args.list.now _ c.in-Listed.is (c.list_fault.ensures S of _ (omega arith))
