-- `order::names` meets its contract, of the plain order and of the list. Assumes nothing.
use Rattle.order.proofs.Firsts.{first_plain, first_listed, followed}
use Rattle.order.proofs.names.Goals as goal

pub returns-in-Plain : goal.returns-in-Plain
returns-in-Plain c = λ S h. first_plain S c.args.list.now c.args.to.now c.args.t h c.in-Plain.is c.count_up.ensures

pub returns-in-Listed : goal.returns-in-Listed
returns-in-Listed c = λ S h. first_listed S c.args.list.now c.args.to.now c.args.t c.in-Listed.is (followed _ c.copy.ensures.after)
