-- `lines::put_refusal` meets its contract: the fields are the answer's number and details. Assumes nothing.
use Rattle.lines.proofs.Written.{refusal_is}
use Rattle.lines.proofs.put_refusal.Goals as goal

pub returns : goal.returns
returns c = refusal_is _ _ c.args.a _ _ _ c.put_fields.ensures c.number-k.ensures c.first_detail-first.ensures c.second_detail-second.ensures
