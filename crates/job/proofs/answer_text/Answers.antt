-- `job::answer_text` meets its contract: what was read of a text says what the text says. Assumes nothing.
use Rattle.std.proofs.Common.{arith}
use Rattle.reply.proofs.Telling.{answer_as}
use Rattle.job.proofs.Reading.{read_says}
use Rattle.job.proofs.answer_text.Goals as goal

pub returns : goal.returns
returns c = λ text h. answer_as _ (read_says text _ _ _ (omega arith) c.min.ensures h) c.run_job.ensures
