-- `jobs::run_job` meets its contract: the text is read, and worked on where it is a job. Assumes nothing.
use Rattle.jobs.proofs.Working.{gotten, read_fault, reads_job}
use Rattle.reply.proofs.Telling.{placed_is, answer_as}
use Rattle.jobs.proofs.run_job.Goals as goal

pub returns-in-Ok : goal.returns-in-Ok
returns-in-Ok c = let g = gotten _ _ _ _ c.in-Ok.ensures.done in answer_as _ (reads_job _ _ g.reads) (c.work.ensures g.frames g.matrix_is g.cap_is g.right_is)

pub returns-in-Err : goal.returns-in-Err
returns-in-Err c = placed_is _ (read_fault _ _ c.in-Err.ensures.done.answer) c.put_refusal.ensures
