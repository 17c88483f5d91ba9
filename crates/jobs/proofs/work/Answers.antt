-- `jobs::work` meets its contract: the call over areas as long as a job has. Assumes nothing.
use mathlib.Core.Path.{refl}
use Rattle.statement.specs.Job.{job_room}
use Rattle.jobs.proofs.work.Goals as goal

pub returns : goal.returns
unfolding job_room
returns c = λ j m d b. c.work_in.ensures j m d refl b
