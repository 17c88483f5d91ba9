-- `replay::answer` is safe and ends: an answer is no longer than its buffer. Assumes nothing.
use Rattle.std.proofs.Common.{sym, length-take-le}
use Rattle.jobs.proofs.Working.{answer_fits}
use Rattle.replay.proofs.answer.Goals as goal

pub slice_bounds-out-end : goal.slice_bounds-out-end
slice_bounds-out-end g c = answer_fits _ _ c.run_job-r.ensures

pub slice_bounds-write_item-end : goal.slice_bounds-write_item-end
slice_bounds-write_item-end g c = sym (length-take-le _ _ (answer_fits _ _ c.run_job-r.ensures))
