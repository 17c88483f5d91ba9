-- `job::answer` meets its contract: an answer is no longer than its buffer, and what goes out is the answer to what came in. Assumes nothing.
use Rattle.std.proofs.Common.{sym, arith, length-take-le}
use Rattle.job.proofs.Reading.{fits, tells}
use Rattle.job.proofs.answer.Goals as goal

pub slice_bounds-out-end : goal.slice_bounds-out-end
slice_bounds-out-end g c = fits _ _ (omega (arith, rw c.in_ok-k.ensures at c.read_full.ensures.bound)) c.answer_text-r.ensures

pub slice_bounds-write_all-end : goal.slice_bounds-write_all-end
slice_bounds-write_all-end g c = sym (length-take-le _ _ (fits _ _ (omega (arith, rw c.in_ok-k.ensures at c.read_full.ensures.bound)) c.answer_text-r.ensures))

pub returns : goal.returns
returns g c =
    let read = c.read_full.ensures in
    tells _ _ _ _ _ _ (rw c.in_ok-k.ensures at read.bound) (rw c.in_ok-k.ensures at read.bytes) (rw c.in_ok-k.ensures at read.end) c.answer_text-r.ensures (rw c.in_ok-context.ensures at c.write_all.ensures.bytes)
