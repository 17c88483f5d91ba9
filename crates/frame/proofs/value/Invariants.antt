-- `frame::value` meets its contract: v and what is left write the number, and v has as many digits as were read. Assumes nothing.
use Rattle.std.proofs.Common.{◌≡◌, ◌<◌, ◌^◌, drop}
use Rattle.statement.specs.Job.{value_from}
use Rattle.frame.proofs.value.Given as goal

abbrev pub invariant-loop-b : goal.invariant-loop-b
invariant-loop-b l = (value_from l.v (drop l.b-index l.s) ≡ value_from 0 l.s) × (l.v < 16 ^ l.b-index)
