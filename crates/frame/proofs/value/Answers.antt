use Rattle.std.proofs.Common.{sym, ◌∙◌, arith}
use Rattle.frame.proofs.Digits.{value_step, value_none, value_ends, value_more, value_small}
use Rattle.frame.proofs.value.Goals as goal

pub overflow_mul-v : goal.overflow_mul-v
overflow_mul-v c = omega (arith, value_small c.loop-b.v c.loop-b.b-index c.loop-b.invariant.1 (omega arith))

pub overflow_add-v : goal.overflow_add-v
overflow_add-v c = omega (arith, value_small c.loop-b.v c.loop-b.b-index c.loop-b.invariant.1 (omega arith), c.in_ok-v.ensures.small)

pub returns-in_err-v : goal.returns-in_err-v
returns-in_err-v c = rw c.from_residual.ensures (sym (value_ends c.args.s.now c.loop-b.b-index c.loop-b-test.true c.loop-b.v (sym c.in_err-v.ensures.value)) ∙ c.loop-b.invariant.0)

pub loop-b-preserved : goal.loop-b-preserved
loop-b-preserved c = (
  sym (value_step c.args.s.now c.loop-b.b-index c.loop-b-test.true c.loop-b.v c.in_ok-v.field-0 (sym c.in_ok-v.ensures.value)) ∙ c.loop-b.invariant.0,
  value_more c.loop-b.v c.in_ok-v.field-0 c.loop-b.b-index c.loop-b.invariant.1 c.in_ok-v.ensures.small,
)

pub returns : goal.returns
returns c = sym (value_none c.loop-b.v c.loop-b.b-index c.args.s.now (omega arith)) ∙ c.loop-b.invariant.0
