-- `sides::sides_answer` meets its contract, test by test. Assumes nothing.
use Prim.Native.Nat.{◌≤◌}
use native.Mathlib.Omega.{arith}
use native.Mathlib.Nat.{mul-le-mul}
use Rattle.sides.proofs.Answered.{many, wrong, short_words, short_floats, enough}
use Rattle.sides.proofs.sides_answer.Goals as goal

pub returns-then-sides-gt64 : goal.returns-then-sides-gt64
returns-then-sides-gt64 c = many _ _ _ _ _ (omega arith)

pub overflow_mul-n : goal.overflow_mul-n
overflow_mul-n c = omega (arith, mul-le-mul c.requires (let h : c.args.sides ≤ 64 = omega arith in h))

pub returns-then-buffer-n : goal.returns-then-buffer-n
returns-then-buffer-n c = wrong _ _ _ _ _ (omega arith) c.if-buffer-n.true

pub returns-then-words-n : goal.returns-then-words-n
returns-then-words-n c = short_words _ _ _ _ _ (omega arith) c.if-buffer-n.false (omega arith)

pub returns-then-floats-n : goal.returns-then-floats-n
returns-then-floats-n c = short_floats _ _ _ _ _ (omega arith) c.if-buffer-n.false (omega arith) (omega arith)

pub returns : goal.returns
returns c = enough _ _ _ _ _ (omega arith) c.if-buffer-n.false (omega arith) (omega arith)
