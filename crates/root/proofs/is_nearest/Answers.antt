-- `root::is_nearest` meets its contract: the test by halves is the test. Assumes nothing.
use Rattle.std.proofs.Common.{refl, arith}
use Rattle.laws.proofs.Order.{never}
use Rattle.root.proofs.Tested.{square_upper, cross, square_lower, passed}
use Rattle.root.proofs.is_nearest.Goals as goal

pub overflow_mul-a : goal.overflow_mul-a
overflow_mul-a c =
    let args' = c.args in
    let pre' = c.requires in
    omega (arith, square_upper args'.q pre'.1)

pub overflow_mul-a-2 : goal.overflow_mul-a-2
overflow_mul-a-2 c =
    let args' = c.args in
    let pre' = c.requires in
    omega (arith, square_upper args'.q pre'.1)

pub returns-then-v-a : goal.returns-then-v-a
returns-then-v-a c = λ e. never e refl

pub returns-then-d-gt1073741824 : goal.returns-then-d-gt1073741824
returns-then-d-gt1073741824 c = λ e. never e refl

pub overflow_mul-y : goal.overflow_mul-y
overflow_mul-y c =
    let args' = c.args in
    let pre' = c.requires in
    omega (arith, cross args'.q pre'.1)

pub returns-then-x-y : goal.returns-then-x-y
returns-then-x-y c = λ e. never e refl

pub returns-then-e-gt1073741824 : goal.returns-then-e-gt1073741824
returns-then-e-gt1073741824 c = λ e. never e refl

pub overflow_mul-c : goal.overflow_mul-c
overflow_mul-c c =
    let args' = c.args in
    let pre' = c.requires in
    omega (arith, square_lower args'.q pre'.1)

pub overflow_add-c : goal.overflow_add-c
overflow_add-c c =
    let args' = c.args in
    let pre' = c.requires in
    omega (arith, square_lower args'.q pre'.1)

pub returns-then-z-q : goal.returns-then-z-q
returns-then-z-q c = λ e. never e refl

pub returns-then-c-q : goal.returns-then-c-q
returns-then-c-q c = λ e. never e refl

pub returns : goal.returns
returns c =
    let args' = c.args in
    let pre' = c.requires in
    let if1' = c.if-v-a in
    let if3' = c.if-x-y in
    let if5' = c.if-z-q in
    let if6' = c.if-c-q in
    λ e. passed args'.q pre'.1 args'.v _ _ refl if1'.false refl if3'.false if5'.false if6'.false
