use Rattle.offsets.proofs.Sums.{placing_start, placing_more, placing_end, placing_over, here}
use native.Mathlib.Omega.{arith}
use Prim.Native.Nat.{◌-◌}
use Rattle.offsets.proofs.offsets.Goals as goal

pub loop-k-init : goal.loop-k-init
loop-k-init c =
    let pre' = c.requires in
    placing_start _ _ _ _ pre'.ns_in_bounds

pub overflow_sub-m : goal.overflow_sub-m
overflow_sub-m c =
    let pre' = c.requires in
    let loop-test' = c.loop-k-test in
    (here pre'.rising _ loop-test'.true).rows

pub overflow_sub-w : goal.overflow_sub-w
overflow_sub-w c =
    let pre' = c.requires in
    let loop-test' = c.loop-k-test in
    (here pre'.rising _ loop-test'.true).columns

pub column_start-at-requires : goal.column_start-at-requires
column_start-at-requires c =
    let pre' = c.requires in
    let loop-test' = c.loop-k-test in
    let h = here pre'.rising _ loop-test'.true in (omega arith, omega arith)

pub overflow_add-at : goal.overflow_add-at
overflow_add-at c =
    let pre' = c.requires in
    let loop' = c.loop-k in
    let loop-test' = c.loop-k-test in
    let column-start' = c.column_start-at in
    omega (arith, pre'.rising.few, (placing_more loop'.invariant pre'.rising loop-test'.true column-start'.ensures).summed.most)

pub loop-k-preserved : goal.loop-k-preserved
loop-k-preserved c =
    let loop' = c.loop-k in
    let pre' = c.requires in
    let loop-test' = c.loop-k-test in
    let column-start' = c.column_start-at in
    placing_more loop'.invariant pre'.rising loop-test'.true column-start'.ensures

pub returns : goal.returns
returns c =
    let loop' = c.loop-k in
    let loop-test' = c.loop-k-test in record { value = λ S of. placing_end loop'.invariant S of loop-test'.false; to_after = λ S of. placing_over loop'.invariant S of loop-test'.false }
