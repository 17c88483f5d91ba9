-- `begin::prepare` meets its contract: call by call. Assumes nothing.
use Rattle.begin.proofs.Ordering.{places_long, above, of, refused_order, front_length, names_asked, prepared}
use Rattle.ready.proofs.Laying.{fewer}
use Rattle.laws.specs.Numbered.{shape_for}
use Rattle.views.specs.Shown.{matrix_of}
use Rattle.laws.proofs.Passed.{exit_is}
use Rattle.areas.proofs.Tail.{tail_length}
use lib.Seq.{length-take-le}
use Prim.Native.Nat.{◌+◌}
use native.Mathlib.Omega.{arith}
use mathlib.Core.Path.{sym, ◌∙◌}
use Rattle.begin.proofs.prepare.Goals as goal

pub slice_bounds-order_fault-count : goal.slice_bounds-order_fault-count
slice_bounds-order_fault-count c =
    let args' = c.args in
    let pre' = c.requires in
    let M = matrix_of args'.found.now.matrix in
    omega (arith, places_long M pre'.known)

pub slice_bounds-order_fault-start : goal.slice_bounds-order_fault-start
slice_bounds-order_fault-start c =
    let args' = c.args in
    let pre' = c.requires in
    let M = matrix_of args'.found.now.matrix in
    omega (arith, places_long M pre'.known)

pub slice_bounds-order_fault-end-3 : goal.slice_bounds-order_fault-end-3
slice_bounds-order_fault-end-3 c =
    let pre' = c.requires in
    sym (length-take-le _ _ (omega (arith, pre'.n_in_bounds)))

pub order_fault-requires : goal.order_fault-requires
order_fault-requires c =
    let args' = c.args in
    let pre' = c.requires in
    let M = matrix_of args'.found.now.matrix in record { ns_in_bounds = (rw (tail_length args'.found.now.matrix.n args'.found.now.tasks.now (omega (arith, places_long M pre'.known))) (omega (arith, places_long M pre'.known)), omega (arith, fewer pre'.known, length-take-le (args'.found.now.matrix.n + 1) args'.words.now (omega (arith, pre'.n_in_bounds)))); above = above M pre'.known }

pub returns-in_err-order_fault-clause-refused : goal.returns-in_err-order_fault-clause-refused
returns-in_err-order_fault-clause-refused c =
    let M = matrix_of c.args.found.now.matrix in
    let k = c.requires.known in
    rw (exit_is c.from_residual.ensures.1) (refused_order M k c.args.order c.args.list.now c.args.stop (c.in_err-order_fault.ensures (shape_for M) (of M k)))

pub ready-requires : goal.ready-requires
ready-requires c =
    let args' = c.args in
    let order-fault' = c.order_fault in
    let pre' = c.requires in
    let w = front_length (args'.found.now.matrix.n + 1) args'.words.now order-fault'.new.left (omega (arith, pre'.n_in_bounds)) order-fault'.auto.left in record { known = pre'.known; n_in_bounds = (pre'.n_in_bounds.0, omega (arith, pre'.n_in_bounds.1, w), pre'.n_in_bounds.2) }

pub overflow_mul-at : goal.overflow_mul-at
overflow_mul-at c =
    let pre' = c.requires in
    omega (arith, pre'.known.well.small)

pub overflow_add-at : goal.overflow_add-at
overflow_add-at c =
    let pre' = c.requires in
    omega (arith, pre'.known.well.small)

pub offset_bounds-words-at : goal.offset_bounds-words-at
offset_bounds-words-at c =
    let pre' = c.requires in
    omega (arith, pre'.known.well.small)

pub slice_bounds-names-count : goal.slice_bounds-names-count
slice_bounds-names-count c =
    let args' = c.args in
    let order-fault' = c.order_fault in
    let pre' = c.requires in
    let ready' = c.ready in
    let w = front_length (args'.found.now.matrix.n + 1) args'.words.now order-fault'.new.left (omega (arith, pre'.n_in_bounds)) order-fault'.auto.left in
    omega (arith, pre'.n_in_bounds.1, w, ready'.auto.words)

pub slice_bounds-names-start : goal.slice_bounds-names-start
slice_bounds-names-start c =
    let args' = c.args in
    let order-fault' = c.order_fault in
    let pre' = c.requires in
    let ready' = c.ready in
    let w = front_length (args'.found.now.matrix.n + 1) args'.words.now order-fault'.new.left (omega (arith, pre'.n_in_bounds)) order-fault'.auto.left in
    omega (arith, pre'.n_in_bounds.1, w, ready'.auto.words)

pub names-requires : goal.names-requires
names-requires c =
    let args' = c.args in
    let order-fault' = c.order_fault in
    let pre' = c.requires in
    let stop-at' = c.stop_at in
    let ready' = c.ready in
    let M = matrix_of args'.found.now.matrix in
    let w = front_length (args'.found.now.matrix.n + 1) args'.words.now order-fault'.new.left (omega (arith, pre'.n_in_bounds)) order-fault'.auto.left in
    names_asked M pre'.known args'.order args'.list.now args'.stop (c.in_ok-order_fault.ensures (shape_for M) (of M pre'.known)) _ (stop-at'.ensures (shape_for M) (sym pre'.known.number)) ready'.new.words (omega (arith, pre'.n_in_bounds.1, w, ready'.auto.words))

pub returns-clause-ordered : goal.returns-clause-ordered
returns-clause-ordered c =
    let args' = c.args in
    let order-fault' = c.order_fault in
    let pre' = c.requires in
    let stop-at' = c.stop_at in
    let ready' = c.ready in
    let names' = c.names in
    let M = matrix_of args'.found.now.matrix in
    let w = front_length (args'.found.now.matrix.n + 1) args'.words.now order-fault'.new.left (omega (arith, pre'.n_in_bounds)) order-fault'.auto.left in
    prepared M pre'.known args'.order args'.list.now args'.stop (c.in_ok-order_fault.ensures (shape_for M) (of M pre'.known)) _ (stop-at'.ensures (shape_for M) (sym pre'.known.number)) args'.words.now order-fault'.new.left ready'.new.words names'.new.to _ (omega (arith, pre'.n_in_bounds.1)) (order-fault'.auto.left ∙ length-take-le (args'.found.now.matrix.n + 1) args'.words.now (omega (arith, pre'.n_in_bounds))) (ready'.auto.words ∙ w) ready'.ensures.laid ready'.ensures.kept (names'.ensures (shape_for M))
