use mathlib.Core.Path.{◌≡◌, refl}
use native.Mathlib.Omega.{arith}
use lib.Dec.{eqb}
use lib.ListN.{get_or, length-set}
use Rattle.laws.proofs.Tally.{count_to}
use Rattle.factor_lists.proofs.Named.{none_named, one_named}
use Rattle.factor_lists.proofs.count_all.Goals as goal

pub loop-k-init : goal.loop-k-init
loop-k-init c =
    let args' = c.args in
    (omega arith, refl, none_named args'.p.now args'.words.now args'.n c.requires.by_index)

pub offset_bounds-words-v : goal.offset_bounds-words-v
offset_bounds-words-v c =
    let pre' = c.requires in
    let loop' = c.loop-k in
    omega (arith, pre'.by_index_2 loop'.k (omega arith))

pub bounds-words-v : goal.bounds-words-v
bounds-words-v c =
    let pre' = c.requires in
    let loop' = c.loop-k in
    omega (arith, pre'.by_index_2 loop'.k (omega arith))

pub overflow_add-words : goal.overflow_add-words
overflow_add-words c =
    let args' = c.args in
    let loop' = c.loop-k in
    let pre' = c.requires in
    let v = get_or args'.p.now loop'.k 0 in
    omega (arith, loop'.invariant.2 v (pre'.by_index_2 loop'.k (omega arith)), count_to (λ a. eqb (get_or args'.p.now a 0) v) loop'.k)

pub bounds-words-v-in-loop-k : goal.bounds-words-v-in-loop-k
bounds-words-v-in-loop-k c =
    let pre' = c.requires in
    let loop' = c.loop-k in
    omega (arith, pre'.by_index_2 loop'.k (omega arith))

pub loop-k-preserved : goal.loop-k-preserved
loop-k-preserved c =
    let loop' = c.loop-k in
    let args' = c.args in
    let pre' = c.requires in
    (omega arith, simp length-set loop'.invariant.1, one_named args'.p.now loop'.words args'.n loop'.k (omega arith) (pre'.by_index_2 loop'.k (omega arith)) loop'.invariant.2)

pub shape_of-words : goal.shape_of-words
shape_of-words c =
    let loop' = c.loop-k in
    loop'.invariant.1

pub returns : goal.returns
returns c =
    let loop' = c.loop-k in
    let args' = c.args in
    let e : loop'.k ≡ args'.n = omega arith in
    rw e at loop'.invariant.2
