-- `analysis::numbered` meets its contract, call by call. Assumes nothing.
use Rattle.analysis.proofs.Linked.{known, few_of, counts_hold, parents_hold, owners_hold, numbered}
use native.Mathlib.Omega.{arith}
use Rattle.analysis.proofs.numbered.Goals as goal

pub numbering-ns-requires : goal.numbering-ns-requires
numbering-ns-requires c =
    let pre' = c.requires in
    let q = pre' in record { enough = record { one = q.enough.one; two = q.enough.two; three = q.enough.three; four = omega (arith, q.enough.four); five = omega (arith, q.enough.five); six = q.enough.six; seven = q.enough.seven }; top_value = q.top_value }

pub invariant_of-supernodes : goal.invariant_of-supernodes
invariant_of-supernodes c =
    let a = c.args in
    record { known = known a.matrix.now.n a.matrix.now.starts.now a.matrix.now.rows.now a.matrix.now.valid c.requires.small c.numbering-ns.ensures }

pub node_starts-rows-requires : goal.node_starts-rows-requires
node_starts-rows-requires c =
    let q = c.requires in
    let a = c.args in
    let w = c.numbering-ns.ensures in
    let ns = few_of a.matrix.now.n a.matrix.now.starts.now a.matrix.now.rows.now a.matrix.now.valid q.small w.number in
    record {
      counted = counts_hold a.matrix.now.n a.matrix.now.starts.now a.matrix.now.rows.now a.matrix.now.valid q.small w;
      parented = parents_hold a.matrix.now.n a.matrix.now.starts.now a.matrix.now.rows.now a.matrix.now.valid q.small w;
      owned = owners_hold a.matrix.now.n a.matrix.now.starts.now a.matrix.now.rows.now a.matrix.now.valid q.small w (omega (arith, q.enough.seven));
      room = (omega (arith, ns, q.enough.three), omega (arith, ns, q.enough.five));
    }

pub returns : goal.returns
returns c =
    let pre' = c.requires in
    let args' = c.args in
    let node-starts' = c.node_starts-rows in
    let numbering' = c.numbering-ns in
    let q = pre' in let a = args' in let e = node-starts'.ensures in numbered a.matrix.now.n a.matrix.now.starts.now a.matrix.now.rows.now a.matrix.now.valid q.small numbering'.ensures e.value e.starts_after e.tasks_after
