-- `lower::Upper::begin_lines` meets its contract. Assumes nothing.
use Rattle.areas.proofs.Parts.{holds_copied}
use Rattle.areas.proofs.Buckets.{holds_less}
use Rattle.lower.proofs.Passes.{counts_small}
use Rattle.lower.proofs.Bridge.{starts_hold}
use Rattle.std.proofs.Common.{arith, rules, drop}
use Rattle.lower.proofs.Upper.begin_lines.Goals as goal

pub sums-requires-clause-by_index : goal.sums-requires-clause-by_index
sums-requires-clause-by_index c = let a = c.args.self.now in λ j h. omega (arith, a.sited.small, counts_small a.matrix.n a.matrix.starts.now a.matrix.rows.now c.count_lines.ensures j h)

pub returns : goal.returns
returns c =
    let m = c.args.self.now.matrix in
    let h = starts_hold m.n m.starts.now m.rows.now _ _ _ c.count_lines.ensures c.sums.ensures in
    record { holds = h; holds_2 = holds_copied (drop m.n c.count_lines.new.counts) (holds_less m.n (omega arith) h) (search rules) }
