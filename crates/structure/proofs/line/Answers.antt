use Rattle.structure.proofs.Climbs.{column_ends, entry_reads, entry_climbs, opened, opened_beyond, lining_begin, lining_more, lining_over}
use Rattle.areas.proofs.Buckets.{beyond_by}
use native.Mathlib.Omega.{arith}
use Rattle.structure.proofs.line.Goals as goal

pub append-requires : goal.append-requires
append-requires c = let q = c.requires in let o = opened _ _ _ _ _ _ _ c.args.numbering.now.given _ q.r_lt_n q.lines in record { k_in_bounds = (o.in_m, o.in_n); k_in_bounds_2 = o.in_l }

pub overflow_add-p-end : goal.overflow_add-p-end
overflow_add-p-end c = let q = c.requires in omega (arith, column_ends _ _ _ _ _ _ _ c.args.numbering.now.given _ q.r_lt_n)

pub offset_bounds-numbering-k : goal.offset_bounds-numbering-k
offset_bounds-numbering-k c = let q = c.requires in omega (arith, column_ends _ _ _ _ _ _ _ c.args.numbering.now.given _ q.r_lt_n)

pub bounds-numbering-k : goal.bounds-numbering-k
bounds-numbering-k c = let q = c.requires in omega (arith, column_ends _ _ _ _ _ _ _ c.args.numbering.now.given _ q.r_lt_n)

pub offset_bounds-numbering-k-2 : goal.offset_bounds-numbering-k-2
offset_bounds-numbering-k-2 c = let q = c.requires in omega (arith, column_ends _ _ _ _ _ _ _ c.args.numbering.now.given _ q.r_lt_n)

pub bounds-numbering-k-2 : goal.bounds-numbering-k-2
bounds-numbering-k-2 c = let q = c.requires in omega (arith, column_ends _ _ _ _ _ _ _ c.args.numbering.now.given _ q.r_lt_n)

pub loop-p-init : goal.loop-p-init
loop-p-init c = let q = c.requires in let a = c.append.ensures in lining_begin _ _ _ _ _ _ _ c.args.numbering.now.given _ q.r_lt_n q.lines a.marks_after a.next_after a.to_after

pub offset_bounds-numbering-i : goal.offset_bounds-numbering-i
offset_bounds-numbering-i c = let q = c.requires in omega (arith, c.well_formed, entry_reads _ _ _ _ _ _ _ c.args.numbering.now.given _ q.r_lt_n _ c.loop-p.invariant.from c.loop-p-test.true)

pub bounds-numbering-i : goal.bounds-numbering-i
bounds-numbering-i c = let q = c.requires in omega (arith, entry_reads _ _ _ _ _ _ _ c.args.numbering.now.given _ q.r_lt_n _ c.loop-p.invariant.from c.loop-p-test.true)

pub offset_bounds-numbering-c : goal.offset_bounds-numbering-c
offset_bounds-numbering-c c = let q = c.requires in omega (arith, c.well_formed, entry_reads _ _ _ _ _ _ _ c.args.numbering.now.given _ q.r_lt_n _ c.loop-p.invariant.from c.loop-p-test.true)

pub bounds-numbering-c : goal.bounds-numbering-c
bounds-numbering-c c = let q = c.requires in omega (arith, entry_reads _ _ _ _ _ _ _ c.args.numbering.now.given _ q.r_lt_n _ c.loop-p.invariant.from c.loop-p-test.true)

pub climb-requires : goal.climb-requires
climb-requires c = let q = c.requires in let e = entry_climbs _ _ _ _ _ _ _ c.args.numbering.now.given _ q.r_lt_n _ c.loop-p.invariant.from c.loop-p-test.true in record { in_row = (q.r_lt_n, e.0, e.1); line = c.loop-p.invariant.line }

pub loop-p-preserved : goal.loop-p-preserved
loop-p-preserved c = let q = c.requires in let a = c.climb.ensures in lining_more _ _ _ _ _ _ _ c.args.numbering.now.given _ q.r_lt_n c.loop-p.invariant c.loop-p-test.true a.line_after a.kept a.marked a.beyond (omega arith) (omega arith)

pub returns : goal.returns
returns c = let q = c.requires in let a = c.append.ensures in record { lines_after = lining_over _ _ _ _ _ _ _ c.args.numbering.now.given _ q.r_lt_n c.loop-p.invariant c.loop-p-test.false; beyond = beyond_by _ (opened_beyond _ _ _ _ _ _ _ c.args.numbering.now.given _ q.r_lt_n q.lines a.marks_after a.next_after a.to_after) c.loop-p.invariant.beyond }
