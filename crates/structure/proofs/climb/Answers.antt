use Rattle.structure.proofs.Climbs.{pattern_upper, climbing_begin, climbing_below, climbing_rise, climbing_step, climbing_over}
use native.Mathlib.Omega.{arith}
use Rattle.structure.proofs.climb.Goals as goal

pub loop-marks-init : goal.loop-marks-init
loop-marks-init c = let q = c.requires in climbing_begin _ _ (pattern_upper _ _ _ c.args.numbering.now.given.formed) _ q.in_row.0 q.in_row.1 q.in_row.2 q.line

pub append-requires : goal.append-requires
append-requires c = let q = c.requires in omega (arith, climbing_below _ _ (pattern_upper _ _ _ c.args.numbering.now.given.formed) _ q.in_row.0 c.loop-marks.invariant c.loop-marks-test.true)

pub loop-marks-smaller : goal.loop-marks-smaller
loop-marks-smaller c = let q = c.requires in let w = c.loop-marks.invariant in omega (arith, c.args.numbering.now.given.up_is.at _ w.in_nodes, c.args.numbering.now.given.up_is.fits, climbing_rise _ _ (pattern_upper _ _ _ c.args.numbering.now.given.formed) _ q.in_row.0 w c.loop-marks-test.true)

pub loop-marks-preserved : goal.loop-marks-preserved
loop-marks-preserved c = let q = c.requires in let w = c.loop-marks.invariant in let a = c.append.ensures in climbing_step _ _ (pattern_upper _ _ _ c.args.numbering.now.given.formed) _ q.in_row.0 w c.loop-marks-test.true a.marks_after a.next_after a.to_after (c.args.numbering.now.given.up_is.at _ w.in_nodes)

pub returns : goal.returns
returns c = let q = c.requires in let rest' = climbing_over _ _ (pattern_upper _ _ _ c.args.numbering.now.given.formed) _ q.in_row.0 c.loop-marks.invariant c.loop-marks-test.false in record { line_after = rest'.0; kept = rest'.1.0; marked = rest'.1.1.0; beyond = rest'.1.1.1 }
