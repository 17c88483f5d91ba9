-- `analysis::build` meets its contract, phase by phase. Assumes nothing.
use Rattle.analysis.proofs.Verdicts.{nine_short, verdict_none, verdict_some}
use Rattle.analysis.proofs.Linked.{few_in, placed_of, groups_same}
use Rattle.statement.specs.Input.{stored}
use Rattle.laws.proofs.Passed.{exit_is}
use native.Mathlib.Omega.{arith}
use Rattle.analysis.proofs.build.Goals as goal

pub returns-then-room-need-clause-refused : goal.returns-then-room-need-clause-refused
returns-then-room-need-clause-refused c = nine_short (stored c.args.matrix.now.starts.now c.args.matrix.now.rows.now) c.args.matrix.now.n c.args.entries c.args.room c.numbered-sizes.ensures.many c.if-room-need.true

pub filled-found-requires : goal.filled-found-requires
filled-found-requires c =
    let q = c.requires in
    let a = c.args in
    let w = c.numbered-sizes.ensures in
    let f = few_in a.matrix.now.n a.matrix.now.starts.now a.matrix.now.rows.now a.matrix.now.valid q.small w in
    record {
      placed = placed_of a.matrix.now.n a.matrix.now.starts.now a.matrix.now.rows.now a.matrix.now.valid q.small w (omega (arith, q.enough.seven, c.numbered-sizes.auto));
      ns_in_bounds = (omega (arith, f, q.enough.four, c.numbered-sizes.auto), omega (arith, f, q.enough.six, c.numbered-sizes.auto), omega (arith, w.many, c.if-room-need.false, q.rows_value));
    }

pub returns-in_err-verdict-clause-refused : goal.returns-in_err-verdict-clause-refused
returns-in_err-verdict-clause-refused c =
    let f = c.filled-found.ensures.updates_value in
    rw (exit_is c.from_residual.ensures.1) (verdict_some (stored c.args.matrix.now.starts.now c.args.matrix.now.rows.now) c.args.matrix.now.n c.args.entries c.args.room c.numbered-sizes.ensures.many f.0 f.1 c.in_err-verdict.ensures)

pub returns-clause-passed : goal.returns-clause-passed
returns-clause-passed c =
    let a = c.args in
    let w = c.numbered-sizes.ensures in
    let f = c.filled-found.ensures in
    record {
      calm = verdict_none (stored c.args.matrix.now.starts.now c.args.matrix.now.rows.now) c.args.matrix.now.n c.args.entries c.args.room w.many f.updates_value.0 f.updates_value.1 c.in_ok-verdict.ensures;
      numbered = w;
      count = f.updates_value.0;
      four = groups_same w c.numbered-sizes.new.groups a.groups.now f.groups_after (omega (arith, c.numbered-sizes.auto));
      area_nine = f.rows_after;
    }
