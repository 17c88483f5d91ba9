use Rattle.lower.proofs.Passes.{putting_begin, putting_more, putting_ahead, putting_over}
use Rattle.std.proofs.Common.{arith}
use Rattle.lower.proofs.Upper.put_line.Goals as goal

pub loop-p-init : goal.loop-p-init
loop-p-init c = let a = c.args.self.now in let e = c.line-entries.ensures in putting_ahead _ _ _ _ _ a.sited _ c.requires.r_lt_n _ a.beside (putting_begin _ _ _ _ _ a.sited _ c.requires.r_lt_n _ a.beside e.begins c.requires.put) e.ends

pub loop-p-preserved : goal.loop-p-preserved
loop-p-preserved c =
    let a = c.args.self.now in
    let e = c.line-entries.ensures in
    let w = c.append.ensures in
    putting_ahead _ _ _ _ _ a.sited _ c.requires.r_lt_n _ a.beside (putting_more _ _ _ _ _ a.sited _ c.requires.r_lt_n _ a.beside c.loop-p.invariant.0 (omega arith) w.next_after w.to_rows_after w.to_values_after) e.ends

pub returns : goal.returns
returns c = let a = c.args.self.now in let w = c.loop-p.invariant.0 in record { put_2 = putting_over _ _ _ _ _ a.sited _ c.requires.r_lt_n _ a.beside w (omega arith); beyond = w.beyond_rows; beyond_2 = w.beyond_values }
