-- `updates::scan_one` meets its contract: `Scanning` says where the scan stands. Assumes nothing.
use Rattle.std.proofs.Common.{◌-◌}
use Rattle.updates.specs.Scan.{shaped}
use Rattle.updates.proofs.Scanning.{Scanning, Ahead}
use Rattle.updates.proofs.scan_one.Given as goal

abbrev pub invariant-loop-p : goal.invariant-loop-p
invariant-loop-p l = let m = l.matrix in let s = l.structure in Scanning (shaped m.n m.starts.now m.rows.now) m.n l.k l.initial.words l.words l.p l.i × Ahead m.n s.rows.now s.firsts.now l.words l.p l.e l.i l.base

abbrev pub decreases-loop-p : goal.decreases-loop-p
decreases-loop-p l = l.e - l.p
