-- `updates::Supernodes::count_one` meets its contract: `Counting` says where the scan stands. Assumes nothing.
use Rattle.std.proofs.Common.{◌-◌}
use Rattle.updates.specs.Scan.{shaped}
use Rattle.updates.proofs.Turns.{Counting, Ahead}
use Rattle.updates.proofs.Supernodes.count_one.Given as goal

abbrev pub invariant-loop-p : goal.invariant-loop-p
invariant-loop-p l = let m = l.self.matrix in let s = l.self.structure in Counting (shaped m.n m.starts.now m.rows.now) l.k l.initial.counts l.counts l.p × Ahead s.rows.now l.self.owners.now s.firsts.now l.counts l.p l.e

abbrev pub decreases-loop-p : goal.decreases-loop-p
decreases-loop-p l = l.e - l.p
