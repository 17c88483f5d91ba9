-- `panels::dense` meets its contract. After c columns: those meet the rules, and the later ones are as they were. Assumes nothing.
use Rattle.panels.proofs.Denses as den
use Rattle.laws.specs.Lower.{lower_value}
use lib.ListN.{length}
use Prim.Native.Nat.{◌+◌, ◌≤◌}
use mathlib.Core.Path.{◌≡◌}
use Rattle.panels.proofs.dense.Given as goal

abbrev pub invariant-loop-c : goal.invariant-loop-c
invariant-loop-c l = (l.c ≤ l.w) × (length l.work ≡ length l.initial.work) × den.Sofar l.m (λ c. lower_value l.lower.starts.now l.lower.rows.now l.lower.values.now (l.f + c) (l.f + c)) l.initial.own l.own l.c
