-- `parts::copy` meets its contract: the places before i have what from has there. Assumes nothing.
use Rattle.std.proofs.Common.{◌≡◌, length, ◌≤◌, ◌++◌, take, drop}
use Rattle.parts.proofs.copy.Given as goal

abbrev pub invariant-loop-i : goal.invariant-loop-i
invariant-loop-i g l = record {
  reached : l.i ≤ length l.from;
  is : l.to ≡ take l.i l.from ++ drop l.i l.initial.to;
}
