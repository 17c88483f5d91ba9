-- `root::near_root` meets its contract. The invariant of its loop: b is the place's weight, what q's digits leave of the radicand is z * b, and less than the next digit would take.
-- Assumes nothing.
use Rattle.std.proofs.Common.{◌≡◌, ℕ, ◌+◌, ◌-◌, ◌*◌, ◌^◌, ◌<◌, ◌≤◌}
use Rattle.root.proofs.near_root.Given as goal

pub record Digits (v i b q z : ℕ) : Type 0 where
  pub turns : i ≤ 52
  pub place : b ≡ 2 ^ (52 - i)
  pub left : z * b + q * q ≡ v * 2 ^ 52
  pub less : z < 2 * q + b
  pub room : q + b ≤ 2 ^ 53

abbrev pub invariant-loop-i : goal.invariant-loop-i
invariant-loop-i l = Digits l.v l.i l.b l.q l.z

abbrev pub decreases-loop-i : goal.decreases-loop-i
decreases-loop-i l = 52 - l.i
