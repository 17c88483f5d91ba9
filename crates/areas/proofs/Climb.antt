-- Numbers that rise strictly gain at least one at each place; where the last is n - 1 above the first they are a run. Assumes nothing.
use mathlib.Core.Path.{◌≡◌, ap}
use Prim.Native.Nat.{ℕ, zero, suc, ◌+◌, ◌-◌, ◌≤◌, ◌<◌}
use native.Mathlib.Omega.{arith}

module _ (f : ℕ → ℕ) (n : ℕ) (rise : (i : ℕ) → suc i < n → f i < f (suc i)) where
  climb : (i d : ℕ) → i + d < n → f i + d ≤ f (i + d)
  climb i zero h = omega (arith, ap f (same i))
    where
      same : (i : ℕ) → i + 0 ≡ i
      same i = omega arith
  climb i (suc d) h = omega (arith, climb i d (omega arith), rise (i + d) (omega arith), ap f (next i d))
    where
      next : (i d : ℕ) → i + suc d ≡ suc (i + d)
      next i d = omega arith

  pub reach : (i : ℕ) → i < n → f 0 + i ≤ f i
  reach i h = omega (arith, climb 0 i (omega arith), ap f same)
    where
      same : 0 + i ≡ i
      same = omega arith

  pub run : f (n - 1) - f 0 ≡ n - 1 → (i : ℕ) → i < n → f i ≡ f 0 + i
  run e i h = omega (arith, reach i h, climb i (n - 1 - i) (omega arith), ap f last)
    where
      last : i + (n - 1 - i) ≡ n - 1
      last = omega arith
