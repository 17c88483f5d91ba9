-- The whole number nearest a root, by the test that it is. Assumes nothing.
use Rattle.std.proofs.Common.{◌≡◌, ℕ, ◌+◌, ◌-◌, ◌*◌, ◌/◌, ◌%◌, ◌^◌, ◌<◌, ◌≤◌, sym, ap, ◌∙◌, le_of_lt, mod-lt, mul_assoc, mul_comm, mul-le-mul, div-add-mod', arith}
use native.Mathlib.Nat.{mul-mul-mul_comm}
use native.Mathlib.Decide.{dec_lt}
use Rattle.statement.specs.Root.{near_root}
use Rattle.laws.proofs.RootWhole.{square_sum, near_under, near_over}

half : (p : ℕ) → (2 * p + 1) * (2 * p + 1) ≡ 4 * (p * p) + 4 * p + 1
half p = omega (arith, square_sum (2 * p) 1, mul-mul-mul_comm 2 p 2 p)

too_high : (n q p : ℕ) → q ≡ p + 1 → q * q < n + q → 2 * near_root n + 1 ≤ 2 * p + 1 → ⊥
too_high n q p e lo l = omega (arith, near_over n (2 * p + 1) l, half p, ap (λ x. x * x) e, square_sum p 1)

too_low : (n q : ℕ) → n ≤ q * q + q → 2 * q + 1 + 1 ≤ 2 * near_root n → ⊥
too_low n q hi l = omega (arith, near_under n (2 * q + 1) l, half q)

near_is : (n q : ℕ) → q * q < n + q → n ≤ q * q + q → q ≡ near_root n
near_is n q lo hi = go (dec_lt (near_root n) q) (dec_lt q (near_root n))
  where
    go : Dec (near_root n < q) → Dec (q < near_root n) → q ≡ near_root n
    go (yes l) d = absurd (too_high n q (q - 1) (omega arith) lo (omega arith))
    go (no a) (yes l) = absurd (too_low n q hi (omega arith))
    go (no a) (no b) = omega arith

-- q by halves of 27 digits
square_halves : (q h l : ℕ) → q ≡ h * 0x800_0000 + l → q * q ≡ h * h * 0x40_0000_0000_0000 + h * l * 0x1000_0000 + l * l
square_halves q h l e =
    omega (arith, ap (λ x. x * x) e, square_sum (h * 0x800_0000) l, mul-mul-mul_comm h 0x800_0000 h 0x800_0000, ap (λ x. x * l) (mul_comm h 0x800_0000) ∙ mul_assoc 0x800_0000 h l)

tested : (v q h l d e : ℕ) → q ≡ h * 0x800_0000 + l → d + 4 * (h * h) ≡ v → e + h * l ≡ d * 0x100_0000 + 0x1000_0000 →
    l * l + 0x100_0000_0000_0000 < e * 0x1000_0000 + q → e * 0x1000_0000 ≤ l * l + 0x100_0000_0000_0000 + q → q ≡ near_root (v * 2 ^ 52)
tested v q h l d e s a b lo hi = near_is (v * 2 ^ 52) q (omega (arith, square_halves q h l s)) (omega (arith, square_halves q h l s))

-- as the code has them
module _ (q : ℕ) (f : q ≤ 2 ^ 53) where
  abbrev h : ℕ
  h = q / 0x800_0000

  abbrev l : ℕ
  l = q % 0x800_0000

  upper : h ≤ 0x400_0000
  upper = omega (arith, div-add-mod' q 0x800_0000)

  lower : l ≤ 0x800_0000
  lower = le_of_lt (mod-lt q (omega arith))

  pub square_upper : h * h ≤ 0x10_0000_0000_0000
  square_upper = mul-le-mul upper upper

  pub cross : h * l ≤ 0x20_0000_0000_0000
  cross = mul-le-mul upper lower

  pub square_lower : l * l ≤ 0x40_0000_0000_0000
  square_lower = mul-le-mul lower lower

  pub passed : (v d e : ℕ) → d ≡ v - 4 * (h * h) → 4 * (h * h) ≤ v → e ≡ d * 0x100_0000 + 0x1000_0000 - h * l → h * l ≤ d * 0x100_0000 + 0x1000_0000 →
      l * l + 0x100_0000_0000_0000 < e * 0x1000_0000 + q → e * 0x1000_0000 ≤ l * l + 0x100_0000_0000_0000 + q → q ≡ near_root (v * 2 ^ 52)
  passed v d e i a j b lo hi = tested v q h l d e (sym (div-add-mod' q 0x800_0000)) (omega arith) (omega arith) lo hi
