-- Bit patterns of NaNs. Assumes nothing.
use mathlib.Core.Path.{◌≡◌, refl, sym, subst, ◌∙◌}
use mathlib.Core.Bool.{Bool, true, not}
use Prim.Native.Nat.{ℕ, ◌%◌, ◌<◌, ◌≤◌}
use borrow.Author.Tests.{lt-ltb, le-ltb}
use lib.Dec.{T}
use lib.Ieee.{Float, nan, inf, fin, binary64, of_bits, is_nan, nan_bits}
use lib.Ieee.Bits.{nan_bits_is, nan_bits_above}

nan_is : (x : Float) → is_nan x ≡ true → nan ≡ x
unfolding is_nan
nan_is nan h = refl
nan_is (inf s) h = cc
nan_is (fin s m e) h = cc

pub nan_pattern : (b : ℕ) → 0x7ff0_0000_0000_0000 < b % 0x8000_0000_0000_0000 → nan ≡ of_bits binary64 b
nan_pattern b h = nan_is (of_bits binary64 b) (sym (nan_bits_is binary64 b) ∙ nan_bits_above binary64 b ∙ lt-ltb _ _ h)

pub no_nan_pattern : (b : ℕ) → b % 0x8000_0000_0000_0000 ≤ 0x7ff0_0000_0000_0000 → T (not (nan_bits binary64 b))
no_nan_pattern b h = subst (λ (t : Bool). T (not t)) (sym (nan_bits_above binary64 b ∙ le-ltb _ _ h)) tt
