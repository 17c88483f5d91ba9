-- One turn of a loop that stores through the positions. Assumes nothing.
use mathlib.Core.Path.{◌≡◌, refl}
use mathlib.Core.List.{List}
use Prim.Native.Nat.{ℕ, ◌+◌, ◌<◌}
use native.Mathlib.Omega.{arith}
use lib.ListN.{length, get_or, set}
use lib.Ieee.{Float, nan}
use Rattle.areas.specs.Touch.{Touched}
use Rattle.areas.proofs.Touch as touch
use Rattle.spread.specs.Spread.{through, Spread}

module _ {place rows : List ℕ} {base at n : ℕ} {old new : List Float} {i : ℕ} {f : ℕ → Float} (s : Spread place rows base at n (length old)) (h : i < n)
    (t : Touched nan old new i (through place rows base at) f) where
  pub room : through place rows base at i < length new
  room = omega (arith, s.within i h, t.size)

  -- nothing was stored there before, nor before the base
  pub kept : get_or new (through place rows base at i) nan ≡ get_or old (through place rows base at i) nan
  kept = t.outside (through place rows base at i) (λ k l. s.apart i k h l)

  pub below : (p : ℕ) → p < base → get_or new p nan ≡ get_or old p nan
  below p l = t.outside p (λ k m e. omega arith)

  pub more : (x : Float) → x ≡ f i → Touched nan old (set new (through place rows base at i) x) (i + 1) (through place rows base at) f
  more x e = touch.more nan old (through place rows base at) f new i _ x t refl (s.within i h) (λ k l. s.apart i k h l) e
