-- Positions that rise: each is its own, and where the last is n - 1 after the first they are a run. Assumes nothing.
use mathlib.Core.Path.{◌≡◌, ap}
use mathlib.Core.Bool.{true}
use mathlib.Core.List.{List}
use Prim.Native.Nat.{ℕ, suc, ◌+◌, ◌-◌, ◌≤◌, ◌<◌}
use borrow.Author.Tests.{eqb-true}
use native.Mathlib.Omega.{arith}
use lib.ListN.{length, get_or}
use lib.Dec.{eqb}
use lib.Ieee.{Float, nan}
use Rattle.areas.specs.Touch.{Touched}
use Rattle.areas.proofs.Climb.{reach, run}
use Rattle.areas.proofs.Touch as touch
use Rattle.spread.specs.Spread.{pos_of, through, Spread, Rises, Rising, Run}

-- the position of the first, as the code reads it
abbrev first : List ℕ → List ℕ → ℕ → ℕ
first place rows at = get_or place (get_or rows at 0) 0

module _ (place rows : List ℕ) (at n : ℕ) (t : Rises place rows at n) where
  abbrev P : ℕ → ℕ
  P i = pos_of place rows at i

  next : (i : ℕ) → suc i < n → P i < P (suc i)
  next i h = t.rise (suc i) i (omega arith) h

  same : at + 0 ≡ at
  same = omega arith

  row_first : get_or rows (at + 0) 0 ≡ get_or rows at 0
  row_first = ap (λ x. get_or rows x 0) same

  first-is : P 0 ≡ first place rows at
  first-is = ap (λ x. get_or place x 0) row_first

  pub known_first : get_or rows at 0 < length place
  known_first = omega (arith, row_first, t.known 0 t.some)

  pub known_last : get_or rows (at + (n - 1)) 0 < length place
  known_last = t.known (n - 1) (omega (arith, t.some))

  pub in_order : first place rows at ≤ P (n - 1)
  in_order = omega (arith, first-is, reach P n next (n - 1) (omega (arith, t.some)))

  -- the test, which compares with x
  pub run_of : (x : ℕ) → eqb (P (n - 1) - first place rows at) x ≡ true → x ≡ n - 1 → Run place rows at n
  run_of x e h = run P n next (omega (arith, first-is, eqb-true (P (n - 1) - first place rows at) x e))

  pub of_run : Run place rows at n → P (n - 1) - first place rows at ≡ n - 1
  of_run r = omega (arith, first-is, r (n - 1) (omega (arith, t.some)))

module _ {place rows : List ℕ} {base at n L : ℕ} (t : Rising place rows base at n L) where
  pub spread_of : Spread place rows base at n L
  spread_of =
      record {
        listed = t.rises.listed;
        known = t.rises.known;
        within = t.within;
        apart = λ i k l g s. omega (arith, t.rises.rise i k g l);
      }

  -- the part of a longer list from a on
  pub shifted : (a L' : ℕ) → a + L ≤ L' → Rising place rows (a + base) at n L'
  shifted a L' h = record { rises = t.rises; within = λ i l. omega (arith, t.within i l) }

  module _ (r : Run place rows at n) where
    there : (i : ℕ) → i < n → base + first place rows at + i ≡ through place rows base at i
    there i h = omega (arith, first-is place rows at n t.rises, r i h)

    pub room : base + first place rows at + n ≤ L
    room = omega (arith, there (n - 1) (omega (arith, t.rises.some)), t.within (n - 1) (omega (arith, t.rises.some)), t.rises.some)

    -- the same change by its run and by its places; g i x is what comes of x at place i
    pub as_run : (g : ℕ → Float → Float) (old new : List Float) →
        Touched nan old new n (λ i. base + first place rows at + i) (λ i. g i (get_or old (base + first place rows at + i) nan)) →
        Touched nan old new n (through place rows base at) (λ i. g i (get_or old (through place rows base at i) nan))
    as_run g old new u =
        touch.recast nan old new n (through place rows base at) _ _
        (touch.repos nan old new n (λ i. base + first place rows at + i) (through place rows base at) _ u there)
        (λ i h. ap (λ x. g i (get_or old x nan)) (there i h))
