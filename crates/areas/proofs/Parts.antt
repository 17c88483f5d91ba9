-- What an area holds from its start. Assumes nothing.
use mathlib.Core.Path.{◌≡◌, ap, ◌∙◌}
use mathlib.Core.List.{List, ◌++◌}
use Prim.Native.Nat.{ℕ}
use native.Mathlib.Omega.{arith}
use lib.ListN.{length, get_or, take, length-append, length-take, get_or-append}
use lib.Seq.{get_or-take}
use Rattle.areas.specs.Buckets.{Holds}

-- a list of m
pub holds_part : (x : List ℕ) (m : ℕ) (l d : List ℕ) → length x ≡ m → l ≡ x ++ d → Holds (λ j. get_or x j 0) m l
holds_part x m l d h e = record {
  fits = rw (e, length-append) (omega arith);
  at = λ j k. ap (λ z. get_or z j 0) e ∙ get_or-append x d 0 j (omega arith);
}

-- the first m of another, which holds them
pub holds_copied : {f : ℕ → ℕ} {m : ℕ} {x l : List ℕ} (d : List ℕ) → Holds f m x → l ≡ take m x ++ d → Holds f m l
holds_copied {f} {m} {x} {l} d a e = record {
  fits = omega (arith, ap length e, length-append (take m x) d, length-take m x, a.fits);
  at = λ j h. ap (λ l. get_or l j 0) e ∙ get_or-append (take m x) d 0 j (simp length-take (omega (arith, a.fits))) ∙ get_or-take m x j 0 h ∙ a.at j h;
}
