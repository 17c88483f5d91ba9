-- A part written over zeros: the area then holds it. Assumes nothing.
use mathlib.Core.Path.{◌≡◌, ap, ◌∙◌}
use mathlib.Core.List.{List, ◌++◌}
use Prim.Native.Nat.{ℕ, ◌-◌}
use lib.ListN.{length, drop, replicate}
use Rattle.std.proofs.lemmas.List.{drop-replicate}
use Rattle.statement.specs.Areas.{held}

module _ {A : Type 0} where
  -- k is the part's length, and d was zero
  pub held_over : (m : ℕ) (z : A) (part : List A) {d l : List A} (k : ℕ) → k ≡ length part → d ≡ replicate m z → l ≡ part ++ drop k d → l ≡ held m z part
  unfolding held
  held_over m z part {d} k e f g = g ∙ ap (λ x. part ++ x) (ap (drop k) f ∙ drop-replicate k m z ∙ ap (λ x. replicate (m - x) z) e)
