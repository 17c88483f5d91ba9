-- `products::clear` meets its contract. What fill leaves, place by place. Assumes nothing.
use mathlib.Core.Path.{◌≡◌, refl, ap, ◌∙◌}
use mathlib.Core.List.{List, ◌++◌}
use Prim.Native.Nat.{ℕ, ◌+◌, ◌-◌, ◌≤◌, ◌<◌}
use native.Mathlib.Omega.{arith}
use lib.Ieee.{Float, nan}
use lib.ListN.{length, get_or, drop, length-append, length-drop, get_or-append}
use lib.Seq.{length-take-le, get_or-drop, get_or-append_right}
use Rattle.std.proofs.lemmas.List.{get_or-replicate}
use Rattle.statement.specs.Input.{+0}
use Rattle.areas.specs.Touch.{Touched}
use Rattle.products.proofs.Floats.{zero_is}
use Rattle.products.proofs.clear.Goals as goal

filled : (w x : List Float) (n : ℕ) → n ≤ length w → length x ≡ n → ((i : ℕ) → i < n → get_or x i nan ≡ +0) → Touched nan w (x ++ drop n w) n (λ i. i) (λ i. +0)
filled w x n h l f =
    record {
      size = omega (arith, length-append x (drop n w), length-drop n w);
      inside = λ i p. get_or-append x (drop n w) nan i (omega arith) ∙ f i p;
      outside = λ p k. past p (λ h. k p h refl);
    }
  where
    here : (p : ℕ) → (p < n → ⊥) → n + (p - length x) ≡ p
    here p k = omega arith

    past : (p : ℕ) → (p < n → ⊥) → get_or (x ++ drop n w) p nan ≡ get_or w p nan
    past p k = get_or-append_right x (drop n w) p nan (omega arith) ∙ get_or-drop n w (p - length x) nan ∙ ap (λ i. get_or w i nan) (here p k)

pub returns : goal.returns
returns c =
    let a = c.args in
    let is = c.fill.ensures.after (λ y e. e) in
    let l = c.fill.ensures.len ∙ length-take-le a.n a.w.now c.requires in
    filled a.w.now _ a.n c.requires l (λ i h. ap (λ x. get_or x i nan) is ∙ get_or-replicate _ i _ nan (omega (arith, length-take-le a.n a.w.now c.requires)) ∙ zero_is)
