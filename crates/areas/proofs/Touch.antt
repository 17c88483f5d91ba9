-- Laws of `Touched`. Assumes nothing.
use mathlib.Core.Path.{◌≡◌, refl, sym, ap, ◌∙◌, subst}
use mathlib.Core.List.{List}
use Prim.Native.Nat.{ℕ, ◌+◌, ◌≤◌, ◌<◌}
use native.Mathlib.Omega.{arith}
use native.Mathlib.Decide.{ℕ_discrete}
use lib.ListN.{length, get_or, set, length-set}
use lib.Seq.{get_or-set_same, get_or-set_other}
use Rattle.areas.specs.Touch.{Touched}

module _ {X : Type 0} (z : X) (old : List X) (pos : ℕ → ℕ) (f : ℕ → X) where
  pub none : Touched z old old 0 pos f
  none = record { size = refl; inside = λ i h. absurd (omega arith); outside = λ p h. refl }

  -- one more store, at a place that no store before has
  pub more : (new : List X) (i : ℕ) (p : ℕ) (x : X) → Touched z old new i pos f → p ≡ pos i → p < length old →
      ((k : ℕ) → k < i → pos k ≡ pos i → ⊥) → x ≡ f i → Touched z old (set new p x) (i + 1) pos f
  more new i p x t e h apart v =
      record {
        size = length-set new p x ∙ t.size;
        inside = λ k q. at k q (ℕ_discrete k i);
        outside = λ r q. get_or-set_other new p r x z (λ d. q i (omega arith) (sym e ∙ sym d)) ∙ t.outside r (λ k l. q k (omega arith));
      }
    where
      at : (k : ℕ) → k < i + 1 → Dec (k ≡ i) → get_or (set new p x) (pos k) z ≡ f k
      at k q (yes d) = ap (λ k. get_or (set new p x) (pos k) z) d ∙ ap (λ r. get_or (set new p x) r z) (sym e) ∙ get_or-set_same new p x z (omega (arith, t.size)) ∙ v ∙ ap f (sym d)
      at k q (no d) = get_or-set_other new p (pos k) x z (λ s. apart k (omega arith) (s ∙ e)) ∙ t.inside k (omega arith)

  pub end : (new : List X) (i n : ℕ) → Touched z old new i pos f → i ≤ n → n ≤ i → Touched z old new n pos f
  end new i n t p q = subst (λ k. Touched z old new k pos f) (same i n p q) t
    where
      same : (i n : ℕ) → i ≤ n → n ≤ i → i ≡ n
      same i n p q = omega arith

module _ {X : Type 0} (z : X) (a b : List X) (n : ℕ) (pos : ℕ → ℕ) (f h : ℕ → X) where
  -- the same values by another name
  pub recast : Touched z a b n pos f → ((i : ℕ) → i < n → f i ≡ h i) → Touched z a b n pos h
  recast t e = record { size = t.size; inside = λ i q. t.inside i q ∙ e i q; outside = t.outside }

  -- the same places stored to again
  pub again : (c : List X) (g : ℕ → X) → Touched z a b n pos f → Touched z b c n pos g → ((i : ℕ) → i < n → g i ≡ h i) → Touched z a c n pos h
  again c g t u e =
      record { size = u.size ∙ t.size; inside = λ i q. u.inside i q ∙ e i q; outside = λ p q. u.outside p q ∙ t.outside p q }

-- the same places by another name
pub repos : {X : Type 0} (z : X) (a b : List X) (n : ℕ) (pos pos' : ℕ → ℕ) (f : ℕ → X) → Touched z a b n pos f → ((i : ℕ) → i < n → pos i ≡ pos' i) → Touched z a b n pos' f
repos z a b n pos pos' f t e =
    record {
      size = t.size;
      inside = λ i h. ap (λ x. get_or b x z) (sym (e i h)) ∙ t.inside i h;
      outside = λ p q. t.outside p (λ i h s. q i h (sym (e i h) ∙ s));
    }
