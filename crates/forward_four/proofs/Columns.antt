-- What a column whose rows follow each other leaves at each place, and what four of them do. Assumes nothing.
use mathlib.Core.Path.{◌≡◌, refl, sym, ap, ap₂, ◌∙◌}
use mathlib.Core.Logic.{◌⊎◌, inl, inr, ⊎_elim}
use mathlib.Core.List.{List, [], ◌∷◌}
use Prim.Native.Nat.{ℕ, zero, suc, ◌+◌, ◌-◌, ◌≤◌, ◌<◌}
use native.Mathlib.Omega.{arith}
use native.Mathlib.Decide.{ℕ_discrete, dec_lt}
use lib.ListN.{length, get_or, set, drop, length-set, length-drop}
use lib.Seq.{get_or-set_same, get_or-set_other, get_or-drop, ext_get_or}
use lib.Ieee.{Float, nan, binary64, sub, mul, div}
use Rattle.statement.specs.Lists.{rising}
use Rattle.statement.specs.Input.{+0}
use Rattle.statement.specs.Solve.{less_below}
use Rattle.areas.specs.Touch.{Touched}
use Rattle.areas.proofs.Lists.{get_d_any}
use Rattle.forward_four.specs.Four.{less, column, Four}

-- z is x, less the products of l with y at the places from `at`
record Less (x z l : List Float) (y : Float) (at : ℕ) : Type 0 where
  pub size : length z ≡ length x
  pub inside : (p k : ℕ) → p ≡ at + k → k < length l → get_or z p nan ≡ less l y k (get_or x p nan)
  pub outside : (p : ℕ) → (p < at) ⊎ (at + length l ≤ p) → get_or z p nan ≡ get_or x p nan

-- one place more, at the front
module _ (x z l : List Float) (y a : Float) (at : ℕ) (h : at < length x) where
  abbrev here : Float
  here = sub binary64 (get_or x at +0) (mul binary64 a y)

  less_more : Less (set x at here) z l y (suc at) → Less x z (a ∷ l) y at
  less_more t = record {
    size = t.size ∙ length-set x at here;
    inside = in';
    outside = λ p o. t.outside p (⊎_elim (λ u. inl (omega arith)) (λ u. inr (omega arith)) o) ∙ get_or-set_other x at p here nan (⊎_elim (λ u s. omega arith) (λ u s. omega arith) o);
  }
    where
      in' : (p k : ℕ) → p ≡ at + k → k < suc (length l) → get_or z p nan ≡ less (a ∷ l) y k (get_or x p nan)
      in' p zero e q =
          let s : p ≡ at = omega arith in
          t.outside p (inl (omega arith)) ∙ ap (λ i. get_or (set x at here) i nan) s ∙ get_or-set_same x at here nan h ∙ ap (λ u. sub binary64 u (mul binary64 a y)) (get_d_any x at +0 nan h ∙ ap (λ i. get_or x i nan) (sym s))
      in' p (suc k) e q = t.inside p k (omega arith) (omega arith) ∙ ap (less l y k) (get_or-set_other x at p here nan (λ s. omega arith))

less_run : (l x : List Float) (y : Float) (at : ℕ) → at + length l ≤ length x → Less x (less_below x y (rising at (length l)) l) l y at
unfolding less_below rising
less_run [] x y at h = record { size = refl; inside = λ p k e l. absurd (omega arith); outside = λ p o. refl }
less_run (a ∷ l) x y at h = less_more x _ l y a at (omega arith) (less_run l (set x at (sub binary64 (get_or x at +0) (mul binary64 a y))) y (suc at) (omega (arith, length-set x at (sub binary64 (get_or x at +0) (mul binary64 a y)))))

-- z is x with column q done: y is its quotient
record Done (x z : List Float) (q : ℕ) (l : List Float) (y : Float) : Type 0 where
  pub size : length z ≡ length x
  pub top : get_or z q nan ≡ y
  pub below : (p k : ℕ) → p ≡ q + k → 0 < k → k < length l → get_or z p nan ≡ less l y k (get_or x p nan)
  pub outside : (p : ℕ) → (p < q) ⊎ (q + length l ≤ p) → get_or z p nan ≡ get_or x p nan

column_done : (x : List Float) (q : ℕ) (l : List Float) (y : Float) → 0 < length l → q + length l ≤ length x → y ≡ div binary64 (get_or x q nan) (get_or l 0 nan) → Done x (column x q l) q l y
column_done x q l y h r e = record {
  size = ap length is ∙ t.size ∙ length-set x q y;
  top = at_z q ∙ t.outside q (inl (omega arith)) ∙ get_or-set_same x q y nan (omega arith);
  below = λ p k s a b.
      at_z p ∙
      t.inside p (k - 1) (omega arith) (omega (arith, length-drop 1 l)) ∙
      ap₂ (λ u w. sub binary64 w (mul binary64 u y)) (get_or-drop 1 l (k - 1) nan ∙ ap (λ i. get_or l i nan) (let z : 1 + (k - 1) ≡ k = omega arith in z)) (get_or-set_other x q p y nan (λ i. omega arith));
  outside = λ p o.
      at_z p ∙
      t.outside p (⊎_elim (λ u. inl (omega arith)) (λ u. inr (omega (arith, length-drop 1 l))) o) ∙
      get_or-set_other x q p y nan (⊎_elim (λ u i. omega arith) (λ u i. omega arith) o);
}
  where
    is : column x q l ≡ less_below (set x q y) y (rising (q + 1) (length (drop 1 l))) (drop 1 l)
    is = unfold column in rw (get_d_any x q +0 nan (let z : q < length x = omega arith in z), get_d_any l 0 +0 nan h, ← e, length-drop 1 l)

    at_z : (p : ℕ) → get_or (column x q l) p nan ≡ get_or (less_below (set x q y) y (rising (q + 1) (length (drop 1 l))) (drop 1 l)) p nan
    at_z p = ap (λ z. get_or z p nan) is

    t : Less (set x q y) (less_below (set x q y) y (rising (q + 1) (length (drop 1 l))) (drop 1 l)) (drop 1 l) y (q + 1)
    t = less_run (drop 1 l) (set x q y) y (q + 1) (omega (arith, length-drop 1 l, length-set x q y))

module _ (x l₀ l₁ l₂ l₃ : List Float) (q : ℕ) (h : Four l₀ l₁ l₂ l₃ q (length x)) where
  -- the four quotients
  abbrev y₀ : Float
  y₀ = div binary64 (get_or x q nan) (get_or l₀ 0 nan)

  abbrev y₁ : Float
  y₁ = div binary64 (less l₀ y₀ 1 (get_or x (q + 1) nan)) (get_or l₁ 0 nan)

  abbrev y₂ : Float
  y₂ = div binary64 (less l₁ y₁ 1 (less l₀ y₀ 2 (get_or x (q + 2) nan))) (get_or l₂ 0 nan)

  abbrev y₃ : Float
  y₃ = div binary64 (less l₂ y₂ 1 (less l₁ y₁ 2 (less l₀ y₀ 3 (get_or x (q + 3) nan)))) (get_or l₃ 0 nan)

  -- x after one, two, three and four columns
  abbrev x₁ : List Float
  x₁ = column x q l₀

  abbrev x₂ : List Float
  x₂ = column x₁ (q + 1) l₁

  abbrev x₃ : List Float
  x₃ = column x₂ (q + 2) l₂

  abbrev x₄ : List Float
  x₄ = column x₃ (q + 3) l₃

  d₀ : Done x x₁ q l₀ y₀
  d₀ = column_done x q l₀ y₀ (omega (arith, h.first)) h.room refl

  -- at place q + k for k from 1 on
  in₁ : (p k : ℕ) → p ≡ q + k → 0 < k → k < length l₀ → get_or x₁ p nan ≡ less l₀ y₀ k (get_or x p nan)
  in₁ = d₀.below

  d₁ : Done x₁ x₂ (q + 1) l₁ y₁
  d₁ = column_done x₁ (q + 1) l₁ y₁ (omega (arith, h.second)) (omega (arith, h.room, h.first, h.second, d₀.size)) (ap (λ u. div binary64 u (get_or l₁ 0 nan)) (sym (in₁ (q + 1) 1 refl (omega arith) (omega (arith, h.first, h.some)))))

  in₂ : (p k j : ℕ) → p ≡ q + 1 + k → p ≡ q + j → 0 < k → k < length l₁ → get_or x₂ p nan ≡ less l₁ y₁ k (less l₀ y₀ j (get_or x p nan))
  in₂ p k j e g a b = d₁.below p k e a b ∙ ap (less l₁ y₁ k) (in₁ p j g (omega arith) (omega (arith, h.first, h.second)))

  d₂ : Done x₂ x₃ (q + 2) l₂ y₂
  d₂ = column_done x₂ (q + 2) l₂ y₂ (omega (arith, h.third)) (omega (arith, h.room, h.first, h.third, d₀.size, d₁.size)) (ap (λ u. div binary64 u (get_or l₂ 0 nan)) (sym (in₂ (q + 2) 1 2 (omega arith) refl (omega arith) (omega (arith, h.second, h.some)))))

  in₃ : (p k j i : ℕ) → p ≡ q + 2 + k → p ≡ q + 1 + j → p ≡ q + i → 0 < k → k < length l₂ → get_or x₃ p nan ≡ less l₂ y₂ k (less l₁ y₁ j (less l₀ y₀ i (get_or x p nan)))
  in₃ p k j i e g f a b = d₂.below p k e a b ∙ ap (less l₂ y₂ k) (in₂ p j i g f (omega arith) (omega (arith, h.second, h.third)))

  d₃ : Done x₃ x₄ (q + 3) l₃ y₃
  d₃ = column_done x₃ (q + 3) l₃ y₃ h.some (omega (arith, h.room, h.first, d₀.size, d₁.size, d₂.size)) (ap (λ u. div binary64 u (get_or l₃ 0 nan)) (sym (in₃ (q + 3) 1 2 3 (omega arith) (omega arith) refl (omega arith) (omega (arith, h.third, h.some)))))

  in₄ : (p k : ℕ) → p ≡ q + 4 + k → 1 + k < length l₃ → get_or x₄ p nan ≡ less l₃ y₃ (1 + k) (less l₂ y₂ (2 + k) (less l₁ y₁ (3 + k) (less l₀ y₀ (4 + k) (get_or x p nan))))
  in₄ p k e b = d₃.below p (1 + k) (omega arith) (omega arith) b ∙ ap (less l₃ y₃ (1 + k)) (in₃ p (2 + k) (3 + k) (4 + k) (omega arith) (omega arith) (omega arith) (omega arith) (omega (arith, h.third)))

  size₄ : length x₄ ≡ length x
  size₄ = d₃.size ∙ d₂.size ∙ d₁.size ∙ d₀.size

  -- a place outside the columns
  far₄ : (p : ℕ) → (p < q) ⊎ (q + length l₀ ≤ p) → get_or x₄ p nan ≡ get_or x p nan
  far₄ p o =
      d₃.outside p (⊎_elim (λ u. inl (omega arith)) (λ u. inr (omega (arith, h.first))) o) ∙
      d₂.outside p (⊎_elim (λ u. inl (omega arith)) (λ u. inr (omega (arith, h.first, h.third))) o) ∙
      d₁.outside p (⊎_elim (λ u. inl (omega arith)) (λ u. inr (omega (arith, h.first, h.second))) o) ∙
      d₀.outside p o

  -- the quotients stored, and nothing else
  abbrev stored : List Float
  stored = set (set (set (set x q y₀) (q + 1) y₁) (q + 2) y₂) (q + 3) y₃

  stored_size : length stored ≡ length x
  stored_size = simp length-set refl

  stored_far : (p : ℕ) → (p < q) ⊎ (q + 4 ≤ p) → get_or stored p nan ≡ get_or x p nan
  stored_far p o =
      get_or-set_other (set (set (set x q y₀) (q + 1) y₁) (q + 2) y₂) (q + 3) p y₃ nan (⊎_elim (λ u i. omega arith) (λ u i. omega arith) o) ∙
      get_or-set_other (set (set x q y₀) (q + 1) y₁) (q + 2) p y₂ nan (⊎_elim (λ u i. omega arith) (λ u i. omega arith) o) ∙
      get_or-set_other (set x q y₀) (q + 1) p y₁ nan (⊎_elim (λ u i. omega arith) (λ u i. omega arith) o) ∙
      get_or-set_other x q p y₀ nan (⊎_elim (λ u i. omega arith) (λ u i. omega arith) o)

  inside : q + 3 < length x
  inside = omega (arith, h.room, h.first, h.some)

  stored_0 : get_or stored q nan ≡ y₀
  stored_0 =
      get_or-set_other (set (set (set x q y₀) (q + 1) y₁) (q + 2) y₂) (q + 3) q y₃ nan (λ i. omega arith) ∙
      get_or-set_other (set (set x q y₀) (q + 1) y₁) (q + 2) q y₂ nan (λ i. omega arith) ∙
      get_or-set_other (set x q y₀) (q + 1) q y₁ nan (λ i. omega arith) ∙
      get_or-set_same x q y₀ nan (omega (arith, inside))

  stored_1 : get_or stored (q + 1) nan ≡ y₁
  stored_1 =
      get_or-set_other (set (set (set x q y₀) (q + 1) y₁) (q + 2) y₂) (q + 3) (q + 1) y₃ nan (λ i. omega arith) ∙
      get_or-set_other (set (set x q y₀) (q + 1) y₁) (q + 2) (q + 1) y₂ nan (λ i. omega arith) ∙
      get_or-set_same (set x q y₀) (q + 1) y₁ nan (simp length-set (omega (arith, inside)))

  stored_2 : get_or stored (q + 2) nan ≡ y₂
  stored_2 =
      get_or-set_other (set (set (set x q y₀) (q + 1) y₁) (q + 2) y₂) (q + 3) (q + 2) y₃ nan (λ i. omega arith) ∙
      get_or-set_same (set (set x q y₀) (q + 1) y₁) (q + 2) y₂ nan (simp length-set (omega (arith, inside)))

  stored_3 : get_or stored (q + 3) nan ≡ y₃
  stored_3 = get_or-set_same (set (set (set x q y₀) (q + 1) y₁) (q + 2) y₂) (q + 3) y₃ nan (simp length-set inside)

  -- the rest subtracted from what is stored: four columns, one after the other
  pub four_is : (z : List Float) → Touched nan stored z (length l₃ - 1) (λ i. q + 4 + i) (λ i. less l₃ y₃ (1 + i) (less l₂ y₂ (2 + i) (less l₁ y₁ (3 + i) (less l₀ y₀ (4 + i) (get_or stored (q + 4 + i) nan))))) → z ≡ x₄
  four_is z t = ext_get_or nan z x₄ (t.size ∙ stored_size ∙ sym size₄) (λ p _. first_of p (dec_lt p q))
    where
      -- a place that the loop did not touch
      kept : (p : ℕ) → (p < q + 4) ⊎ (q + length l₀ ≤ p) → get_or z p nan ≡ get_or stored p nan
      kept p o = t.outside p (λ i k e. ⊎_elim (λ (u : p < q + 4). omega arith) (λ (u : q + length l₀ ≤ p). omega (arith, h.first)) o)

      rest : (p : ℕ) → q + 4 ≤ p → Dec (p < q + length l₀) → get_or z p nan ≡ get_or x₄ p nan
      rest p a (no b) = kept p (inr (omega arith)) ∙ stored_far p (inr a) ∙ sym (far₄ p (inr (omega arith)))
      rest p a (yes b) =
          let i : ℕ = p - (q + 4) in
          let e : q + 4 + i ≡ p = omega arith in
          let k : i < length l₃ - 1 = omega (arith, h.first) in
          ap (λ u. get_or z u nan) (sym e) ∙
          t.inside i k ∙
          ap (λ u. less l₃ y₃ (1 + i) (less l₂ y₂ (2 + i) (less l₁ y₁ (3 + i) (less l₀ y₀ (4 + i) u)))) (stored_far (q + 4 + i) (inr (omega arith)) ∙ ap (λ u. get_or x u nan) e) ∙
          sym (in₄ p i (omega arith) (omega arith))

      third_of : (p : ℕ) → q + 3 ≤ p → Dec (p ≡ q + 3) → get_or z p nan ≡ get_or x₄ p nan
      third_of p a (yes e) = rw e (kept (q + 3) (inl (omega arith)) ∙ stored_3 ∙ sym d₃.top)
      third_of p a (no e) = rest p (omega arith) (dec_lt p (q + length l₀))

      second_of : (p : ℕ) → q + 2 ≤ p → Dec (p ≡ q + 2) → get_or z p nan ≡ get_or x₄ p nan
      second_of p a (yes e) = rw e (kept (q + 2) (inl (omega arith)) ∙ stored_2 ∙ sym (d₃.outside (q + 2) (inl (omega arith)) ∙ d₂.top))
      second_of p a (no e) = third_of p (omega arith) (ℕ_discrete p (q + 3))

      next_of : (p : ℕ) → q + 1 ≤ p → Dec (p ≡ q + 1) → get_or z p nan ≡ get_or x₄ p nan
      next_of p a (yes e) = rw e (kept (q + 1) (inl (omega arith)) ∙ stored_1 ∙ sym (d₃.outside (q + 1) (inl (omega arith)) ∙ d₂.outside (q + 1) (inl (omega arith)) ∙ d₁.top))
      next_of p a (no e) = second_of p (omega arith) (ℕ_discrete p (q + 2))

      top_of : (p : ℕ) → q ≤ p → Dec (p ≡ q) → get_or z p nan ≡ get_or x₄ p nan
      top_of p a (yes e) = rw e (kept q (inl (omega arith)) ∙ stored_0 ∙ sym (d₃.outside q (inl (omega arith)) ∙ d₂.outside q (inl (omega arith)) ∙ d₁.outside q (inl (omega arith)) ∙ d₀.top))
      top_of p a (no e) = next_of p (omega arith) (ℕ_discrete p (q + 1))

      first_of : (p : ℕ) → Dec (p < q) → get_or z p nan ≡ get_or x₄ p nan
      first_of p (yes l) = kept p (inl (omega arith)) ∙ stored_far p (inl l) ∙ sym (far₄ p (inl l))
      first_of p (no l) = top_of p (omega arith) (ℕ_discrete p q)
