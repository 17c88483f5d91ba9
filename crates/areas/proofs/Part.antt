-- A part of a slice that starts anywhere, lent and put back. Assumes nothing.
use mathlib.Core.Path.{◌≡◌, refl, sym, ap, ◌∙◌}
use mathlib.Core.List.{List, [], ◌∷◌, ◌++◌}
use Prim.Native.Nat.{ℕ, ◌+◌, ◌-◌, ◌≤◌, ◌<◌}
use native.Mathlib.Omega.{arith}
use native.Mathlib.Nat.{add-sub_of_le}
use native.Mathlib.Decide.{dec_lt}
use lib.ListN.{length, get_or, take, drop, length-append, length-drop, get_or-append}
use lib.Seq.{take_all, length-take-le, get_or-take, get_or-drop, take_at, drop_at}
use Rattle.areas.specs.Touch.{Touched}

module _ {X : Type 0} (z : X) (v : List X) (a : ℕ) where
  -- the part from a on, and the whole with w in its place, as the logic has them
  abbrev pub mid : List X
  mid = take (length v - a) (drop a v)

  abbrev pub back : List X → List X
  back w = take a v ++ (w ++ drop (length v - a) (drop a v))

  pub mid_is : mid ≡ drop a v
  mid_is = take_all (length v - a) (drop a v) (omega (arith, length-drop a v))

  pub mid_length : length mid ≡ length v - a
  mid_length = ap length mid_is ∙ length-drop a v

  pub mid_at : (x : ℕ) → get_or mid x z ≡ get_or v (a + x) z
  mid_at x = ap (λ l. get_or l x z) mid_is ∙ get_or-drop a v x z

  nothing : drop (length v - a) (drop a v) ≡ []
  nothing = none (drop (length v - a) (drop a v)) (length-drop (length v - a) (drop a v) ∙ len)
    where
      len : length (drop a v) - (length v - a) ≡ 0
      len = omega (arith, length-drop a v)

      none : (l : List X) → length l ≡ 0 → l ≡ []
      none [] e = refl
      none (x ∷ l) e = absurd (omega arith)

  module _ (h : a ≤ length v) where
    front : length (take a v) ≡ a
    front = length-take-le a v h

    pub back_below : (w : List X) (x : ℕ) → x < a → get_or (back w) x z ≡ get_or v x z
    back_below w x l = get_or-append (take a v) (w ++ drop (length v - a) (drop a v)) z x (omega (arith, front)) ∙ get_or-take a v x z l

    pub back_drop : (w : List X) → drop a (back w) ≡ w
    back_drop w = drop_at (take a v) (w ++ drop (length v - a) (drop a v)) a front ∙ ap (λ l. w ++ l) nothing ∙ tail w
      where
        tail : (w : List X) → w ++ [] ≡ w
        tail [] = refl
        tail (x ∷ w) = ap (λ l. x ∷ l) (tail w)

    pub back_take : (w : List X) → take a (back w) ≡ take a v
    back_take w = take_at (take a v) (w ++ drop (length v - a) (drop a v)) a front

    pub back_at : (w : List X) (x : ℕ) → get_or (back w) (a + x) z ≡ get_or w x z
    back_at w x = sym (get_or-drop a (back w) x z) ∙ ap (λ l. get_or l x z) (back_drop w)

    pub back_length : (w : List X) → length w ≡ length mid → length (back w) ≡ length v
    back_length w e = length-append (take a v) (w ++ drop (length v - a) (drop a v)) ∙ ap (λ k. length (take a v) + k) (length-append w (drop (length v - a) (drop a v))) ∙ sum
      where
        sum : length (take a v) + (length w + length (drop (length v - a) (drop a v))) ≡ length v
        sum = omega (arith, front, mid_length, ap length nothing)

    -- what a call changes in the part, as a change of the whole
    pub lift : (w : List X) (n : ℕ) (pos : ℕ → ℕ) (f : ℕ → X) → Touched z mid w n pos f → Touched z v (back w) n (λ i. a + pos i) f
    lift w n pos f t =
        record {
          size = back_length w t.size;
          inside = λ i l. back_at w (pos i) ∙ t.inside i l;
          outside = λ p q. go p q (dec_lt p a);
        }
      where
        go : (p : ℕ) → ((i : ℕ) → i < n → a + pos i ≡ p → ⊥) → Dec (p < a) → get_or (back w) p z ≡ get_or v p z
        go p q (yes l) = back_below w p l
        go p q (no l) =
            ap (λ x. get_or (back w) x z) (sym e) ∙
            back_at w (p - a) ∙
            t.outside (p - a) (λ i k s. q i k (ap (λ x. a + x) s ∙ e)) ∙
            mid_at (p - a) ∙
            ap (λ x. get_or v x z) e
          where
            e : a + (p - a) ≡ p
            e = add-sub_of_le (omega arith)
