-- A part of a slice from a to e, lent and put back. Assumes nothing.
use mathlib.Core.Path.{◌≡◌, sym, ap, ◌∙◌}
use mathlib.Core.List.{List, ◌++◌}
use Prim.Native.Nat.{ℕ, ◌+◌, ◌-◌, ◌≤◌}
use native.Mathlib.Omega.{arith}
use lib.ListN.{length, take, drop, length-append, length-drop}
use lib.Seq.{length-take-le, take_at, drop_at, drop-drop}

module _ {X : Type 0} (v : List X) (a e : ℕ) (h : a ≤ e) (k : e ≤ length v) where
  abbrev pub lent : List X
  lent = take (e - a) (drop a v)

  -- the whole with w in its place, as the logic has it
  abbrev pub back : List X → List X
  back w = take a v ++ (w ++ drop (e - a) (drop a v))

  front : length (take a v) ≡ a
  front = length-take-le a v (omega arith)

  rest : drop (e - a) (drop a v) ≡ drop e v
  rest = drop-drop (e - a) a v ∙ ap (λ x. drop x v) (let q : a + (e - a) ≡ e = omega arith in q)

  pub lent_length : length lent ≡ e - a
  lent_length = length-take-le (e - a) (drop a v) (omega (arith, length-drop a v))

  module _ (w : List X) (l : length w ≡ e - a) where
    pub back_take : take a (back w) ≡ take a v
    back_take = take_at (take a v) (w ++ drop (e - a) (drop a v)) a front

    pub back_from : drop a (back w) ≡ w ++ drop e v
    back_from = drop_at (take a v) (w ++ drop (e - a) (drop a v)) a front ∙ ap (λ x. w ++ x) rest

    pub back_drop : drop e (back w) ≡ drop e v
    back_drop =
        ap (λ x. drop x (back w)) (let q : e ≡ a + (e - a) = omega arith in q) ∙
        sym (drop-drop (e - a) a (back w)) ∙
        ap (drop (e - a)) back_from ∙
        drop_at w (drop e v) (e - a) l

    pub back_length : length (back w) ≡ length v
    back_length = omega (arith, length-append (take a v) (w ++ drop (e - a) (drop a v)), length-append w (drop (e - a) (drop a v)), front, ap length rest, length-drop e v)
