-- One row more of each rule, and one column as the code reads it. Assumes nothing.
use mathlib.Core.Path.{◌≡◌, ap, ◌∙◌}
use mathlib.Core.List.{List}
use Prim.Native.Nat.{ℕ, ◌+◌, ◌-◌, ◌<◌}
use native.Mathlib.Omega.{arith}
use native.Mathlib.Numerals.{add-one}
use lib.ListN.{length, get_or, set, take, drop, length-drop}
use lib.Seq.{drop-cons, drop-length}
use lib.Ieee.{Float, nan, binary64, sub, mul, div}
use Rattle.statement.specs.Input.{+0}
use Rattle.statement.specs.Shape.{Shape}
use Rattle.statement.specs.Solve.{rows_in, values_in, less_below, less_above, forward_at, backward_at}
use Rattle.areas.proofs.Tail.{tail_lent}
use Rattle.areas.proofs.Lists.{get_d_any}

-- a part lent from a to the end
pub rest_long : {A : Type 0} (a : ℕ) (l : List A) → length (take (length l - a) (drop a l)) ≡ length l - a
rest_long a l = ap length (tail_lent a l) ∙ length-drop a l

module _ (rows : List ℕ) (values : List Float) (i : ℕ) (h : i < length rows) (e : length rows ≡ length values) where
  pub below_more : (x : List Float) (y : Float) → get_or rows i 0 < length x → less_below x y (drop i rows) (drop i values)
      ≡ less_below (set x (get_or rows i 0) (sub binary64 (get_or x (get_or rows i 0) nan) (mul binary64 (get_or values i nan) y))) y (drop (i + 1) rows) (drop (i + 1) values)
  unfolding less_below
  below_more x y l =
      rw (add-one i, drop-cons rows i 0 h, drop-cons values i nan (omega arith), ← get_d_any x (get_or rows i 0) +0 nan l)

  pub above_more : (x : List Float) (t : Float) → get_or rows i 0 < length x → less_above t x (drop i rows) (drop i values)
      ≡ less_above (sub binary64 t (mul binary64 (get_or values i nan) (get_or x (get_or rows i 0) nan))) x (drop (i + 1) rows) (drop (i + 1) values)
  unfolding less_above
  above_more x t l =
      rw (add-one i, drop-cons rows i 0 h, drop-cons values i nan (omega arith), ← get_d_any x (get_or rows i 0) +0 nan l)

module _ (rows : List ℕ) (values : List Float) (i : ℕ) (h : i ≡ length rows) where
  pub below_over : (x : List Float) (y : Float) → less_below x y (drop i rows) (drop i values) ≡ x
  unfolding less_below
  below_over x y = rw (h, drop-length rows)

  pub above_over : (x : List Float) (t : Float) → less_above t x (drop i rows) (drop i values) ≡ t
  unfolding less_above
  above_over x t = rw (h, drop-length rows)

module _ (rows : List ℕ) (values : List Float) (q : ℕ) (x z : List Float) (some : 0 < length values) (inside : q < length x)
    (S : Shape) (v : List Float) (e : rows ≡ rows_in S q) (p : values ≡ values_in S v q) where
  pub forward_is : z ≡ less_below (set x q (div binary64 (get_or x q nan) (get_or values 0 nan))) (div binary64 (get_or x q nan) (get_or values 0 nan)) (drop 1 rows) (drop 1 values)
      → z ≡ forward_at S v x q
  unfolding forward_at
  forward_is h = rw (← e, ← p, get_d_any x q +0 nan inside, get_d_any values 0 +0 nan some) h

  pub backward_is : (t : Float) → t ≡ less_above (get_or x q nan) x (drop 1 rows) (drop 1 values)
      → set x q (div binary64 t (get_or values 0 nan)) ≡ backward_at S v x q
  unfolding backward_at
  backward_is t h = rw (← e, ← p, get_d_any x q +0 nan inside, get_d_any values 0 +0 nan some) (ap (λ u. set x q (div binary64 u (get_or values 0 nan))) h)
