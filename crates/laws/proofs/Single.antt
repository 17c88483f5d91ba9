-- A list whose columns meet the entry rules is what the step makes, from the facts of one supernode. Assumes nothing.
use mathlib.Core.Path.{◌≡◌, refl, sym, ap, ap₂, ◌∙◌, subst}
use mathlib.Core.Bool.{true, false}
use mathlib.Core.List.{List, ◌++◌}
use Prim.Native.Nat.{ℕ, zero, suc, ◌+◌, ◌-◌, ◌≤◌, ◌<◌}
use native.Mathlib.Omega.{arith}
use native.Mathlib.Nat.{add-sub_cancel_left, add-sub_of_le, add-zero, add-suc}
use lib.ListN.{length, get_or, take, drop, length-drop, take-append-drop}
use lib.Seq.{get_or-take, get_or-drop, take-add, ext_get_or, take_all, length-take-le}
use lib.Ieee.{Float, nan, binary64, div}
use Rattle.laws.proofs.Stretches.{column_length}
use Rattle.laws.proofs.Entry.{place_lt, has_of_place, Col, entry_prefix, column_later, trap_suc, trap_mono}
use Rattle.statement.specs.Shape.{Shape, first, width, height, rows_of, trapezoid, size}
use Rattle.statement.specs.Lists.{has, place}
use Rattle.statement.specs.Root.{root}
use Rattle.statement.specs.Rules.{made, broke, and_then, look, entry, pivot_column, extend, grow, step, passes}
use Rattle.statement.specs.declared.Factored.{Factored}

module _ (S : Shape) (A : ℕ → ℕ → Float) (v : List Float) (K : ℕ) where
  grow_suc : (c : ℕ) → grow S A v K (suc c) ≡ and_then (grow S A v K c) (extend S A v K c)
  unfolding grow
  grow_suc c = refl

  -- once broken, broken
  grow_stuck : (j : Factored) (c : ℕ) → grow S A v K c ≡ broke j → (d : ℕ) → grow S A v K (c + d) ≡ broke j
  unfolding and_then
  grow_stuck j c e zero = ap (grow S A v K) (add-zero c) ∙ e
  grow_stuck j c e (suc d) =
      ap (grow S A v K) (add-suc c d) ∙ grow_suc (c + d) ∙ ap (λ o. and_then o (extend S A v K (c + d))) (grow_stuck j c e d)

module _ (S : Shape) (A : ℕ → ℕ → Float) (v : List Float) (K : ℕ) (tall : width S K ≤ height S K)
    (starts : (c : ℕ) → c < width S K → place (first S K + c) (rows_of S K) ≡ c)
    (at_place : (p : ℕ) → p < height S K → place (get_or (rows_of S K) p 0) (rows_of S K) ≡ p)
    (own : (c : ℕ) → c < width S K → get_or (rows_of S K) c 0 ≡ first S K + c)
    (s : List Float) (sized : length s ≡ size S K) (w : ℕ) (wide : w ≤ width S K)
    (ruled : (c : ℕ) → c < w → Col S A v K tall starts s c) where
  abbrev m : ℕ
  m = height S K

  at_has : (p : ℕ) → p < height S K → has (get_or (rows_of S K) p 0) (rows_of S K) ≡ true
  at_has p k = has_of_place (get_or (rows_of S K) p 0) (rows_of S K) (omega (arith, at_place p k))

  own_of : ℕ → List Float
  own_of c = take (trapezoid m c) s

  join_own : (c : ℕ) → own_of c ++ take (m - c) (drop (trapezoid m c) s) ≡ own_of (suc c)
  unfolding own_of trapezoid
  join_own c = sym (take-add (trapezoid m c) (m - c) s)

  room : (c : ℕ) → c ≤ width S K → trapezoid m c ≤ length s
  unfolding size
  room c h = omega (arith, sized, trap_mono m c (width S K) h)

  own_length : (c : ℕ) → c ≤ width S K → length (own_of c) ≡ trapezoid m c
  unfolding own_of
  own_length c h = length-take-le (trapezoid m c) s (room c h)

  same_entry : (c i : ℕ) → c < width S K → place i (rows_of S K) < m → entry S A v s K i c ≡ entry S A v (own_of c) K i c
  unfolding own_of
  same_entry c i h p =
      ap (λ z. entry S A v z K i c) (sym (take-append-drop (trapezoid m c) s)) ∙
      entry_prefix S A v K tall starts (own_of c) (drop (trapezoid m c) s) c c i (omega arith) (omega arith) h (own_length c (omega arith)) p

  -- row c + n of column c, as `look` reads it and as it lies
  row_at_lem : (c n : ℕ) → c < width S K → n < m - c → look S K s (get_or (rows_of S K) (c + n) 0) c ≡ get_or s (trapezoid m c + n) nan
  unfolding look
  row_at_lem c n h q = ap (λ z. get_or s (trapezoid m c + z) nan) (ap (λ z. z - c) (at_place (c + n) (omega arith)) ∙ add-sub_cancel_left c n)

  abbrev pivot : ℕ → Float
  pivot c = entry S A v (own_of c) K (first S K + c) c

  pivot_same : (c : ℕ) → c < width S K → entry S A v s K (first S K + c) c ≡ pivot c
  pivot_same c h = same_entry c (first S K + c) h (omega (arith, starts c h, tall))

  column_at : (c n : ℕ) → c < w → n < m - c → get_or (pivot_column S A v (own_of c) K c (pivot c)) n nan ≡ look S K s (get_or (rows_of S K) (c + n) 0) c
  unfolding pivot_column
  column_at c zero h q =
      ap root (sym (pivot_same c (omega arith))) ∙
      sym (ruled c h).diag ∙
      ap (λ z. look S K s z c) (sym (own c (omega arith)) ∙ ap (λ z. get_or (rows_of S K) z 0) (sym (add-zero c)))
  column_at c (suc n) h q =
      let i = get_or (rows_of S K) (c + suc n) 0 in
      let e = at_place (c + suc n) (omega arith) in
      let x = at_has (c + suc n) (omega arith) in
      let lt : c < place i (rows_of S K) = omega (arith, e) in
      ap (λ z. get_or (pivot_column S A v (own_of c) K c (pivot c)) z nan) (sym (ap (λ z. z - c) e ∙ add-sub_cancel_left c (suc n))) ∙
      column_later S A v K tall starts (own_of c) c (pivot c) i x lt ∙
      ap₂ (div binary64) (sym (same_entry c i (omega arith) (place_lt i (rows_of S K) x))) (ap root (sym (pivot_same c (omega arith)))) ∙
      sym ((ruled c h).below i x lt)

  -- column c stands in the stretch
  column_there : (c : ℕ) (h : c < w) → pivot_column S A v (own_of c) K c (pivot c) ≡ take (m - c) (drop (trapezoid m c) s)
  column_there c h =
      ext_get_or nan (pivot_column S A v (own_of c) K c (pivot c)) (take (m - c) (drop (trapezoid m c) s))
      (lc ∙ sym (length-take-le (m - c) (drop (trapezoid m c) s) (simp length-drop (omega (arith, room (suc c) (omega arith), trap_suc m c)))))
      (λ n q. at n (omega (arith, lc)))
    where
      lc : length (pivot_column S A v (own_of c) K c (pivot c)) ≡ m - c
      lc = column_length S A v K tall (own_of c) c (pivot c) (omega arith)

      at : (n : ℕ) → n < m - c → get_or (pivot_column S A v (own_of c) K c (pivot c)) n nan ≡ get_or (take (m - c) (drop (trapezoid m c) s)) n nan
      at n q = column_at c n h q ∙ row_at_lem c n (omega arith) q ∙ sym (get_or-take (m - c) (drop (trapezoid m c) s) n nan q ∙ get_or-drop (trapezoid m c) s n nan)

  extend_there : (c : ℕ) → c < w → extend S A v K c (own_of c) ≡ made (own_of (suc c))
  unfolding extend
  extend_there c h =
      rw
      (ap (passes (A (first S K + c) (first S K + c))) (sym (pivot_same c (omega arith))) ∙ (ruled c h).good)
      (ap made (ap (λ z. own_of c ++ z) (column_there c h) ∙ join_own c))

  grow_there : (c : ℕ) → c ≤ w → grow S A v K c ≡ made (own_of c)
  unfolding grow own_of trapezoid and_then
  grow_there zero h = refl
  grow_there (suc c) h = ap (λ o. and_then o (extend S A v K c)) (grow_there c (omega arith)) ∙ extend_there c h

  breaks : w < width S K → passes (A (first S K + w) (first S K + w)) (entry S A v s K (first S K + w) w) ≡ false →
      and_then (made (own_of w)) (extend S A v K w) ≡ broke (record { 0 = first S K + w })
  unfolding and_then extend
  breaks h e = rw (ap (passes (A (first S K + w) (first S K + w))) (sym (pivot_same w h)) ∙ e)

  -- all columns: the step makes s
  pub step_made : w ≡ width S K → step S A v K ≡ made s
  unfolding step own_of size
  step_made e = rw (← e) (grow_there w (omega arith) ∙ ap made (take_all (trapezoid m w) s (omega (arith, sized, ap (trapezoid m) e))))

  -- the pivot of column w breaks the rule: the step names it
  pub step_broke : w < width S K → passes (A (first S K + w) (first S K + w)) (entry S A v s K (first S K + w) w) ≡ false → step S A v K ≡ broke (record { 0 = first S K + w })
  unfolding step
  step_broke h e = subst (λ z. grow S A v K z ≡ broke (record { 0 = first S K + w })) (add-sub_of_le h) (stuck (width S K - suc w))
    where
      at_w : grow S A v K (suc w) ≡ broke (record { 0 = first S K + w })
      at_w = grow_suc S A v K w ∙ ap (λ o. and_then o (extend S A v K w)) (grow_there w (omega arith)) ∙ breaks h e

      stuck : (d : ℕ) → grow S A v K (suc w + d) ≡ broke (record { 0 = first S K + w })
      stuck d = grow_stuck S A v K (record { 0 = first S K + w }) (suc w) at_w d
