-- A search among the stored entries of a lower column. Assumes nothing.
use mathlib.Core.Path.{◌≡◌, sym, ap, ◌∙◌}
use mathlib.Core.Bool.{cond}
use mathlib.Core.List.{List, ◌∷◌}
use Prim.Native.Nat.{ℕ, suc, ◌+◌, ◌≤◌, ◌<◌}
use native.Mathlib.Omega.{arith}
use native.Mathlib.Numerals.{add-one}
use lib.ListN.{length, get_or}
use lib.Seq.{slice, slice_empty, slice-cons}
use borrow.Author.Tests.{eq-eqb, ne_eqb}
use lib.Ieee.{Float, nan}
use Rattle.statement.specs.Lists.{has, place}
use Rattle.statement.specs.Input.{+0}
use Rattle.laws.specs.Lower.{among}

module _ (rows : List ℕ) (values : List Float) (i : ℕ) where
  -- the search, with the places from t on as a list
  on : List ℕ → ℕ → Float
  on l t = cond (has i l) (get_or values (t + place i l) nan) +0

  on_hit : (x : ℕ) (l : List ℕ) (t : ℕ) → x ≡ i → on (x ∷ l) t ≡ get_or values t nan
  unfolding has place on
  on_hit x l t e = rw (eq-eqb x i e) (ap (λ k. get_or values k nan) (zr t))
    where
      zr : (t : ℕ) → t + 0 ≡ t
      zr t = omega arith

  on_miss : (x : ℕ) (l : List ℕ) (t : ℕ) → (x ≡ i → ⊥) → on (x ∷ l) t ≡ on l (suc t)
  unfolding has place on
  on_miss x l t e = rw (ne_eqb x i e) (ap (λ k. cond (has i l) (get_or values k nan) +0) (sh t (place i l)))
    where
      sh : (t p : ℕ) → t + suc p ≡ suc t + p
      sh t p = omega arith

  pub hit : (t t1 : ℕ) → t < t1 → t1 ≤ length rows → get_or rows t 0 ≡ i → get_or values t nan ≡ among rows values t t1 i
  unfolding among on
  hit t t1 h l e = sym (ap (λ l. on l t) (slice-cons t t1 rows 0 h l) ∙ on_hit (get_or rows t 0) (slice (suc t) t1 rows) t e)

  pub miss : (t t1 : ℕ) → t < t1 → t1 ≤ length rows → (get_or rows t 0 ≡ i → ⊥) → among rows values t t1 i ≡ among rows values (t + 1) t1 i
  unfolding among on
  miss t t1 h l e = ap (λ l. on l t) (slice-cons t t1 rows 0 h l) ∙ on_miss (get_or rows t 0) (slice (suc t) t1 rows) t e ∙ ap (λ k. among rows values k t1 i) (sym (add-one t))

  pub none : (t t1 : ℕ) → t ≤ t1 → t1 ≤ t → among rows values t t1 i ≡ +0
  unfolding among on has
  none t t1 h l = ap (λ l. on l t) (ap (λ k. slice t k rows) (sym same) ∙ slice_empty t rows)
    where
      same : t ≡ t1
      same = omega arith
