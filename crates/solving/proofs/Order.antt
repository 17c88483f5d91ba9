-- b into factor order and back, and the four passes together. Assumes nothing.
use mathlib.Core.Path.{◌≡◌, refl, sym, ap, ◌∙◌}
use mathlib.Core.List.{List, append-nil}
use Prim.Native.Nat.{ℕ, suc, ◌+◌, ◌<◌, ◌≤◌}
use native.Mathlib.Omega.{arith}
use native.Mathlib.Decide.{ℕ_discrete}
use lib.ListN.{length, get_or, set, length-set}
use lib.Seq.{drop-length, get_or-set_same, get_or-set_other, ext_get_or}
use lib.Ieee.{Float, nan}
use Rattle.statement.specs.Lists.{list, place}
use Rattle.statement.specs.Input.{+0}
use Rattle.statement.specs.Shape.{Shape, supernodes, offset}
use Rattle.statement.specs.Solve.{forward, backward, solution}
use Rattle.laws.proofs.Permuted.{Permuted}
use Rattle.laws.proofs.Stretches.{offset_mono}
use Rattle.laws.proofs.Ranks.{list_length, list_at}
use Rattle.areas.proofs.Front.{Front, front_over}
use Rattle.areas.proofs.Lists.{get_d_any}
use Rattle.solving.specs.Walk.{Solving}

-- the whole of x is written
pub gathered : {f : ℕ → Float} {d s : List Float} {a : ℕ} → Front f (length d) d s a → length d ≤ a → s ≡ list f (length d)
gathered {f} {d} w h = rw (drop-length d, append-nil) at (front_over w h)

-- the unknowns before a are back
pub record Back (q : List ℕ) (x b₀ b : List Float) (a : ℕ) : Type 0 where
  pub to : a ≤ length x
  pub long : length b ≡ length b₀
  pub is : (k : ℕ) → k < length x → place k q < a → get_or b k +0 ≡ get_or x (place k q) +0

pub back_start : (q : List ℕ) (x b : List Float) → Back q x b b 0
back_start q x b = record { to = omega arith; long = refl; is = λ k l h. absurd (omega arith) }

module _ {q : List ℕ} {x b₀ b : List Float} {a : ℕ} (w : Back q x b₀ b a) (p : Permuted (length x) q) (e : length b₀ ≡ length x) where
  pub back_more : a < length x → Back q x b₀ (set b (get_or q a 0) (get_or x a nan)) (a + 1)
  back_more h = record { to = omega arith; long = simp length-set w.long; is = λ k l m. go k l m (ℕ_discrete k (get_or q a 0)) }
    where
      go : (k : ℕ) → k < length x → place k q < a + 1 → Dec (k ≡ get_or q a 0) → get_or (set b (get_or q a 0) (get_or x a nan)) k +0 ≡ get_or x (place k q) +0
      go k l m (yes z) =
          ap (λ i. get_or (set b (get_or q a 0) (get_or x a nan)) i +0) z
          ∙ get_or-set_same b (get_or q a 0) (get_or x a nan) +0 (omega (arith, w.long, p.low a h))
          ∙ get_d_any x a nan +0 h
          ∙ ap (λ i. get_or x i +0) (sym (p.back a h) ∙ ap (λ i. place i q) (sym z))
      go k l m (no z) =
          let d : place k q < a = other (ℕ_discrete (place k q) a) in
          get_or-set_other b (get_or q a 0) k (get_or x a nan) +0 z ∙ w.is k l d
        where
          other : Dec (place k q ≡ a) → place k q < a
          other (yes y) = absurd (z (sym (p.names k l) ∙ ap (λ i. get_or q i 0) y))
          other (no y) = omega arith

  pub back_over : length x ≤ a → b ≡ list (λ k. get_or x (place k q) +0) (length x)
  back_over h = ext_get_or +0 b (list (λ k. get_or x (place k q) +0) (length x)) (w.long ∙ e ∙ sym (list_length (λ k. get_or x (place k q) +0) (length x)))
      (λ k l. let z : k < length x = omega (arith, w.long) in w.is k z (omega (arith, p.inside k z)) ∙ sym (list_at (λ k. get_or x (place k q) +0) (length x) k +0 z))

-- ---- the passes

-- supernode k's values stand in the lent ones
pub stretch_in : {S : Shape} {q : List ℕ} {v : List Float} {entries : ℕ} → Solving S q v entries → (k : ℕ) → k < supernodes S → offset S (suc k) ≤ length v
stretch_in {S} s k h = omega (arith, s.sized, s.room, offset_mono S (supernodes S) (suc k) h)

-- gather, forward, backward, scatter
pub passes : (S : Shape) (v : List Float) (q : List ℕ) (b : List Float) (n k : ℕ) (x y z r : List Float) → k ≡ n → x ≡ list (λ a. get_or b (get_or q a 0) +0) k
    → y ≡ forward S v x n → z ≡ backward S v y n → r ≡ list (λ c. get_or z (place c q) +0) k → r ≡ solution n q S v b
unfolding solution
passes S v q b n k x y z r e h₁ h₂ h₃ h = h ∙ rw (h₃, h₂, h₁, e)
