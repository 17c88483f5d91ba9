-- A loop that writes the sums f 0 + .. + f (k - 1) to a list, from 0 on. Assumes nothing.
use mathlib.Core.Path.{◌≡◌, refl, sym, ap, ◌∙◌}
use mathlib.Core.List.{List, ◌++◌}
use Prim.Native.Nat.{ℕ, suc, ◌+◌, ◌*◌, ◌≤◌, ◌<◌}
use native.Mathlib.Omega.{arith}
use native.Mathlib.Numerals.{add-one}
use lib.ListN.{length, get_or, set, drop, length-set}
use lib.Seq.{get_or-set_same, set-set, drop-set-lt}
use Rattle.statement.specs.Lists.{sum, list}
use Rattle.areas.proofs.Front.{Front, front_start, front_more, front_over}

pub record Summing (f : ℕ → ℕ) (m : ℕ) (d s : List ℕ) (k : ℕ) : Type 0 where
  pub front : Front (sum f) (suc m) d s (k + 1)
  pub at : get_or s k 0 ≡ sum f k
  pub small : sum f k ≤ k * 32768

pub summing_begin : (f : ℕ → ℕ) (m : ℕ) (d : List ℕ) → m < length d → Summing f m (set d 0 0) (set d 0 0) 0
unfolding sum
summing_begin f m d h = record {
  front = rw (set-set d 0 0 0) at (front_more (front_start (sum f) (suc m) (set d 0 0) (simp length-set h)) (omega arith) refl);
  at = get_or-set_same d 0 0 0 (omega arith);
  small = omega arith;
}

pub summing_more : {f : ℕ → ℕ} {m : ℕ} {d s : List ℕ} {k : ℕ} → Summing f m d s k → k < m → f k ≤ 32768 → Summing f m d (set s (k + 1) (get_or s k 0 + f k)) (k + 1)
summing_more {f} {m} {d} {s} {k} w h l = record {
  front = front_more w.front (omega arith) (value ∙ ap (sum f) (sym (add-one k)));
  at = get_or-set_same s (k + 1) _ 0 (omega (arith, w.front.len, w.front.fits)) ∙ value ∙ ap (sum f) (sym (add-one k));
  small = omega (arith, ap (sum f) (add-one k), value, w.at, w.small);
}
  where
    next : (k : ℕ) → sum f (suc k) ≡ sum f k + f k
    next k = unfold sum in refl

    value : get_or s k 0 + f k ≡ sum f (suc k)
    value = ap (λ x. x + f k) w.at ∙ sym (next k)

pub summing_over : {f : ℕ → ℕ} {m : ℕ} (d : List ℕ) {s : List ℕ} {k : ℕ} → Summing f m (set d 0 0) s k → m ≤ k → s ≡ list (sum f) (suc m) ++ drop (suc m) d
summing_over {f} {m} d w h = front_over w.front (omega arith) ∙ ap (λ x. list (sum f) (suc m) ++ x) (drop-set-lt (suc m) d 0 0 (omega arith))
