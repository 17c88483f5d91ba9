-- A list written over another from an offset on. Assumes nothing.
use mathlib.Core.Path.{◌≡◌, sym, ap, ◌∙◌}
use mathlib.Core.List.{List, ◌++◌}
use Prim.Native.Nat.{ℕ, ◌+◌, ◌-◌, ◌≤◌, ◌<◌}
use native.Mathlib.Omega.{arith}
use lib.ListN.{length, get_or, take, drop, length-append, length-drop, get_or-append}
use lib.Seq.{length-take-le, get_or-take, get_or-drop, drop_at, drop-drop}
use borrow.Rule.Slice.PartMut.{put_mid}
use Rattle.areas.proofs.Tail.{tail_written}

-- l is w with x over what stood from off on
pub record Wrote (off : ℕ) (x w l : List ℕ) : Type 0 where
  pub len : length l ≡ length w
  pub at : (j : ℕ) → j < length x → get_or l (off + j) 0 ≡ get_or x j 0
  pub below : (j : ℕ) → j < off → get_or l j 0 ≡ get_or w j 0
  pub past : (d : ℕ) → off + length x ≤ d → drop d l ≡ drop d w

module _ (off k : ℕ) (x w l : List ℕ) (h : off + k ≤ length w) (lx : length x ≡ k) (e : l ≡ take off w ++ (x ++ drop k (drop off w))) where
  front : length (take off w) ≡ off
  front = length-take-le off w (omega arith)

  from : drop off l ≡ x ++ drop k (drop off w)
  from = ap (drop off) e ∙ drop_at (take off w) _ off front

  behind : drop (off + k) l ≡ drop (off + k) w
  behind = sym (drop-drop k off l) ∙ ap (drop k) from ∙ drop_at x (drop k (drop off w)) k lx ∙ drop-drop k off w

  pub wrote : Wrote off x w l
  wrote = record {
    len = omega (arith, ap length e, length-append (take off w) (x ++ drop k (drop off w)), length-append x (drop k (drop off w)), front, length-drop k (drop off w), length-drop off w);
    at = λ j b. sym (get_or-drop off l j 0) ∙ ap (λ z. get_or z j 0) from ∙ get_or-append x (drop k (drop off w)) 0 j b;
    below = λ j b. ap (λ z. get_or z j 0) e ∙ get_or-append (take off w) (x ++ drop k (drop off w)) 0 j (omega (arith, front)) ∙ get_or-take off w j 0 b;
    past = λ d b.
        let q : off + k + (d - (off + k)) ≡ d = omega arith in
        ap (λ z. drop z l) (sym q) ∙ sym (drop-drop (d - (off + k)) (off + k) l) ∙ ap (drop (d - (off + k))) behind ∙ drop-drop (d - (off + k)) (off + k) w ∙ ap (λ z. drop z w) q;
  }

-- the part from off on, lent and given back at ys
pub wrote_part : (off k : ℕ) (x w ys : List ℕ) → off + k ≤ length w → length x ≡ k → ys ≡ x ++ drop k (take (length w - off) (drop off w)) → Wrote off x w (put_mid off (length w - off) w ys)
wrote_part off k x w ys h lx e = wrote off k x w (put_mid off (length w - off) w ys) h lx (tail_written off w x ys k e)

pub wrote_above : {off : ℕ} {x w l : List ℕ} → Wrote off x w l → (j : ℕ) → off + length x ≤ j → get_or l j 0 ≡ get_or w j 0
wrote_above {off} {x} {w} {l} a j h = ap (λ z. get_or l z 0) q ∙ sym (get_or-drop j l 0 0) ∙ ap (λ z. get_or z 0 0) (a.past j h) ∙ get_or-drop j w 0 0 ∙ ap (λ z. get_or w z 0) (sym q)
  where
    q : j ≡ j + 0
    q = omega arith
