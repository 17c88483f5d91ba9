-- A part from an offset to the end, lent and given back. Assumes nothing.
use mathlib.Core.Path.{◌≡◌, ap, ◌∙◌}
use mathlib.Core.List.{List, ◌++◌, append-nil}
use Prim.Native.Nat.{ℕ, ◌-◌, ◌≤◌}
use native.Mathlib.Omega.{arith}
use lib.ListN.{length, take, drop, length-drop, length-take, length-append, drop_of_length-le}
use lib.Seq.{take_all}
use borrow.Rule.Slice.PartMut.{put_mid}

module _ {A : Type 0} (off : ℕ) (xs : List A) where
  -- what `&xs[off..]` and `&mut xs[off..]` lend
  pub tail_lent : take (length xs - off) (drop off xs) ≡ drop off xs
  tail_lent = take_all (length xs - off) (drop off xs) (simp length-drop (omega arith))

  pub tail_length : off ≤ length xs → length (take (length xs - off) (drop off xs)) ≡ length xs - off
  tail_length h = simp (length-take, length-drop) (omega arith)

  -- what the whole is when the part is back at ys
  pub tail_back : (ys : List A) → put_mid off (length xs - off) xs ys ≡ take off xs ++ ys
  tail_back ys = rw (drop_of_length-le (drop off xs) {i = length xs - off} (simp length-drop (omega arith)), append-nil)

  pub back_length : (ys : List A) → off ≤ length xs → length ys ≡ length (take (length xs - off) (drop off xs)) → length (put_mid off (length xs - off) xs ys) ≡ length xs
  back_length ys h e = rw (tail_back ys) (simp (length-append, length-take) (omega (arith, e, tail_length h)))

  -- back with x written over its first k
  pub tail_written : (x ys : List A) (k : ℕ) → ys ≡ x ++ drop k (take (length xs - off) (drop off xs)) → put_mid off (length xs - off) xs ys ≡ take off xs ++ (x ++ drop k (drop off xs))
  tail_written x ys k e = tail_back ys ∙ ap (λ l. take off xs ++ l) (e ∙ ap (λ l. x ++ drop k l) tail_lent)
