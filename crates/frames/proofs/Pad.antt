-- Lists that are followed by zeros in their area: one element more, and a run of one value more. Assumes nothing.
use mathlib.Core.Path.{◌≡◌, refl, sym, ap, ◌∙◌}
use mathlib.Core.List.{List, [], ◌∷◌, ◌++◌, append_assoc, append-nil}
use Prim.Native.Nat.{ℕ, zero, suc, ◌+◌, ◌-◌, ◌<◌, ◌≤◌}
use native.Mathlib.Nat.{add-zero, add-suc}
use native.Mathlib.Omega.{arith}
use lib.ListN.{length, take, drop, set, replicate, length-append, length-replicate, length-drop, length-set, replicate-append-replicate}
use lib.Seq.{set-append_seam, take_at, drop_at, length-take-le}
use borrow.Rule.Slice.PartMut.{put_mid}
use Rattle.statement.specs.Lists.{list}
use Rattle.statement.specs.Areas.{held}

module _ {A : Type 0} where
  drop-replicate : (k m : ℕ) (z : A) → drop k (replicate m z) ≡ replicate (m - k) z
  drop-replicate zero m z = let e : m - 0 ≡ m = omega arith in rw e
  drop-replicate (suc k) zero z = let e : 0 - suc k ≡ 0 = omega arith in rw e
  drop-replicate (suc k) (suc m) z = let e : suc m - suc k ≡ m - k = omega arith in rw e (drop-replicate k m z)

  -- an area that holds xs is no shorter
  held_le : (z : A) (st xs : List A) → st ≡ held (length st) z xs → length xs ≤ length st
  unfolding held
  held_le z st xs e =
      let h : length st ≡ length xs + (length st - length xs) = ap length e ∙ (simp (length-append, length-replicate)) in
      omega arith

  pub zeros : (z : A) (k : ℕ) → replicate k z ≡ held k z []
  unfolding held
  zeros z k = let h : k - 0 ≡ k = omega arith in rw h

  put : (z v : A) (k : ℕ) (xs : List A) → length xs < k → set (held k z xs) (length xs) v ≡ held k z (xs ++ v ∷ [])
  unfolding held
  put z v k xs h =
      let m = k - (length xs + 1) in
      let e : k - length xs ≡ suc m = omega arith in
      let d : k - length (xs ++ v ∷ []) ≡ m = ap (λ (t : ℕ). k - t) (length-append xs (v ∷ [])) in
      rw (e, d, append_assoc) (set-append_seam xs z (replicate m z) v)

  pub put_held : (z v : A) (st xs : List A) (i : ℕ) → st ≡ held (length st) z xs → i ≡ length xs → i < length st → set st i v ≡ held (length (set st i v)) z (xs ++ v ∷ [])
  put_held z v st xs i e q h =
      let h2 : length xs < length st = omega arith in
      ap (λ (t : ℕ). set st t v) q ∙ ap (λ (t : List A). set t (length xs) v) e ∙ put z v (length st) xs h2 ∙ ap (λ (t : ℕ). held t z (xs ++ v ∷ [])) (sym (length-set st i v))

  pub fill_held : (z v : A) (st st' xs : List A) (a m : ℕ) → st ≡ held (length st) z xs → a ≡ length xs → a + m ≤ length st
      → st' ≡ take a st ++ (replicate m v ++ drop m (drop a st)) → st' ≡ held (length st') z (xs ++ replicate m v)
  unfolding held
  fill_held z v st st' xs a m e q h f =
      let k = length st - length xs in
      let b : take a st ≡ xs = ap (take a) e ∙ take_at xs (replicate k z) a (sym q) in
      let d : drop m (drop a st) ≡ replicate (k - m) z = ap (λ (t : List A). drop m (drop a t)) e ∙ ap (drop m) (drop_at xs (replicate k z) a (sym q)) ∙ drop-replicate m k z in
      let g : st' ≡ xs ++ (replicate m v ++ replicate (k - m) z) = f ∙ rw (b, d) in
      let n : length st' - length (xs ++ replicate m v) ≡ k - m = rw g (simp (length-append, length-replicate) (omega arith)) in
      g ∙ rw n (sym (append_assoc xs (replicate m v) (replicate (k - m) z)))

  -- the part after a, to b, filled with v
  pub run_filled : (v : A) (st ys : List A) (a b : ℕ) → a ≤ b → b < length st → ys ≡ replicate (length (take (b + 1 - (a + 1)) (drop (a + 1) st))) v
      → put_mid (a + 1) (b + 1 - (a + 1)) st ys ≡ take (a + 1) st ++ (replicate (b - a) v ++ drop (b - a) (drop (a + 1) st))
  run_filled v st ys a b o h e =
      let k : b + 1 - (a + 1) ≡ b - a = omega arith in
      let l : b - a ≤ length (drop (a + 1) st) = simp length-drop (omega arith) in
      let n : length (take (b - a) (drop (a + 1) st)) ≡ b - a = length-take-le (b - a) (drop (a + 1) st) l in
      rw (e, k, n) refl

  -- f's list, whose last m elements are v
  pub list_run : (f : ℕ → A) (v : A) (a m : ℕ) → ((k : ℕ) → a ≤ k → k < a + m → f k ≡ v) → list f a ++ replicate m v ≡ list f (a + m)
  unfolding list
  list_run f v a zero h = append-nil (list f a) ∙ ap (list f) (sym (add-zero a))
  list_run f v a (suc m) h =
      let i = list_run f v a m (λ k p q. h k p (omega arith)) in
      let e : replicate (suc m) v ≡ replicate m v ++ (v ∷ []) = ap (λ (t : ℕ). replicate t v) (let z : suc m ≡ m + 1 = omega arith in z) ∙ sym (replicate-append-replicate m 1 v) in
      rw (add-suc a m, ← i, h (a + m) (omega arith) (omega arith), e) (sym (append_assoc (list f a) (replicate m v) (v ∷ [])))
