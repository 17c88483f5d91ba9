-- The right sides before j are solved, and those from j on stand as they came. Assumes nothing.
use mathlib.Core.Path.{◌≡◌, refl, sym, ap, ◌∙◌}
use mathlib.Core.List.{List, ◌++◌, append-nil, append_assoc}
use Prim.Native.Nat.{ℕ, suc, ◌+◌, ◌*◌, ◌≤◌, ◌<◌}
use native.Mathlib.Omega.{arith}
use native.Mathlib.Nat.{le_refl, mul-zero, mul-suc, mul-le-mul}
use native.Mathlib.Numerals.{add-one}
use lib.ListN.{length, take, drop, length-append, length-drop, drop_of_length-le}
use lib.Seq.{take_at, drop_at, drop-drop}
use lib.Ieee.{Float}
use borrow.Rule.Slice.PartMut.{put_mid}
use Rattle.statement.specs.Lists.{joined}
use Rattle.statement.specs.Shape.{Shape}
use Rattle.statement.specs.Solve.{solution, side_in, solutions}
use Rattle.laws.proofs.Sides.{solutions_length}

module _ (n : ℕ) (q : List ℕ) (S : Shape) (v : List Float) (k : ℕ) (b₀ : List Float) where
  pub record Each (b : List Float) (j : ℕ) : Type 0 where
    pub to : j ≤ k
    pub is : b ≡ solutions n q S v j b₀ ++ drop (n * j) b₀

  pub each_start : Each b₀ 0
  unfolding solutions joined
  each_start = record { to = omega arith; is = rw (mul-zero n) refl }

  module _ (whole : length b₀ ≡ n * k) {b : List Float} {j : ℕ} (w : Each b j) where
    before : length (solutions n q S v j b₀) ≡ n * j
    before = solutions_length n q S v j b₀

    room : j < k → n * j + n ≤ n * k
    room h = omega (arith, mul-suc n j, mul-le-mul (le_refl n) (let z : suc j ≤ k = h in z))

    pub each_long : length b ≡ n * k
    each_long = ap length w.is ∙ length-append (solutions n q S v j b₀) (drop (n * j) b₀) ∙ simp length-drop (omega (arith, before, whole, mul-le-mul (le_refl n) w.to))

    -- right side j, whose place ends within the buffer, is lent as it came
    module _ (h : j < k) where
      pub each_room : (n * j + n ≤ length b) × (n * j + n ≤ length b₀)
      each_room = (omega (arith, room h, each_long), omega (arith, room h, whole))

      pub each_lent : (d : ℕ) → d ≡ n → take d (drop (n * j) b) ≡ side_in n b₀ j
      unfolding side_in
      each_lent d e = rw (e, w.is, drop_at (solutions n q S v j b₀) (drop (n * j) b₀) (n * j) before)

      pub each_more : (d : ℕ) → d ≡ n → (y : List Float) → y ≡ solution n q S v (take d (drop (n * j) b)) → Each (put_mid (n * j) d b y) (j + 1)
      unfolding solutions joined
      each_more d e y z = record {
        to = omega arith;
        is =
            (λ i. front i ++ (here i ++ rest i))
            ∙ sym (append_assoc (solutions n q S v j b₀) (solution n q S v (side_in n b₀ j)) (drop (n * suc j) b₀))
            ∙ ap (λ i. solutions n q S v i b₀ ++ drop (n * i) b₀) (sym (add-one j));
      }
        where
          front : take (n * j) b ≡ solutions n q S v j b₀
          front = ap (take (n * j)) w.is ∙ take_at (solutions n q S v j b₀) (drop (n * j) b₀) (n * j) before

          here : y ≡ solution n q S v (side_in n b₀ j)
          here = z ∙ ap (solution n q S v) (each_lent d e)

          rest : drop d (drop (n * j) b) ≡ drop (n * suc j) b₀
          rest =
              ap (drop d) (ap (drop (n * j)) w.is ∙ drop_at (solutions n q S v j b₀) (drop (n * j) b₀) (n * j) before)
              ∙ drop-drop d (n * j) b₀
              ∙ ap (λ i. drop i b₀) (let p : n * j + d ≡ n * suc j = omega (arith, e, mul-suc n j) in p)

    pub each_over : k ≤ j → b ≡ solutions n q S v k b₀
    each_over h =
        let e : j ≡ k = omega (arith, w.to) in
        w.is ∙ rw (e, drop_of_length-le b₀ {i = n * k} (omega arith), append-nil) refl
