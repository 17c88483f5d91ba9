-- The tests of single lists, as the code takes them. Assumes nothing.
use mathlib.Core.Path.{◌≡◌, ap, ◌∙◌}
use mathlib.Core.Bool.{Bool, true, false, ◌&&◌}
use mathlib.Core.List.{List, ◌++◌}
use Prim.Native.Nat.{ℕ, suc, ◌+◌, ◌-◌, ◌≤◌, ◌<◌}
use native.Mathlib.Omega.{arith}
use native.Mathlib.Nat.{le_refl}
use lib.Dec.{T, eqb, leb, ltb, ltb→lt, not_T}
use lib.ListN.{length, get_or, take, replicate, length-replicate, get_or-replicate, get_or-append}
use lib.Seq.{length-take-le, get_or-take}
use borrow.Author.Tests.{lt-ltb}
use Rattle.statement.specs.Lists.{every, tally}
use Rattle.statement.specs.Shape.{Shape, first, width, rows_of}
use Rattle.statement.specs.Solve.{permutes, good_supernode}
use Rattle.laws.proofs.Bools.{T_false, same, rises}
use Rattle.laws.proofs.Every.{every_ext, every_all, every_at}
use Rattle.laws.proofs.Order.{never}
use Rattle.laws.proofs.Taken.{true_T}
use Rattle.laws.proofs.Permuted.{permuted}

-- a number that is not below n is named: (b) fails
pub names_past : (n : ℕ) (q : List ℕ) → n ≤ length q → every (λ x. ltb (get_or (take n q) x 0) n) (length (take n q)) ≡ false → permutes n q ≡ false
names_past n q h e = T_false (permutes n q) (not_T (permutes n q) (λ t. let p = permuted n q h t in never (every_all (λ x. ltb (get_or (take n q) x 0) n) (length (take n q)) (λ x k. rw (get_or-take n q x 0 (len x k)) (lt-ltb (get_or q x 0) n (p.low x (len x k))))) e))
  where
    len : (x : ℕ) → x < length (take n q) → x < n
    len x k = omega (arith, length-take-le n q h)

-- counted in the words
pub counted : (n : ℕ) (q l : List ℕ) → ((v : ℕ) → v < n → get_or l v 0 ≡ tally (λ a. eqb (get_or q a 0) v) n) → every (λ v. eqb (get_or l v 0) 1) n ≡ permutes n q
unfolding permutes
counted n q l h = every_ext (λ v. eqb (get_or l v 0) 1) (λ v. eqb (tally (λ a. eqb (get_or q a 0) v) n) 1) n (λ v k. ap (λ (t : ℕ). eqb t 1) (h v k))

-- one supernode's test by its rows, columns and bound
pub good_is : {rows : List ℕ} {f w n : ℕ} (S : Shape) (K : ℕ) → rows ≡ rows_of S K → f ≡ first S K → w ≡ width S K → n ≡ S.n
    → good_supernode S K ≡ every (λ x. ltb (get_or rows x 0) (get_or rows (suc x) 0)) (length rows - 1) && (leb w (length rows) && (every (λ c. eqb (get_or rows c 0) (f + c)) w && every (λ x. ltb (get_or rows x 0) n) (length rows)))
unfolding good_supernode
good_is S K e p q r = rw (e, p, q, r)

-- the words that were filled first
pub zeros_first : (n : ℕ) (d w : List ℕ) → w ≡ replicate n 0 ++ d → (v : ℕ) → v < n → get_or w v 0 ≡ 0
zeros_first n d w e v h = ap (λ (l : List ℕ). get_or l v 0) e ∙ get_or-append (replicate n 0) d 0 v (omega (arith, length-replicate {A = ℕ} n 0)) ∙ get_or-replicate n v 0 0 h

-- numbers that rise are all below n if the last is, and not all if it is not
module _ (l : List ℕ) (n : ℕ) where
  abbrev below : ℕ → Bool
  below x = ltb (get_or l x 0) n

  pub none_past : length l ≡ 0 → true ≡ every below (length l)
  unfolding every
  none_past e = rw e

  pub last_below : every (λ x. ltb (get_or l x 0) (get_or l (suc x) 0)) (length l - 1) ≡ true → 0 < length l → ltb (get_or l (length l - 1) 0) n ≡ every below (length l)
  last_below h k = same (below (length l - 1)) (every below (length l)) all (λ t. every_at below (length l) t (length l - 1) (omega arith))
    where
      up : (i : ℕ) → i < length l → get_or l i 0 ≤ get_or l (length l - 1) 0
      up i q = rises (λ x. get_or l x 0) (length l - 1) (λ x z. omega (arith, ltb→lt (get_or l x 0) (get_or l (suc x) 0) (every_at (λ x. ltb (get_or l x 0) (get_or l (suc x) 0)) (length l - 1) (true_T h) x z))) i (length l - 1) (omega arith) (le_refl _)

      all : T (below (length l - 1)) → T (every below (length l))
      all t = true_T (every_all below (length l) (λ i q. lt-ltb (get_or l i 0) n (omega (arith, up i q, ltb→lt (get_or l (length l - 1) 0) n t))))

pub low_of_lem : (n : ℕ) (q : List ℕ) → n ≤ length q → every (λ x. ltb (get_or (take n q) x 0) n) (length (take n q)) ≡ true → (i : ℕ) → i < n → get_or q i 0 < n
low_of_lem n q h e i l =
    let k : i < length (take n q) = omega (arith, length-take-le n q h) in
    let t : get_or (take n q) i 0 < n = ltb→lt (get_or (take n q) i 0) n (every_at (λ x. ltb (get_or (take n q) x 0) n) (length (take n q)) (true_T e) i k) in
    rw (get_or-take n q i 0 l) at t

pub le_more : {a b : ℕ} → a ≤ b → a < b + 1
le_more h = omega arith

pub lt_more : {a b : ℕ} → a < b → a + 1 ≤ b
lt_more h = omega arith
