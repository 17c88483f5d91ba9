-- What the library's chains over a list answer, in the statement's words: a test of every place, and how many places pass. Assumes nothing.
use mathlib.Core.Path.{◌≡◌, refl, sym, ap, ◌∙◌}
use mathlib.Core.Bool.{Bool, true, false, ◌&&◌}
use mathlib.Core.List.{List, [], ◌∷◌}
use Prim.Native.Nat.{ℕ, zero, suc, ◌+◌, ◌-◌, ◌≤◌}
use native.Mathlib.Omega.{arith}
use native.Mathlib.Numerals.{add-one}
use lib.ListN.{length, get_or, take}
use lib.Seq.{length-take-le, get_or-take}
use Rattle.std.specs.List.{list_all, count_by, IsAllAdjacentAnswer}
use Rattle.std.proofs.lemmas.List.Sums.{count_by_more_yes, count_by_more_no}
use Rattle.statement.specs.Lists.{every, tally, bit}
use Rattle.laws.proofs.Every.{every_all, every_not, every_ext}

-- the test at 0 first
every_front : (f : ℕ → Bool) (m : ℕ) → every f (suc m) ≡ f 0 && every (λ i. f (suc i)) m
unfolding every
every_front f zero = first (f 0)
  where
    first : (a : Bool) → true && a ≡ a && true
    first true = refl
    first false = refl
every_front f (suc m) = rw (every_front f m) (assoc (f 0) (every (λ i. f (suc i)) m) (f (suc m)))
  where
    assoc : (a b c : Bool) → (a && b) && c ≡ a && (b && c)
    assoc true b c = refl
    assoc false b c = refl

-- each element passes
pub every_of : {A : Type 0} (p : A → Bool) (d : A) (l : List A) → list_all p l ≡ every (λ i. p (get_or l i d)) (length l)
unfolding every
every_of p d [] = refl
every_of p d (x ∷ l) = rw (every_of p d l) (sym (every_front (λ i. p (get_or (x ∷ l) i d)) (length l)))

-- each of the first n passes
pub every_first : {A : Type 0} (p : A → Bool) (d : A) (l : List A) (n : ℕ) → n ≤ length l → list_all p (take n l) ≡ every (λ i. p (get_or l i d)) n
every_first p d l n h = every_of p d (take n l) ∙ rw (length-take-le n l h) (every_ext (λ i. p (get_or (take n l) i d)) (λ i. p (get_or l i d)) n (λ i k. ap p (get_or-take n l i d k)))

-- each element and the next pass
pub every_next : {A : Type 0} (p : A → A → Bool) (d : A) (l : List A) (r : Bool) → IsAllAdjacentAnswer (λ x y b. p x y ≡ b) l r → r ≡ every (λ i. p (get_or l i d) (get_or l (suc i) d)) (length l - 1)
every_next p d l true h = sym (every_all (λ i. p (get_or l i d) (get_or l (suc i) d)) (length l - 1) (λ i k. rw (← add-one i) (h i d (omega arith))))
every_next p d l false (k, h, n) = sym (every_not (λ i. p (get_or l i d) (get_or l (suc i) d)) (length l - 1) k (omega arith) (rw (← add-one k) (n d)))

-- how many of the first m pass
pub tally_of : {A : Type 0} (p : A → Bool) (d : A) (l : List A) (m : ℕ) → m ≤ length l → count_by p (take m l) ≡ tally (λ i. p (get_or l i d)) m
unfolding tally
tally_of p d l zero h = refl
tally_of p d l (suc m) h = go (p (get_or l m d)) refl (tally_of p d l m (omega arith))
  where
    go : (b : Bool) → p (get_or l m d) ≡ b → count_by p (take m l) ≡ tally (λ i. p (get_or l i d)) m → count_by p (take (suc m) l) ≡ tally (λ i. p (get_or l i d)) m + bit (p (get_or l m d))
    go true e k = rw (e, ← k, ← add-one m) (count_by_more_yes p l m d (omega arith) e)
    go false e k = rw (e, ← k, ← add-one m) (count_by_more_no p l m d (omega arith) e ∙ (omega arith))
