-- What (b) tells: the list names each number below n at one place, and no other number. Assumes nothing.
use mathlib.Core.Path.{◌≡◌, refl, sym, ap, ◌∙◌}
use mathlib.Core.Bool.{Bool, true, false, cond, not}
use mathlib.Core.List.{List, [], ◌∷◌}
use Prim.Native.Nat.{ℕ, zero, suc, ◌≤◌, ◌<◌}
use native.Mathlib.Omega.{arith}
use native.Mathlib.Decide.{ℕ_discrete, dec_lt}
use lib.Dec.{T, eqb, eqb→eq, not_T}
use lib.ListN.{length, get_or}
use borrow.Author.Tests.{eq-eqb}
use Rattle.statement.specs.Lists.{tally, place, select}
use Rattle.statement.specs.Solve.{permutes}
use Rattle.laws.proofs.Bools.{and_intro, eqb_of}
use Rattle.laws.proofs.Tally.{but, count_but, count_into}
use Rattle.laws.proofs.Ranks.{Ranked, select_at}
use Rattle.laws.proofs.Entry.{get_d_place, has_of_place}
use Rattle.laws.proofs.Every.{every_at}

pub record Permuted (n : ℕ) (q : List ℕ) : Type 0 where
  pub low : (a : ℕ) → a < n → get_or q a 0 < n
  pub back : (a : ℕ) → a < n → place (get_or q a 0) q ≡ a
  pub inside : (k : ℕ) → k < n → place k q < n
  pub names : (k : ℕ) → k < n → get_or q (place k q) 0 ≡ k

-- the first place is not past any other
place_first : (k : ℕ) (l : List ℕ) (a : ℕ) → a < length l → get_or l a 0 ≡ k → place k l ≤ a
unfolding place
place_first k [] a h e = absurd (omega arith)
place_first k (x ∷ l) zero h e = rw (eq-eqb x k e) (omega arith)
place_first k (x ∷ l) (suc a) h e = go (eqb x k) (place_first k l a (omega arith) e)
  where
    go : (b : Bool) → place k l ≤ a → cond b 0 (suc (place k l)) ≤ suc a
    go true r = omega arith
    go false r = omega arith

module _ (n : ℕ) (q : List ℕ) (long : n ≤ length q) (h : T (permutes n q)) where
  abbrev at : ℕ → ℕ → Bool
  at k a = eqb (get_or q a 0) k

  once : (k : ℕ) → k < n → tally (at k) n ≡ 1
  unfolding permutes
  once k l = eqb→eq (tally (at k) n) 1 (every_at (λ k. eqb (tally (at k) n) 1) n h k l)

  -- a place of k
  abbrev spot : ℕ → ℕ
  spot k = get_or (select (at k) n) 0 0

  spot_is : (k : ℕ) (l : k < n) → Ranked (at k) n 0 (spot k)
  spot_is k l = select_at (at k) n 0 (omega (arith, once k l))

  spot_at : (k : ℕ) → k < n → get_or q (spot k) 0 ≡ k
  spot_at k l = eqb→eq (get_or q (spot k) 0) k (spot_is k l).passes

  -- at one place only
  one : (k a b : ℕ) → k < n → a < n → b < n → get_or q a 0 ≡ k → get_or q b 0 ≡ k → a ≡ b
  one k a b l u v e f = go (ℕ_discrete b a)
    where
      go : Dec (b ≡ a) → a ≡ b
      go (yes p) = sym p
      go (no p) = absurd (omega (
        arith,
        once k l,
        count_but (at k) a n u (eqb_of e),
        count_but (but a (at k)) b n v (and_intro (not (eqb b a)) (at k b) (not_T (eqb b a) (λ t. p (eqb→eq b a t))) (eqb_of f)),
      ))

  all : ℕ → Bool
  all a = true

  -- the n places of the numbers below n are all there are
  low : (a : ℕ) → a < n → get_or q a 0 < n
  unfolding all
  low a l = go (dec_lt (get_or q a 0) n)
    where
      go : Dec (get_or q a 0 < n) → get_or q a 0 < n
      go (yes p) = p
      go (no p) = absurd (omega (
        arith,
        count_but all a n l tt,
        count_into n n all (but a all) spot
            (λ k u t. ((spot_is k u).small, and_intro (not (eqb (spot k) a)) true (not_T (eqb (spot k) a) (λ e. omega (arith, spot_at k u, ap (λ x. get_or q x 0) (eqb→eq (spot k) a e)))) tt))
            (λ j k u v s t e. sym (spot_at j u) ∙ ap (λ x. get_or q x 0) e ∙ spot_at k v),
      ))

  module _ (a : ℕ) (l : a < n) where
    first : place (get_or q a 0) q ≤ a
    first = place_first (get_or q a 0) q a (omega arith) refl

    there : get_or q (place (get_or q a 0) q) 0 ≡ get_or q a 0
    there = get_d_place (get_or q a 0) q 0 (has_of_place (get_or q a 0) q (omega (arith, first)))

    back : place (get_or q a 0) q ≡ a
    back = one (get_or q a 0) (place (get_or q a 0) q) a (low a l) (omega (arith, first)) l there refl

  place_spot : (k : ℕ) → k < n → place k q ≡ spot k
  place_spot k l = ap (λ x. place x q) (sym (spot_at k l)) ∙ back (spot k) (spot_is k l).small

  pub permuted : Permuted n q
  permuted = record {
    low = low;
    back = back;
    inside = λ k l. omega (arith, place_spot k l, (spot_is k l).small);
    names = λ k l. ap (λ x. get_or q x 0) (place_spot k l) ∙ spot_at k l;
  }
