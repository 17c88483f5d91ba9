-- The scan of a supernode's rows for the supernodes that own them. Assumes nothing.
use mathlib.Core.Path.{◌≡◌, refl, ap, ◌∙◌}
use mathlib.Core.Logic.{⊎_elim, ◌≢◌, ◌↔◌}
use mathlib.Core.Bool.{◌&&◌}
use mathlib.Core.List.{List, [], ◌∷◌}
use Prim.Native.Nat.{ℕ, zero, suc, ◌+◌, ◌-◌, ◌≤◌, ◌<◌}
use native.Mathlib.Omega.{arith}
use native.Mathlib.Nat.{le_refl, add-zero}
use native.Mathlib.Decide.{dec_lt}
use lib.Dec.{T, not_T, ltb, leb, ltb→lt, lt→ltb, leb→le, le→leb}
use lib.ListN.{length, get_or}
use borrow.Author.Tests.{lt-ltb, le-ltb}
use Rattle.statement.specs.Lists.{bit, tally}
use Rattle.statement.specs.Shape.{Shape, supernodes, first, width, height, rows_of}
use Rattle.statement.specs.Supernodes.{owner, below}
use Rattle.laws.proofs.Bools.{T_true, T_false, lt_or_le, and_both, and_intro, same}
use Rattle.laws.proofs.Built.{first_mono}
use Rattle.laws.proofs.Updates.{below_first}
use Rattle.updates.specs.Scan.{from, hits, met}
use Rattle.updates.proofs.Made.{Owned, Made}

below_most : (b : ℕ) (l : List ℕ) → below b l ≤ length l
unfolding below
below_most b [] = le_refl 0
below_most b (y ∷ l) = go (dec_lt y b) (below_most b l)
  where
    go : Dec (y < b) → below b l ≤ length l → below b (y ∷ l) ≤ suc (length l)
    go (yes h) i = rw (lt-ltb y b h) (omega arith)
    go (no h) i = rw (le-ltb y b (let z : b ≤ y = omega arith in z)) (omega arith)

pub hits_iff : (S : Shape) (K J : ℕ) → T (hits S K J) ↔ ((K < J) × (from S K J < from S K (suc J)))
hits_iff S K J = (
  λ t. let p = and_both (ltb K J) (ltb (from S K J) (from S K (suc J))) t in (ltb→lt K J p.0, ltb→lt (from S K J) (from S K (suc J)) p.1),
  λ p. and_intro (ltb K J) (ltb (from S K J) (from S K (suc J))) (lt→ltb K J p.0) (lt→ltb (from S K J) (from S K (suc J)) p.1),
)

-- the row at a place
abbrev pub row_at : Shape → ℕ → ℕ → ℕ
row_at S K x = get_or (rows_of S K) x 0

-- the scan of K's rows has come to position x, past the columns of t
pub record Scan (S : Shape) (K t x : ℕ) : Type 0 where
  pub own : K ≤ t
  pub inside : t < supernodes S
  pub here : x ≡ from S K (suc t)

module _ (S : Shape) (m : Made S) (K : ℕ) (kn : K < supernodes S) where
  -- the rows below a bound are the first ones
  pub row_low : (b x : ℕ) → x < height S K → (row_at S K x < b) ↔ (x < below b (rows_of S K))
  row_low b x h = below_first b (rows_of S K) (λ p q a c. m.built.sorted K p q kn a c) x h

  pub from_most : (J : ℕ) → from S K J ≤ height S K
  from_most J = below_most (first S J) (rows_of S K)

  -- they end where the first that is not below the bound stands
  pub run_end : (q b : ℕ) → q ≤ height S K → ((x : ℕ) → x < q → row_at S K x < b) → (q < height S K → b ≤ row_at S K q) → q ≡ below b (rows_of S K)
  run_end q b h low high = omega (arith, less q h low, more)
    where
      less : (q : ℕ) → q ≤ height S K → ((x : ℕ) → x < q → row_at S K x < b) → q ≤ below b (rows_of S K)
      less zero h low = omega arith
      less (suc q) h low = (row_low b q h).0 (low q (le_refl (suc q)))

      more : below b (rows_of S K) ≤ q
      more = ⊎_elim (λ (l : q < below b (rows_of S K)). let k : q < height S K = omega (arith, below_most b (rows_of S K)) in absurd (omega (arith, (row_low b q k).1 l, high k))) (λ l. l) (lt_or_le q (below b (rows_of S K)))

  pub from_rise : (i j : ℕ) → i ≤ j → j ≤ supernodes S → from S K i ≤ from S K j
  from_rise i j h k = ⊎_elim
      (λ (l : from S K j < from S K i).
      let a : from S K j < height S K = omega (arith, from_most i) in
      absurd (omega (arith, (row_low (first S j) (from S K j) a).0 (omega (arith, (row_low (first S i) (from S K j) a).1 l, first_mono S m.built i j h k)))))
      (λ l. l) (lt_or_le (from S K j) (from S K i))

  module _ (t x : ℕ) (w : Scan S K t x) where
    module _ (h : x < height S K) where
      abbrev J : ℕ
      J = owner S.firsts (row_at S K x)

      pub row_owned : Owned S (row_at S K x) (owner S.firsts (row_at S K x))
      row_owned = m.owned (row_at S K x) (m.built.below K x kn h)

      past : first S (suc t) ≤ row_at S K x
      past = ⊎_elim (λ (l : row_at S K x < first S (suc t)). absurd (omega (arith, (row_low (first S (suc t)) x h).0 l, w.here))) (λ l. l) (lt_or_le (row_at S K x) (first S (suc t)))

      pub scan_later : t < owner S.firsts (row_at S K x)
      scan_later = ⊎_elim (λ (l : t < J). l)
          (λ (l : J ≤ t). absurd (omega (arith, row_owned.to, first_mono S m.built (suc J) (suc t) (let z : suc J ≤ suc t = omega arith in z) w.inside, past))) (lt_or_le t J)

      pub scan_from : from S K (owner S.firsts (row_at S K x)) ≡ x
      scan_from = omega (
        arith,
        from_rise (suc t) J scan_later (omega (arith, row_owned.inside)),
        w.here,
        ⊎_elim (λ (l : x < from S K J). absurd (omega (arith, (row_low (first S J) x h).1 l, row_owned.from))) (λ (l : from S K J ≤ x). l) (lt_or_le x (from S K J)),
      )

      pub scan_more : x < from S K (suc (owner S.firsts (row_at S K x)))
      scan_more = (row_low (first S (suc J)) x h).0 row_owned.to

      pub scan_hits : T (hits S K (owner S.firsts (row_at S K x)))
      scan_hits = (hits_iff S K J).1 (omega (arith, scan_later, w.own), omega (arith, scan_from, scan_more))

      pub scan_next : Scan S K (owner S.firsts (row_at S K x)) (from S K (suc (owner S.firsts (row_at S K x))))
      scan_next = record { own = omega (arith, scan_later, w.own); inside = row_owned.inside; here = refl }

      -- what the turn changes: J gains one, and no other
      pub met_same : met S K (owner S.firsts (row_at S K x)) (owner S.firsts (row_at S K x)) ≡ suc (met S K t (owner S.firsts (row_at S K x)))
      met_same = rw (T_true (hits S K J) scan_hits, T_true (leb J J) (le→leb J J (le_refl J)), T_false (leb J t) (not_T (leb J t) (λ u. absurd (omega (arith, leb→le J t u, scan_later))))) (omega arith)

      pub met_other : (i : ℕ) → i ≢ owner S.firsts (row_at S K x) → met S K (owner S.firsts (row_at S K x)) i ≡ met S K t i
      met_other i ne = ap (λ b. tally (λ a. hits S a i) K + bit b) (same (hits S K i && leb i J) (hits S K i && leb i t)
          (λ a. let p = and_both (hits S K i) (leb i J) a in
          let l = leb→le i J p.1 in
          ⊎_elim (λ (z : t < i). absurd (not_between z (omega arith) ((hits_iff S K i).0 p.0).1)) (λ (z : i ≤ t). and_intro (hits S K i) (leb i t) p.0 (le→leb i t z)) (lt_or_le t i))
          (λ a. let p = and_both (hits S K i) (leb i t) a in and_intro (hits S K i) (leb i J) p.0 (le→leb i J (omega (arith, leb→le i t p.1, scan_later)))))
        where
          not_between : t < i → i < J → from S K i < from S K (suc i) → ⊥
          not_between a b l = absurd (omega (
            arith,
            from_rise (suc t) i a (omega (arith, row_owned.inside)),
            from_rise (suc i) J b (omega (arith, row_owned.inside)),
            scan_from,
            w.here,
          ))

    -- the scan is over
    pub scan_over : height S K ≤ x → (i : ℕ) → i < supernodes S → met S K t i ≡ tally (λ I. hits S I i) (suc K)
    unfolding tally
    scan_over h i il = ap (λ b. tally (λ a. hits S a i) K + bit b) (same (hits S K i && leb i t) (hits S K i)
        (λ a. (and_both (hits S K i) (leb i t) a).0)
        (λ a. and_intro (hits S K i) (leb i t) a (⊎_elim
        (λ (z : t < i). absurd (omega (arith, ((hits_iff S K i).0 a).1, from_rise (suc t) i z (omega arith), from_most (suc i), w.here)))
        (λ (z : i ≤ t). le→leb i t z) (lt_or_le t i))))

  -- no target at first
  pub met_none : (i : ℕ) → met S K K i ≡ tally (λ I. hits S I i) K
  met_none i = ap (λ b. tally (λ a. hits S a i) K + bit b) (T_false (hits S K i && leb i K) (not_T (hits S K i && leb i K) (λ a.
      let p = and_both (hits S K i) (leb i K) a in absurd (omega (arith, ((hits_iff S K i).0 p.0).0, leb→le i K p.1))))) ∙ add-zero _

  -- the rows below the end of K's columns are its columns
  pub scan_begin : Scan S K K (width S K)
  scan_begin = record {
    own = le_refl K;
    inside = kn;
    here = run_end (width S K) (first S (suc K)) (m.built.tall K kn)
        (λ x l. omega (arith, m.built.own K x kn l, m.built.rise K kn))
        (λ l. omega (arith, m.built.rise K kn, m.built.own K (width S K - 1) kn (omega (arith, m.built.rise K kn)), m.built.sorted K (width S K - 1) (width S K) kn (omega (arith, m.built.rise K kn)) l));
  }
