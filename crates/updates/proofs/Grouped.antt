-- The updates of each target as they are counted and listed, and how many there are at most. Assumes nothing.
use mathlib.Core.Path.{◌≡◌, refl, sym, ap, ap₂, ◌∙◌}
use mathlib.Core.Logic.{⊎_elim}
use mathlib.Core.Bool.{Bool, true, false, cond, not, ◌&&◌}
use mathlib.Core.List.{[], ◌∷◌, append-nil}
use Prim.Native.Nat.{ℕ, zero, suc, ◌+◌, ◌-◌, ◌≤◌, ◌<◌}
use native.Mathlib.Omega.{arith}
use native.Mathlib.Nat.{le_refl, eq-or-lt_of_le, add-zero}
use native.Mathlib.Decide.{le_ind}
use lib.Dec.{T, not_T, ltb, leb, leb→le, le→leb, nleb→lt}
use lib.ListN.{length, get_or, length-append}
use Rattle.statement.specs.Lists.{bit, tally, sum, joined}
use Rattle.statement.specs.Input.{Matrix, WellFormed, pattern}
use Rattle.statement.specs.Shape.{Shape, supernodes, first, width, height}
use Rattle.statement.specs.Supernodes.{shape_of, update, updates_of, updates}
use Rattle.statement.specs.declared.Update.{Update}
use Rattle.statement.specs.Calls.{analysis}
use Rattle.laws.proofs.Input.{upper}
use Rattle.laws.proofs.FactorTree.{upper'}
use Rattle.laws.proofs.Bools.{T_true, T_false, T_dec, lt_or_le, ltb_yes}
use Rattle.laws.proofs.Ranks.{tally_yes, tally_no, tally_mono}
use Rattle.laws.proofs.Tally.{count_into}
use Rattle.laws.proofs.Sum.{sum_ext, sum-add, sum_bit}
use Rattle.areas.specs.Buckets.{start}
use Rattle.areas.proofs.Buckets.{start_sum, joined_at}
use Rattle.updates.specs.Scan.{from, hits}
use Rattle.updates.proofs.Made.{Made, made_of}
use Rattle.updates.proofs.Scans.{hits_iff, from_rise, from_most, scan_begin}

-- ---- the updates of target J

module _ (S : Shape) (J : ℕ) where
  abbrev yes : ℕ → Bool
  yes K = ltb (from S K J) (from S K (suc J))

  one : (K : ℕ) → length (update S J K) ≡ bit (yes K)
  unfolding update
  one K = go (yes K)
    where
      go : (b : Bool) → length {A = Update} (cond b (record { supernode = K; p1 = from S K J; p2 = from S K (suc J) } ∷ []) []) ≡ bit b
      go true = refl
      go false = refl

  -- those of the first K supernodes
  start_hits : (K : ℕ) → K ≤ J → start (update S J) K ≡ tally (λ I. hits S I J) K
  unfolding tally joined
  start_hits zero h = refl
  start_hits (suc K) h =
      length-append (joined (update S J) K) (update S J K) ∙ ap₂ (λ x y. x + y) (start_hits K (omega arith)) (one K ∙ sym (ap (λ b. bit (b && yes K)) (ltb_yes h)))

  none_later : (m : ℕ) → J ≤ m → tally (λ I. hits S I J) m ≡ tally (λ I. hits S I J) J
  none_later m h = le_ind (λ x. tally (λ I. hits S I J) x ≡ tally (λ I. hits S I J) J) refl
      (λ x l u. tally_no (λ I. hits S I J) x (not_T (hits S x J) (λ t. absurd (omega (arith, ((hits_iff S x J).0 t).0)))) ∙ u) m h

  pub updates_length : (m : ℕ) → J ≤ m → length (updates_of S J) ≡ tally (λ I. hits S I J) m
  unfolding updates_of
  updates_length m h = start_hits J (le_refl J) ∙ sym (none_later m h)

  module _ (K : ℕ) (t : T (hits S K J)) where
    k : K < J
    k = ((hits_iff S K J).0 t).0

    pub updates_below : tally (λ I. hits S I J) K < length (updates_of S J)
    updates_below = omega (arith, updates_length J (le_refl J), tally_yes (λ I. hits S I J) K t, tally_mono (λ I. hits S I J) (suc K) J k)

    is : update S J K ≡ record { supernode = K; p1 = from S K J; p2 = from S K (suc J) } ∷ []
    unfolding update
    is = rw (ltb_yes ((hits_iff S K J).0 t).1)

    -- K's stands where those of the supernodes below K end
    pub updates_at_lem : (u : Update) → get_or (updates_of S J) (tally (λ I. hits S I J) K) u ≡ record { supernode = K; p1 = from S K J; p2 = from S K (suc J) }
    unfolding updates_of
    updates_at_lem u = ap (λ x. get_or (joined (update S J) J) x u) (sym (start_hits K (omega (arith, k))) ∙ sym (add-zero (start (update S J) K)))
        ∙ ap (λ l. get_or l (start (update S J) K + 0) u) (sym (append-nil (joined (update S J) J)))
        ∙ joined_at u (update S J) J [] K 0 k (rw is (le_refl 1)) ∙ ap (λ l. get_or l 0 u) is

-- ---- all

pub updates_joined : (S : Shape) → updates S ≡ joined (updates_of S) (supernodes S)
unfolding updates
updates_joined S = refl

pub updates_start : (S : Shape) → start (updates_of S) (supernodes S) ≡ length (updates S)
updates_start S = ap length (sym (updates_joined S))

-- ---- how many

sum_none : (m : ℕ) → sum (λ _. 0) m ≡ 0
unfolding sum
sum_none zero = refl
sum_none (suc m) = omega (arith, sum_none m)

sum_swap : (u : ℕ → ℕ → Bool) (m n : ℕ) → sum (λ j. tally (λ k. u k j) m) n ≡ sum (λ k. tally (λ j. u k j) n) m
unfolding sum tally
sum_swap u m zero = sym (sum_none m)
sum_swap u m (suc n) = omega (arith, sum_swap u m n, sum-add (λ k. tally (λ j. u k j) n) (λ k. bit (u k n)) m, sum_bit (λ k. u k n) m)

sum_both : (f g h : ℕ → ℕ) (m : ℕ) → ((k : ℕ) → k < m → f k + g k ≤ h k) → sum f m + sum g m ≤ sum h m
unfolding sum
sum_both f g h zero l = le_refl 0
sum_both f g h (suc m) l = omega (arith, sum_both f g h m (λ k a. l k (omega arith)), l m (le_refl (suc m)))

tally_from : (w m : ℕ) → tally (λ x. leb w x) m ≡ m - w
unfolding tally
tally_from w zero = omega arith
tally_from w (suc m) = ⊎_elim
    (λ (t : T (leb w m)). rw (T_true (leb w m) t) (omega (arith, tally_from w m, leb→le w m t)))
    (λ (t : T (not (leb w m))). rw (T_false (leb w m) t) (omega (arith, tally_from w m, nleb→lt w m t))) (T_dec (leb w m))

module _ (S : Shape) (m : Made S) where
  -- the widths add up
  widths : (k : ℕ) → k ≤ supernodes S → sum (width S) k ≡ first S k
  unfolding sum
  widths zero h = sym m.built.from
  widths (suc k) h = omega (arith, widths k (omega arith), m.built.rise k h)

  heights : (k : ℕ) → k ≤ supernodes S → get_or S.starts k 0 ≡ get_or S.starts 0 0 + sum (height S) k
  unfolding sum
  heights zero h = sym (add-zero _)
  heights (suc k) h = omega (arith, heights k (omega arith), m.next k h)

  -- each target is met at a row of its own
  few : (K : ℕ) → K < supernodes S → tally (λ J. hits S K J) (supernodes S) + width S K ≤ height S K
  few K kn = omega (
    arith,
    count_into (supernodes S) (height S K) (λ J. hits S K J) (λ x. leb (width S K) x) (from S K)
        (λ J h t. let p = (hits_iff S K J).0 t in (
          omega (arith, p.1, from_most S m K kn (suc J)),
          le→leb (width S K) (from S K J) (omega (arith, (scan_begin S m K kn).here, from_rise S m K kn (suc K) J p.0 (omega arith))),
        ))
        (λ i j h h' t t' e. ⊎_elim
        (λ (l : i < j). absurd (omega (arith, ((hits_iff S K i).0 t).1, from_rise S m K kn (suc i) j l (omega arith))))
        (λ (l : j ≤ i). ⊎_elim (λ (q : j ≡ i). sym q)
        (λ (q : j < i). absurd (omega (arith, ((hits_iff S K j).0 t').1, from_rise S m K kn (suc j) i q (omega arith)))) (eq-or-lt_of_le l)) (lt_or_le i j)),
    tally_from (width S K) (height S K),
    m.built.tall K kn,
  )

  -- there are no more updates than rows past the columns
  pub few_updates : length (updates S) + S.n ≤ length S.rows
  few_updates = omega (
    arith,
    updates_start S,
    start_sum (updates_of S) (supernodes S),
    sum_ext (λ J. length (updates_of S J)) (λ J. tally (λ K. hits S K J) (supernodes S)) (supernodes S) (λ J l. updates_length S J (supernodes S) (omega arith)),
    sum_swap (hits S) (supernodes S) (supernodes S),
    sum_both (λ K. tally (λ J. hits S K J) (supernodes S)) (width S) (height S) (supernodes S) few,
    widths (supernodes S) (le_refl _),
    m.built.ends,
    heights (supernodes S) (le_refl _),
    m.end,
  )

-- for every pattern
pub few_of : (p : ℕ → ℕ → Bool) (n : ℕ) → ((i k : ℕ) → T (p i k) → i ≤ k) → length (updates (shape_of p n)) + n ≤ length (shape_of p n).rows
few_of p n upper = omega (arith, few_updates (shape_of p n) (made_of p n upper), size)
  where
    size : (shape_of p n).n ≡ n
    size = unfold shape_of in refl

-- and so for every well-formed matrix
pub few_always : (M : Matrix) → WellFormed M → length (updates (analysis M).shape) + M.n ≤ length (analysis M).shape.rows
unfolding analysis
few_always M w = few_of _ M.n (upper' (pattern M) M.n (upper M.n M.starts M.rows w.columns))
