-- The entries of one upper column after another, counted and put to the lower columns. Assumes nothing.
use mathlib.Core.Path.{◌≡◌, refl, sym, ap, ap₂, ◌∙◌}
use mathlib.Core.Logic.{⊎_elim, ◌≢◌}
use mathlib.Core.Bool.{Bool, true, false, ◌&&◌}
use mathlib.Core.List.{List, ◌++◌}
use Prim.Native.Nat.{ℕ, zero, suc, ◌+◌, ◌≤◌, ◌<◌}
use native.Mathlib.Omega.{arith}
use native.Mathlib.Nat.{le_refl, eq-or-lt_of_le, add-zero}
use native.Mathlib.Numerals.{add-one}
use lib.Dec.{T, not_T, ltb, ltb→lt, lt→ltb}
use lib.Ieee.{Float, nan}
use lib.ListN.{length, get_or, set, drop, replicate, length-set, length-map, length-append, length-replicate, get_or-append}
use lib.Seq.{get_or-set_same, get_or-set_other}
use Rattle.statement.specs.Lists.{bit, tally, sum, joined}
use Rattle.statement.specs.Input.{matrix, stored, value}
use Rattle.statement.specs.Fill.{parent}
use Rattle.statement.specs.Postorder.{permutation, renumbered}
use Rattle.statement.specs.Calls.{entry_a}
use Rattle.laws.proofs.Bools.{split_at, and_both, and_intro, same, T_true, T_false, ltb_yes, ltb_no}
use Rattle.laws.proofs.Tally.{count_to}
use Rattle.laws.proofs.Ranks.{tally_yes, tally_mono, select_of}
use Rattle.laws.proofs.Select.{select_length}
use Rattle.laws.proofs.Input.{upper, column_to, stored_at}
use Rattle.laws.proofs.Postorder.{pos}
use Rattle.laws.proofs.FactorTree.{numbering}
use Rattle.laws.proofs.Entry.{get_d_map}
use Rattle.laws.proofs.Sum.{sum_ext}
use Rattle.areas.specs.Buckets.{start, Holds, Buckets, Beyond}
use Rattle.areas.proofs.Buckets.{start_suc, buckets_start, buckets_ext, bucket_in, bucket_below, bucket_push, beyond_same, beyond_set, beyond_by}
use Rattle.lower.specs.Entries.{originally, in_lower, lower_rows, lower_values, lower_start, Sited, Line, spot, reached, Counted, Put}
use Rattle.lower.proofs.Spots.{spot_at, spot_in, value_at}

-- starts are the sums of the lengths
pub start_sum : {A : Type 0} (z : A) (b : ℕ → List A) (k : ℕ) → start b k ≡ sum (λ j. length (b j)) k
unfolding sum joined
start_sum z b zero = refl
start_sum z b (suc k) = omega (arith, start_suc z b k, start_sum z b k)

module _ (n : ℕ) (starts rows : List ℕ) (values : List Float) where
  pub lengths : (c : ℕ) → length (lower_values n starts rows values c) ≡ length (lower_rows n starts rows c)
  lengths c = length-map (lower_rows n starts rows c) (λ r. entry_a (matrix n starts rows values) (permutation (stored starts rows) n) r c)

  pub starts_same : (c : ℕ) → start (lower_values n starts rows values) c ≡ lower_start n starts rows c
  starts_same c = start_sum nan (lower_values n starts rows values) c ∙ sum_ext _ _ c (λ j _. lengths j) ∙ sym (start_sum 0 (lower_rows n starts rows) c)

-- ---- what the two passes keep, before position q of upper column k

pub record Counting (n : ℕ) (starts rows : List ℕ) (r k : ℕ) (c₀ counts : List ℕ) (q : ℕ) : Type 0 where
  pub from : get_or starts k 0 ≤ q
  pub to : q ≤ get_or starts (k + 1) 0
  pub room : n ≤ length counts
  pub is : (c : ℕ) → c < n → get_or counts c 0 ≡ reached n starts rows r q c
  pub same_len : length counts ≡ length c₀

pub record Putting (n : ℕ) (starts rows : List ℕ) (values : List Float) (r k : ℕ) (next₀ l₀ : List ℕ) (v₀ : List Float) (next l : List ℕ) (v : List Float) (q : ℕ) : Type 0 where
  pub from : get_or starts k 0 ≤ q
  pub to : q ≤ get_or starts (k + 1) 0
  pub in_rows : Buckets 0 (lower_rows n starts rows) n (reached n starts rows r q) next l
  pub in_values : Buckets nan (lower_values n starts rows values) n (reached n starts rows r q) next v
  pub beyond_rows : Beyond (lower_start n starts rows n) l₀ l
  pub beyond_values : Beyond (lower_start n starts rows n) v₀ v
  pub same_len : length next ≡ length next₀

-- what is read and written for the entry at position q, where there is one before e
pub record Counts (rows places counts : List ℕ) (q e : ℕ) : Type 0 where
  pub in_places : q < e → get_or rows q 0 < length places
  pub in_counts : q < e → get_or places (get_or rows q 0) 0 < length counts
  pub few : q < e → get_or counts (get_or places (get_or rows q 0) 0) 0 ≤ 32768

pub record Puts (rows places next l : List ℕ) (v : List Float) (q e : ℕ) : Type 0 where
  pub in_places : q < e → get_or rows q 0 < length places
  pub in_next : q < e → get_or places (get_or rows q 0) 0 < length next
  pub in_rows : q < e → get_or next (get_or places (get_or rows q 0) 0) 0 < length l
  pub in_values : q < e → get_or next (get_or places (get_or rows q 0) 0) 0 < length v

-- ---- one upper column

module _ (n : ℕ) (starts rows perm places : List ℕ) (g : Sited n starts rows perm places) (r : ℕ) (rn : r < n) where
  u : (i k : ℕ) → T (stored starts rows i k) → i ≤ k
  u = upper n starts rows g.formed

  abbrev s : ℕ → ℕ → Bool
  s = stored starts rows

  abbrev P : ℕ → ℕ → Bool
  P = in_lower n starts rows

  abbrev O : ℕ → ℕ
  O = originally n starts rows

  k_is : get_or perm r 0 ≡ originally n starts rows r
  k_is = g.perm_is.at r rn

  k_in : get_or perm r 0 < n
  k_in = omega (arith, k_is, (numbering s n u).q_in r rn)

  pub k_ends : (r < length perm) × (get_or perm r 0 + 1 < length starts) × (get_or starts (get_or perm r 0 + 1) 0 ≤ length rows) × (get_or starts (get_or perm r 0) 0 ≤ get_or starts (get_or perm r 0 + 1) 0)
  k_ends = (omega (arith, g.perm_is.fits), omega (arith, g.formed.count, k_in), rw add-one (column_to n starts rows g.formed (get_or perm r 0) k_in), rw add-one (g.formed.rise (get_or perm r 0) k_in))

  -- what the pattern says
  P_stored : (c : ℕ) → T (in_lower n starts rows c r) → T (stored starts rows (originally n starts rows c) (get_or perm r 0))
  unfolding renumbered
  P_stored c t = rw k_is (and_both (ltb r n) _ (and_both (ltb c n) _ t).1).1

  P_in : (c : ℕ) → T (in_lower n starts rows c r) → c < n
  unfolding renumbered
  P_in c t = ltb→lt c n (and_both (ltb c n) _ t).0

  abbrev sp : ℕ → ℕ
  sp c = spot starts rows (originally n starts rows c) (originally n starts rows r)

  P_spot : (c : ℕ) → T (in_lower n starts rows c r) → (get_or starts (get_or perm r 0) 0 ≤ sp c) × (sp c < get_or starts (get_or perm r 0 + 1) 0) × (get_or rows (sp c) 0 ≡ originally n starts rows c)
  P_spot c t = rw (add-one, ← k_is) (spot_in n starts rows g.formed (get_or perm r 0) k_in (O c) (P_stored c t))

  pub reach_begin : (c : ℕ) → reached n starts rows r (get_or starts (get_or perm r 0) 0) c ≡ tally (in_lower n starts rows c) r
  reach_begin c = ap (λ b. tally (P c) r + bit b) (T_false (P c r && ltb (sp c) (get_or starts (get_or perm r 0) 0)) (not_T (P c r && ltb (sp c) (get_or starts (get_or perm r 0) 0)) (λ t.
      let p = and_both (P c r) (ltb (sp c) (get_or starts (get_or perm r 0) 0)) t in absurd (omega (arith, P_spot c p.0, ltb→lt (sp c) (get_or starts (get_or perm r 0) 0) p.1))))) ∙ add-zero _

  pub reach_end : (q : ℕ) → get_or starts (get_or perm r 0 + 1) 0 ≤ q → (c : ℕ) → reached n starts rows r q c ≡ tally (in_lower n starts rows c) (suc r)
  unfolding tally
  reach_end q h c = ap (λ b. tally (P c) r + bit b) (same (P c r && ltb (sp c) q) (P c r)
      (λ t. (and_both (P c r) (ltb (sp c) q) t).0)
      (λ t. and_intro (P c r) (ltb (sp c) q) t (lt→ltb (sp c) q (omega (arith, P_spot c t)))))

  reach_to : (q c : ℕ) → reached n starts rows r q c ≤ suc r
  reach_to q c = omega (arith, count_to (P c) r, bit_to (P c r && ltb (sp c) q))
    where
      bit_to : (b : Bool) → bit b ≤ 1
      bit_to true = le_refl 1
      bit_to false = omega arith

  -- a position of the column
  module _ (q : ℕ) (a : get_or starts (get_or perm r 0) 0 ≤ q) (b : q < get_or starts (get_or perm r 0 + 1) 0) where
    b' : q < get_or starts (suc (get_or perm r 0)) 0
    b' = rw add-one at b

    st : T (stored starts rows (get_or rows q 0) (get_or perm r 0))
    st = (stored_at n starts rows g.formed (get_or rows q 0) (get_or perm r 0) k_in).1 (q, a, b', refl)

    i_in : get_or rows q 0 < n
    i_in = omega (arith, u (get_or rows q 0) (get_or perm r 0) st, k_in)

    abbrev col : ℕ
    col = get_or places (get_or rows q 0) 0

    col_is : get_or places (get_or rows q 0) 0 ≡ pos (parent (stored starts rows) n) n (get_or rows q 0)
    col_is = g.places_are.at (get_or rows q 0) i_in

    pub col_in : get_or places (get_or rows q 0) 0 < n
    col_in = omega (arith, col_is, (numbering s n u).p_in (get_or rows q 0) i_in)

    col_orig : originally n starts rows (get_or places (get_or rows q 0) 0) ≡ get_or rows q 0
    col_orig = ap O col_is ∙ (numbering s n u).qp (get_or rows q 0) i_in

    pub col_reads : (q < length rows) × (get_or rows q 0 < length places)
    col_reads = (omega (arith, k_ends), omega (arith, i_in, g.places_are.fits))

    col_entry : T (in_lower n starts rows (get_or places (get_or rows q 0) 0) r)
    unfolding renumbered
    col_entry = rw (ltb_yes col_in, ltb_yes rn, col_orig, ← k_is) st

    col_spot : sp (get_or places (get_or rows q 0) 0) ≡ q
    col_spot = rw (col_orig, ← k_is) (spot_at n starts rows g.formed (get_or perm r 0) k_in q a b')

    reach_now : reached n starts rows r q col ≡ tally (in_lower n starts rows col) r
    reach_now = rw (col_spot, ltb_no (le_refl q), T_true (P col r) col_entry) (add-zero _)

    reach_same : reached n starts rows r (q + 1) col ≡ suc (reached n starts rows r q col)
    reach_same = ap (λ b. tally (P col) r + bit b)
        (T_true (P col r && ltb (sp col) (q + 1)) (and_intro (P col r) (ltb (sp col) (q + 1)) col_entry (lt→ltb (sp col) (q + 1) (omega (arith, col_spot)))))
        ∙ omega (arith, reach_now)

    reach_other : (c : ℕ) → c ≢ col → reached n starts rows r (q + 1) c ≡ reached n starts rows r q c
    reach_other c ne = ap (λ b. tally (P c) r + bit b) (same (P c r && ltb (sp c) (q + 1)) (P c r && ltb (sp c) q)
        (λ t. let p = and_both (P c r) (ltb (sp c) (q + 1)) t in
        let l = ltb→lt (sp c) (q + 1) p.1 in
        ⊎_elim (λ (e : sp c ≡ q). absurd (ne (mine c p.0 e))) (λ (z : sp c < q). and_intro (P c r) (ltb (sp c) q) p.0 (lt→ltb (sp c) q z)) (eq-or-lt_of_le (let z : sp c ≤ q = omega arith in z)))
        (λ t. let p = and_both (P c r) (ltb (sp c) q) t in and_intro (P c r) (ltb (sp c) (q + 1)) p.0 (lt→ltb (sp c) (q + 1) (omega (arith, ltb→lt (sp c) q p.1)))))
      where
        mine : (c : ℕ) → T (in_lower n starts rows c r) → sp c ≡ q → c ≡ col
        mine c t e =
            let o : originally n starts rows c ≡ get_or rows q 0 = sym (P_spot c t).2 ∙ ap (λ x. get_or rows x 0) e in
            sym ((numbering s n u).pq c (P_in c t)) ∙ ap (pos (parent s n) n) o ∙ sym col_is

    -- the value there is A's
    col_value : (values : List Float) → length values ≡ length rows → get_or values q nan ≡ entry_a (matrix n starts rows values) (permutation (stored starts rows) n) r col
    unfolding entry_a
    col_value values e = sym (ap₂ (value (matrix n starts rows values)) col_orig (sym k_is) ∙ value_at n starts rows g.formed (get_or perm r 0) k_in values e q a b')

  -- ---- counted

  pub counting_begin : {counts : List ℕ} {a : ℕ} → a ≡ get_or starts (get_or perm r 0) 0 → Counted n starts rows r counts → Counting n starts rows r (get_or perm r 0) counts counts a
  counting_begin e w = rw e (record {
    from = le_refl _;
    to = k_ends.3;
    room = w.room;
    is = λ c h. w.is c h ∙ sym (reach_begin c);
    same_len = refl;
  })

  module _ {c₀ counts : List ℕ} {q : ℕ} (w : Counting n starts rows r (get_or perm r 0) c₀ counts q) where
    pub counting_more : (b : q < get_or starts (get_or perm r 0 + 1) 0)
        → Counting n starts rows r (get_or perm r 0) c₀ (set counts (get_or places (get_or rows q 0) 0) (get_or counts (get_or places (get_or rows q 0) 0) 0 + 1)) (q + 1)
    counting_more b = record {
      from = omega (arith, w.from);
      to = omega arith;
      room = simp length-set w.room;
      is = split_at {P = λ i. i < n → get_or (set counts c (get_or counts c 0 + 1)) i 0 ≡ reached n starts rows r (q + 1) i} c
          (λ a. get_or-set_same counts c _ 0 (omega (arith, w.room)) ∙ omega (arith, w.is c a, reach_same q w.from b))
          (λ i ne a. get_or-set_other counts c i _ 0 ne ∙ w.is i a ∙ sym (reach_other q w.from b i ne));
      same_len = simp length-set w.same_len;
    }
      where
        c : ℕ
        c = get_or places (get_or rows q 0) 0

    -- what the code reads and adds
    pub counting_reads : (b : q < get_or starts (get_or perm r 0 + 1) 0)
        → (q < length rows) × (get_or rows q 0 < length places) × (get_or places (get_or rows q 0) 0 < length counts) × (get_or counts (get_or places (get_or rows q 0) 0) 0 ≤ n)
    counting_reads b =
        let c = col_in q w.from b in
        let e = col_reads q w.from b in
        (e.0, e.1, omega (arith, c, w.room), omega (arith, w.is _ c, reach_to q (get_or places (get_or rows q 0) 0)))

    pub counting_ahead : {e : ℕ} → e ≡ get_or starts (get_or perm r 0 + 1) 0 → Counting n starts rows r (get_or perm r 0) c₀ counts q × Counts rows places counts q e
    counting_ahead {e} z = (
      w,
      record {
        in_places = λ h. (counting_reads (omega arith)).1;
        in_counts = λ h. (counting_reads (omega arith)).2;
        few = λ h. omega (arith, g.small, (counting_reads (omega arith)).3);
      },
    )

    pub counting_over : get_or starts (get_or perm r 0 + 1) 0 ≤ q → Counted n starts rows (suc r) counts
    counting_over h = record { room = w.room; is = λ c a. w.is c a ∙ reach_end q h c }

  -- ---- put

  module _ (values : List Float) (beside : length values ≡ length rows) where
    abbrev B : ℕ → List ℕ
    B = lower_rows n starts rows

    abbrev F : ℕ → List Float
    F = lower_values n starts rows values

    pub putting_begin : {next l : List ℕ} {v : List Float} {a : ℕ} → a ≡ get_or starts (get_or perm r 0) 0 → Put n starts rows values r next l v → Putting n starts rows values r (get_or perm r 0) next l v next l v a
    putting_begin {next} {l} {v} e w = rw e (record {
      from = le_refl _;
      to = k_ends.3;
      in_rows = buckets_ext 0 B w.in_rows _ (λ c _. reach_begin c);
      in_values = buckets_ext nan F w.in_values _ (λ c _. reach_begin c);
      beyond_rows = beyond_same _ l;
      beyond_values = beyond_same _ v;
      same_len = refl;
    })

    module _ {next₀ l₀ : List ℕ} {v₀ : List Float} {next l : List ℕ} {v : List Float} {q : ℕ} (w : Putting n starts rows values r (get_or perm r 0) next₀ l₀ v₀ next l v q) where
      module _ (b : q < get_or starts (get_or perm r 0 + 1) 0) where
        abbrev c : ℕ
        c = get_or places (get_or rows q 0) 0

        cn : c < n
        cn = col_in q w.from b

        now_is : reached n starts rows r q c ≡ tally (in_lower n starts rows c) r
        now_is = reach_now q w.from b

        t : T (in_lower n starts rows c r)
        t = col_entry q w.from b

        more : reached n starts rows r q c < length (lower_rows n starts rows c)
        more = omega (arith, now_is, select_length (P c) n, tally_yes (P c) r t, tally_mono (P c) (suc r) n rn)

        more_v : reached n starts rows r q c < length (lower_values n starts rows values c)
        more_v = omega (arith, more, lengths n starts rows values c)

        row_is : get_or (lower_rows n starts rows c) (reached n starts rows r q c) 0 ≡ r
        row_is = ap (λ x. get_or (lower_rows n starts rows c) x 0) now_is ∙ select_of (P c) n r rn t

        value-is : get_or values q nan ≡ get_or (lower_values n starts rows values c) (reached n starts rows r q c) nan
        value-is = col_value q w.from b values beside ∙ sym (get_d_map (λ r. entry_a (matrix n starts rows values) (permutation (stored starts rows) n) r c) (lower_rows n starts rows c) (reached n starts rows r q c) 0 nan more
            ∙ ap (λ x. entry_a (matrix n starts rows values) (permutation (stored starts rows) n) x c) row_is)

        pub putting_reads : (get_or places (get_or rows q 0) 0 < length next) × (get_or next (get_or places (get_or rows q 0) 0) 0 < length l) × (get_or next (get_or places (get_or rows q 0) 0) 0 < length v)
        putting_reads = (omega (arith, cn, w.in_rows.room), bucket_in 0 B w.in_rows c cn more, bucket_in nan F w.in_values c cn more_v)

        pub putting_more : {next' l' : List ℕ} {v' : List Float} → next' ≡ set next c (get_or next c 0 + 1) → l' ≡ set l (get_or next c 0) r → v' ≡ set v (get_or next c 0) (get_or values q nan)
            → Putting n starts rows values r (get_or perm r 0) next₀ l₀ v₀ next' l' v' (q + 1)
        putting_more {next'} {l'} {v'} e1 e2 e3 = record {
          from = omega (arith, w.from);
          to = omega arith;
          in_rows = rw (e1, e2) (bucket_push 0 B w.in_rows c cn more (sym row_is) (reached n starts rows r (q + 1)) (reach_same q w.from b) (λ i _ ne. reach_other q w.from b i ne));
          in_values = rw (e1, e3) (bucket_push nan F w.in_values c cn more_v value-is (reached n starts rows r (q + 1)) (reach_same q w.from b) (λ i _ ne. reach_other q w.from b i ne));
          beyond_rows = beyond_by _ w.beyond_rows (rw e2 (beyond_set _ l (get_or next c 0) r below));
          beyond_values = beyond_by _ w.beyond_values (rw e3 (beyond_set _ v (get_or next c 0) (get_or values q nan) below));
          same_len = rw e1 (simp length-set w.same_len);
        }
          where
            below : get_or next c 0 < lower_start n starts rows n
            below = bucket_below 0 B w.in_rows c cn more

      pub putting_ahead : {e : ℕ} → e ≡ get_or starts (get_or perm r 0 + 1) 0 → Putting n starts rows values r (get_or perm r 0) next₀ l₀ v₀ next l v q × Puts rows places next l v q e
      putting_ahead {e} z = (
        w,
        record {
          in_places = λ h. (col_reads q w.from (omega arith)).1;
          in_next = λ h. (putting_reads (omega arith)).0;
          in_rows = λ h. (putting_reads (omega arith)).1;
          in_values = λ h. (putting_reads (omega arith)).2;
        },
      )

      pub putting_over : get_or starts (get_or perm r 0 + 1) 0 ≤ q → Put n starts rows values (suc r) next l v
      putting_over h = record {
        in_rows = buckets_ext 0 B w.in_rows _ (λ c _. sym (reach_end q h c));
        in_values = buckets_ext nan F w.in_values _ (λ c _. sym (reach_end q h c));
      }

-- the column at a place
pub column_in : {n : ℕ} {starts rows perm places : List ℕ} → Sited n starts rows perm places → (r : ℕ) → r < n → get_or perm r 0 < n
column_in {n} {starts} {rows} {perm} {places} g r h = k_in n starts rows perm places g r h

pub line_is : {n : ℕ} {starts rows perm places : List ℕ} → Sited n starts rows perm places → (r : ℕ) → r < n
    → Line starts rows (get_or perm r 0) (get_or starts (get_or perm r 0) 0) (get_or starts (get_or perm r 0 + 1) 0)
line_is {n} {starts} {rows} {perm} {places} g r h = let k = k_ends n starts rows perm places g r h in record { begins = refl; ends = refl; rises = k.3; fits = k.2 }

-- ---- all of them

module _ (n : ℕ) (starts rows : List ℕ) where
  -- an area that begins with n of x
  pub counted_begin : (d l : List ℕ) → n ≤ length d → l ≡ replicate n 0 ++ drop n d → Counted n starts rows 0 l
  unfolding tally
  counted_begin d l h e = record {
    room = rw (e, length-append, length-replicate) (omega arith);
    is = λ j k. ap (λ x. get_or x j 0) e ∙ get_or-append {A = ℕ} (replicate n 0) (drop n d) 0 j (omega (arith, length-replicate {A = ℕ} n 0)) ∙ zeros n j;
  }
    where
      zeros : (m j : ℕ) → ◌≡◌ {A = ℕ} (get_or (replicate m 0) j 0) 0
      zeros zero j = refl
      zeros (suc m) zero = refl
      zeros (suc m) (suc j) = zeros m j

  pub counted_over : {r : ℕ} {l : List ℕ} → Counted n starts rows r l → r ≤ n → n ≤ r → Holds (λ c. length (lower_rows n starts rows c)) n l
  counted_over {r} w a b = record { fits = w.room; at = λ c h. w.is c h ∙ ap (tally (in_lower n starts rows c)) (let z : r ≡ n = omega arith in z) ∙ sym (select_length (in_lower n starts rows c) n) }

  -- each lower column has at most n entries
  pub counts_small : {l : List ℕ} → Holds (λ c. length (lower_rows n starts rows c)) n l → (j : ℕ) → j < n → get_or l j 0 ≤ n
  counts_small w j h = omega (arith, w.at j h, select_length (in_lower n starts rows j) n, count_to (in_lower n starts rows j) n)

  module _ (values : List Float) where
    pub put_begin : (next l : List ℕ) (v : List Float) → Holds (lower_start n starts rows) n next → lower_start n starts rows n ≤ length l → lower_start n starts rows n ≤ length v → Put n starts rows values 0 next l v
    unfolding tally
    put_begin next l v g f f' = record {
      in_rows = buckets_start 0 (lower_rows n starts rows) n next l g.fits f g.at;
      in_values = buckets_start nan (lower_values n starts rows values) n next v g.fits (omega (arith, starts_same n starts rows values n)) (λ j k. g.at j k ∙ sym (starts_same n starts rows values j));
    }
