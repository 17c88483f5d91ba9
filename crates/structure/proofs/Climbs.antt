-- The walks of a row, on the lists. Assumes nothing.
use mathlib.Core.Path.{◌≡◌, refl, sym, ap, ◌∙◌}
use mathlib.Core.Logic.{◌⊎◌, inl, inr, ⊎_elim, ◌≢◌}
use mathlib.Core.Bool.{Bool}
use mathlib.Core.List.{List, ◌++◌}
use Prim.Native.Nat.{ℕ, suc, ◌+◌, ◌≤◌, ◌<◌}
use native.Mathlib.Omega.{arith}
use native.Mathlib.Nat.{le_refl, eq-or-lt_of_le}
use native.Mathlib.Numerals.{add-one}
use lib.Dec.{T, ltb, ltb→lt}
use lib.ListN.{length, get_or, set, take, drop, replicate, length-set, length-append, length-take, length-replicate, get_or-replicate, get_or-append}
use lib.Seq.{get_or-set_same, get_or-set_other, get_or-take}
use Rattle.statement.specs.Input.{Columns, stored}
use Rattle.statement.specs.Fill.{parent}
use Rattle.statement.specs.Postorder.{permutation, original, renumbered}
use Rattle.laws.specs.Numbered.{shape}
use Rattle.laws.proofs.Bools.{split_at, ltb_yes, and_both}
use Rattle.laws.proofs.Input.{upper, column_to, stored_at}
use Rattle.laws.proofs.Postorder.{pos}
use Rattle.laws.proofs.FactorTree as Factor
use Rattle.areas.specs.Buckets.{Holds, Beyond}
use Rattle.areas.proofs.Buckets.{beyond_same, beyond_set, beyond_by}
use Rattle.structure.specs.Node.{nodes, owner_of, above, in_row, row_start}
use Rattle.structure.specs.Line.{factored_pattern, Given, Marked, Kept, Lines, Line}
use Rattle.structure.proofs.Node as Node
use Rattle.structure.proofs.Lined as Lined

pub pattern_upper : (n : ℕ) (starts rows : List ℕ) → Columns n starts rows → (i k : ℕ) → T (factored_pattern n starts rows i k) → i ≤ k
pattern_upper n starts rows wf = Factor.upper' (stored starts rows) n (upper n starts rows wf)

-- a walk in row r from supernode k, at supernode at
pub record Climbing (s : ℕ → ℕ → Bool) (n r k : ℕ) (m₀ next₀ l₀ m next l : List ℕ) (at : ℕ) : Type 0 where
  pub line : Line s n r at m next l
  pub in_nodes : at < nodes s n
  pub row : T (in_row s n at r)
  pub keep : Kept r m₀ m
  pub hit : (at ≡ k) ⊎ Marked r m k
  pub beyond : Beyond (row_start s n (nodes s n)) l₀ l
  pub same_m : length m ≡ length m₀
  pub same_n : length next ≡ length next₀
  pub len_m : at < length m
  pub len_n : at < length next
  pub len_l : row_start s n (nodes s n) ≤ length l

module _ (s : ℕ → ℕ → Bool) (n : ℕ) (up : (i k : ℕ) → T (s i k) → i ≤ k) (r : ℕ) (rn : r < n) where
  pub climbing_begin : {k : ℕ} {m next l : List ℕ} → k < nodes s n → T (in_row s n k r) → Line s n r 0 m next l → Climbing s n r k m next l m next l k
  climbing_begin {k} {m} {next} {l} h t w = record {
    line = Lined.line_to s n r rn up w k;
    in_nodes = h;
    row = t;
    keep = λ _ e. e;
    hit = inl refl;
    beyond = beyond_same _ l;
    same_m = refl;
    same_n = refl;
    len_m = omega (arith, w.marks);
    len_n = omega (arith, w.lists.room);
    len_l = w.lists.fits;
  }

  module _ {k : ℕ} {m₀ next₀ l₀ m next l : List ℕ} {at : ℕ} (w : Climbing s n r k m₀ next₀ l₀ m next l at) where
    module _ (ne : get_or m at 0 ≢ r) where
      pub climbing_below : get_or next at 0 < row_start s n (nodes s n)
      climbing_below = Lined.line_in s n r rn up w.line w.in_nodes w.row ne

      other : at ≢ owner_of s n r
      other e = ne (ap (λ x. get_or m x 0) e ∙ w.line.own)

      pub climbing_rise : (at < above s n at) × (above s n at < nodes s n)
      climbing_rise = (
        Node.above_more s n up at w.in_nodes,
        omega (arith, Node.above_to s n up at r w.in_nodes rn w.row other, Node.owner_in s n up r rn),
      )

      pub climbing_step : {m' next' l' : List ℕ} {at' : ℕ} → m' ≡ set m at r → next' ≡ set next at (get_or next at 0 + 1) → l' ≡ set l (get_or next at 0) r → at' ≡ above s n at
          → Climbing s n r k m₀ next₀ l₀ m' next' l' at'
      climbing_step e1 e2 e3 e4 = rw (e1, e2, e3, e4) (record {
        line = next_line;
        in_nodes = climbing_rise.1;
        row = Node.row_above s n up at r w.in_nodes rn w.row other;
        keep = λ j e. kept j (w.keep j e);
        hit = inr (⊎_elim (λ (e : at ≡ k). rw (← e) same) (λ (e : Marked r m k). kept k e) w.hit);
        beyond = beyond_by _ w.beyond (beyond_set _ l (get_or next at 0) r climbing_below);
        same_m = simp length-set w.same_m;
        same_n = simp length-set w.same_n;
        len_m = omega (arith, climbing_rise, next_line.marks);
        len_n = omega (arith, climbing_rise, next_line.lists.room);
        len_l = simp length-set w.len_l;
      })
        where
          next_line : Line s n r (above s n at) (set m at r) (set next at (get_or next at 0 + 1)) (set l (get_or next at 0) r)
          next_line = Lined.line_step s n r rn up w.line w.in_nodes w.row ne

          same : get_or (set m at r) at 0 ≡ r
          same = get_or-set_same m at r 0 w.len_m

          kept : (j : ℕ) → get_or m j 0 ≡ r → get_or (set m at r) j 0 ≡ r
          kept = split_at {P = λ j. get_or m j 0 ≡ r → get_or (set m at r) j 0 ≡ r} at (λ _. same) (λ j ne e. get_or-set_other m at j r 0 ne ∙ e)

    pub climbing_over : get_or m at 0 ≡ r → Line s n r 0 m next l × (Kept r m₀ m × (Marked r m k × Beyond (row_start s n (nodes s n)) l₀ l))
    climbing_over e = (Lined.line_over s n r rn up w.line e, (w.keep, (⊎_elim (λ (q : at ≡ k). rw (← q) e) (λ x. x) w.hit, w.beyond)))

-- ---- a row

-- row r from position q of the column's rows on; those before began a walk
pub record Lining (n : ℕ) (starts rows : List ℕ) (r k : ℕ) (m₀ next₀ l₀ m next l : List ℕ) (q : ℕ) : Type 0 where
  pub line : Line (factored_pattern n starts rows) n r 0 m next l
  pub from : get_or starts k 0 ≤ q
  pub to : q ≤ get_or starts (k + 1) 0
  pub within : get_or starts (k + 1) 0 ≤ length rows
  pub hit : (x : ℕ) → get_or starts k 0 ≤ x → x < q → Marked r m (owner_of (factored_pattern n starts rows) n (pos (parent (stored starts rows) n) n (get_or rows x 0)))
  pub beyond : Beyond (row_start (factored_pattern n starts rows) n (nodes (factored_pattern n starts rows) n)) l₀ l
  pub same_m : length m ≡ length m₀
  pub same_n : length next ≡ length next₀

module _ (n : ℕ) (starts rows perm place own up : List ℕ) (g : Given n starts rows perm place own up) (r : ℕ) (rn : r < n) where
  s : ℕ → ℕ → Bool
  s = stored starts rows

  u : (i k : ℕ) → T (stored starts rows i k) → i ≤ k
  u = upper n starts rows g.formed

  pu : (i k : ℕ) → T (factored_pattern n starts rows i k) → i ≤ k
  pu = pattern_upper n starts rows g.formed

  k : ℕ
  k = get_or perm r 0

  abbrev total : ℕ
  total = row_start (factored_pattern n starts rows) n (nodes (factored_pattern n starts rows) n)

  pub column_is : get_or perm r 0 ≡ original (permutation (stored starts rows) n) r
  column_is = g.perm_is.at r rn

  pub column_in : get_or perm r 0 < n
  column_in = omega (arith, column_is, (Factor.numbering (stored starts rows) n u).q_in r rn)

  pub column_ends : (get_or perm r 0 + 1 < length starts) × (get_or starts (get_or perm r 0 + 1) 0 ≤ length rows)
  column_ends = (omega (arith, g.formed.count, column_in), rw add-one (column_to n starts rows g.formed (get_or perm r 0) column_in))

  -- an entry of the row, by its position
  module _ (q : ℕ) (a : get_or starts (get_or perm r 0) 0 ≤ q) (b : q < get_or starts (get_or perm r 0 + 1) 0) where
    st : T (stored starts rows (get_or rows q 0) (get_or perm r 0))
    st = (stored_at n starts rows g.formed (get_or rows q 0) (get_or perm r 0) column_in).1 (q, a, (rw add-one at b), refl)

    i_in : get_or rows q 0 < n
    i_in = omega (arith, u (get_or rows q 0) (get_or perm r 0) st, column_in)

    place_at : get_or place (get_or rows q 0) 0 ≡ pos (parent (stored starts rows) n) n (get_or rows q 0)
    place_at = g.place_is.at (get_or rows q 0) i_in

    c_in : pos (parent (stored starts rows) n) n (get_or rows q 0) < n
    c_in = (Factor.numbering (stored starts rows) n u).p_in (get_or rows q 0) i_in

    entry_in : T (factored_pattern n starts rows (pos (parent (stored starts rows) n) n (get_or rows q 0)) r)
    unfolding renumbered
    entry_in = rw (ltb_yes c_in, ltb_yes rn, (Factor.numbering (stored starts rows) n u).qp (get_or rows q 0) i_in, ← column_is) st

    own_at : get_or own (get_or place (get_or rows q 0) 0) 0 ≡ owner_of (factored_pattern n starts rows) n (pos (parent (stored starts rows) n) n (get_or rows q 0))
    own_at = rw place_at (g.own_is.at (pos (parent (stored starts rows) n) n (get_or rows q 0)) c_in)

    pub entry_reads : (get_or rows q 0 < length place) × (get_or place (get_or rows q 0) 0 < length own)
    entry_reads = (omega (arith, i_in, g.place_is.fits), omega (arith, c_in, place_at, g.own_is.fits))

    pub entry_climbs : (get_or own (get_or place (get_or rows q 0) 0) 0 < nodes (factored_pattern n starts rows) n) × T (in_row (factored_pattern n starts rows) n (get_or own (get_or place (get_or rows q 0) 0) 0) r)
    entry_climbs = rw own_at (Node.owner_in (factored_pattern n starts rows) n pu _ c_in, Node.row_stored (factored_pattern n starts rows) n pu _ r rn entry_in)

    pub entry_hit : (m : List ℕ) → Marked r m (get_or own (get_or place (get_or rows q 0) 0) 0) → Marked r m (owner_of (factored_pattern n starts rows) n (pos (parent (stored starts rows) n) n (get_or rows q 0)))
    entry_hit m h = sym (ap (λ x. get_or m x 0) own_at) ∙ h

  pub record Opened (m next l : List ℕ) (o : ℕ) : Type 0 where
    pub in_m : o < length m
    pub in_n : o < length next
    pub below : get_or next o 0 < total
    pub in_l : get_or next o 0 < length l
    pub line : Line (factored_pattern n starts rows) n r 0 (set m o r) (set next o (get_or next o 0 + 1)) (set l (get_or next o 0) r)

  pub opened : {m next l : List ℕ} → Lines (factored_pattern n starts rows) n r m next l → Opened m next l (get_or own r 0)
  opened {m} {next} {l} w =
      let b = Lined.line_begin (factored_pattern n starts rows) n r rn pu w in
      let h = Node.owner_in (factored_pattern n starts rows) n pu r rn in
      rw (g.own_is.at r rn) (record {
        in_m = omega (arith, w.marks);
        in_n = omega (arith, w.lists.room);
        below = b.0;
        in_l = omega (arith, b.0, w.lists.fits);
        line = b.1;
      })

  module _ {m next l m' next' l' : List ℕ} (w : Lines (factored_pattern n starts rows) n r m next l)
      (e1 : m' ≡ set m (get_or own r 0) r) (e2 : next' ≡ set next (get_or own r 0) (get_or next (get_or own r 0) 0 + 1)) (e3 : l' ≡ set l (get_or next (get_or own r 0) 0) r) where
    pub lining_begin : Lining n starts rows r (get_or perm r 0) m' next' l' m' next' l' (get_or starts (get_or perm r 0) 0)
    lining_begin = record {
      line = rw (e1, e2, e3) (opened w).line;
      from = le_refl _;
      to = rw add-one (g.formed.rise (get_or perm r 0) column_in);
      within = column_ends.1;
      hit = λ x a b. absurd (omega arith);
      beyond = beyond_same _ l';
      same_m = refl;
      same_n = refl;
    }

    pub opened_beyond : Beyond total l l'
    opened_beyond = rw e3 (beyond_set total l _ r (opened w).below)

  module _ {m₀ next₀ l₀ m next l : List ℕ} {q : ℕ} (w : Lining n starts rows r (get_or perm r 0) m₀ next₀ l₀ m next l q) where
    pub lining_more : {m' next' l' : List ℕ} → q < get_or starts (get_or perm r 0 + 1) 0 → Line (factored_pattern n starts rows) n r 0 m' next' l' → Kept r m m' → Marked r m' (get_or own (get_or place (get_or rows q 0) 0) 0) → Beyond total l l'
        → length m' ≡ length m → length next' ≡ length next → Lining n starts rows r (get_or perm r 0) m₀ next₀ l₀ m' next' l' (q + 1)
    lining_more {m'} {next'} {l'} h v keep t b f1 f2 = record {
      line = v;
      from = omega (arith, w.from);
      to = omega arith;
      within = w.within;
      hit = λ x a d. ⊎_elim (λ (e : x ≡ q). rw e (entry_hit q w.from h m' t)) (λ (z : x < q). keep _ (w.hit x a z)) (eq-or-lt_of_le (let z : x ≤ q = omega arith in z));
      beyond = beyond_by _ w.beyond b;
      same_m = f1 ∙ w.same_m;
      same_n = f2 ∙ w.same_n;
    }

    pub lining_over : get_or starts (get_or perm r 0 + 1) 0 ≤ q → Lines (factored_pattern n starts rows) n (suc r) m next l
    unfolding renumbered
    lining_over h = Lined.line_end (factored_pattern n starts rows) n r rn pu w.line (λ c t.
        let x = and_both (ltb c n) _ t in
        let y = and_both (ltb r n) _ x.1 in
        let cn = ltb→lt c n x.0 in
        let z = (stored_at n starts rows g.formed (original (permutation (stored starts rows) n) c) (get_or perm r 0) column_in).0 (rw column_is y.1) in
        let e : pos (parent (stored starts rows) n) n (get_or rows z.0 0) ≡ c = ap (pos (parent (stored starts rows) n) n) z.3 ∙ (Factor.numbering (stored starts rows) n u).pq c cn in
        rw e at (w.hit z.0 z.1 (omega (arith, z.2, ap (λ x. get_or starts x 0) (add-one (get_or perm r 0))))))

-- ---- all rows

pub record All (n : ℕ) (starts rows l₀ m next l : List ℕ) (r : ℕ) : Type 0 where
  pub lines : Lines (factored_pattern n starts rows) n r m next l
  pub to : r ≤ n
  pub beyond : Beyond (row_start (factored_pattern n starts rows) n (nodes (factored_pattern n starts rows) n)) l₀ l

pub all_begin : (n ns : ℕ) (starts rows from m d next e l : List ℕ) → ns ≡ nodes (factored_pattern n starts rows) n → Holds (row_start (factored_pattern n starts rows) n) (suc ns) from
    → ns ≤ length d → ns ≤ length e → length (shape (stored starts rows) n).rows ≤ length l
    → m ≡ replicate ns n ++ drop ns d → next ≡ take ns from ++ drop ns e → All n starts rows l m next l 0
all_begin n ns starts rows from m d next e l q h a b f e1 e2 = record {
  lines = Lined.lines_start (factored_pattern n starts rows) n m next l
      (rw (e1, length-append, length-replicate) (omega arith)) (rw (e2, length-append) (omega (arith, taken))) (rw (Node.rows_are (factored_pattern n starts rows) n) at f)
      (λ j k. let z : j < ns = omega arith in ap (λ x. get_or x j 0) e1 ∙ get_or-append (replicate ns n) (drop ns d) 0 j (omega (arith, length-replicate ns n)) ∙ get_or-replicate ns j n 0 z)
      (λ j k. let z : j < ns = omega arith in ap (λ x. get_or x j 0) e2 ∙ get_or-append (take ns from) (drop ns e) 0 j (omega (arith, taken)) ∙ get_or-take ns from j 0 z ∙ h.at j (omega arith));
  to = omega arith;
  beyond = beyond_same _ l;
}
  where
    taken : length (take ns from) ≡ ns
    taken = simp length-take (omega (arith, h.fits))

pub all_more : {n : ℕ} {starts rows l₀ m next l m' next' l' : List ℕ} {r : ℕ} → All n starts rows l₀ m next l r → r < n → Lines (factored_pattern n starts rows) n (suc r) m' next' l'
    → Beyond (row_start (factored_pattern n starts rows) n (nodes (factored_pattern n starts rows) n)) l l' → All n starts rows l₀ m' next' l' (r + 1)
all_more {r} w h v b = record { lines = rw (add-one r) v; to = omega arith; beyond = beyond_by _ w.beyond b }

pub all_over : {n : ℕ} {starts rows l₀ m next l : List ℕ} {r ns : ℕ} → All n starts rows l₀ m next l r → n ≤ r → ns ≡ nodes (factored_pattern n starts rows) n
    → (l ≡ (shape (stored starts rows) n).rows ++ drop (length (shape (stored starts rows) n).rows) l₀) × Holds (λ k. row_start (factored_pattern n starts rows) n (suc k)) ns next
all_over {n} {starts} {rows} {l₀} {m} {next} {l} {r} {ns} w h q =
    let e : r ≡ n = omega (arith, w.to) in
    let v : Lines (factored_pattern n starts rows) n n m next l = rw e at w.lines in
    let o = Lined.lines_over (factored_pattern n starts rows) n v w.beyond in
    (rw (Node.rows_are (factored_pattern n starts rows) n) o.0, record { fits = omega (arith, v.lists.room); at = λ j k. o.1 j (omega arith) })
