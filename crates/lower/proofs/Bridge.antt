-- The lower matrix is what the step reads. Assumes nothing.
use mathlib.Core.Path.{◌≡◌, refl, sym, ap, ◌∙◌}
use mathlib.Core.Logic.{⊎_elim}
use mathlib.Core.Bool.{Bool, true, false, cond}
use mathlib.Core.List.{List, ◌++◌}
use Prim.Native.Nat.{ℕ, suc, ◌+◌, ◌-◌, ◌≤◌, ◌<◌}
use native.Mathlib.Omega.{arith}
use native.Mathlib.Numerals.{add-one}
use lib.Dec.{T}
use lib.ListN.{length, get_or, take, drop}
use lib.Seq.{slice, length-slice, get_or-drop, get_or-take, ext_get_or, drop_at, length-take-le}
use borrow.Rule.Slice.PartMut.{put_mid}
use lib.Ieee.{Float, nan}
use Rattle.statement.specs.Lists.{has, place, sum, list}
use Rattle.statement.specs.Input.{WellFormed, Columns, matrix, stored, value, +0}
use Rattle.statement.specs.Fill.{entry, fill, parent}
use Rattle.statement.specs.Postorder.{permutation, renumbered}
use Rattle.statement.specs.Shape.{Shape, supernodes, first}
use Rattle.statement.specs.Supernodes.{shape_of}
use Rattle.statement.specs.Calls.{entry_a}
use Rattle.laws.specs.Numbered.{factored, shape}
use Rattle.laws.specs.Lower.{among, lower_value, Lower, Pattern}
use Rattle.laws.proofs.Bools.{T_true, T_false, T_dec, ltb_yes}
use Rattle.laws.proofs.Fill.{→fill}
use Rattle.laws.proofs.Ranks.{select_at, select_sorted, has_select}
use Rattle.laws.proofs.Select.{select_length}
use Rattle.laws.proofs.SameRows.{super_rows}
use Rattle.laws.proofs.Entry.{place_lt, get_d_place, get_d_map}
use Rattle.laws.proofs.Input.{upper}
use Rattle.laws.proofs.Fill.{parent_above, parent_to}
use Rattle.laws.proofs.Postorder.{pos, length_postorder}
use Rattle.laws.proofs.FactorTree.{numbering, upper'}
use Rattle.laws.proofs.Shapes as shapes
use Rattle.laws.proofs.Sum.{sum_ext}
use Rattle.areas.specs.Buckets.{Holds}
use Rattle.areas.proofs.Buckets.{start_suc, start_rise, holds_of, holds_ext}
use Rattle.areas.proofs.Parts.{holds_part, holds_copied}
use Rattle.areas.proofs.Tail.{tail_back}
use Rattle.lower.specs.Entries.{originally, in_lower, lower_rows, lower_values, lower_start, Sited, Put, Lowered}
use Rattle.lower.proofs.Spots.{value_out}
use Rattle.lower.proofs.Passes.{start_sum, starts_same}

-- what numbering leaves is what the lower matrix asks
pub sited : (n : ℕ) (starts rows : List ℕ) (values : List Float) → WellFormed (matrix n starts rows values) → (perm d places e : List ℕ)
    → perm ≡ permutation (stored starts rows) n ++ d → places ≡ list (pos (parent (stored starts rows) n) n) n ++ e → Sited n starts rows perm places
sited n starts rows values wf perm d places e q p = record {
  small = wf.small;
  formed = wf.columns;
  perm_is = holds_part (permutation (stored starts rows) n) n perm d long q;
  places_are = holds_of (pos (parent (stored starts rows) n) n) n places e p;
}
  where
    long : length (permutation (stored starts rows) n) ≡ n
    long = unfold permutation in length_postorder (parent (stored starts rows) n) n (parent_above (stored starts rows) n) (parent_to (stored starts rows) n)

-- the sums of the counts are the starts
pub starts_hold : (n : ℕ) (starts rows counts l d : List ℕ) → Holds (λ c. length (lower_rows n starts rows c)) n counts → l ≡ list (sum (λ j. get_or counts j 0)) (suc n) ++ d → Holds (lower_start n starts rows) (suc n) l
starts_hold n starts rows counts l d h e = holds_ext (lower_start n starts rows)
    (λ k l. sum_ext (λ j. get_or counts j 0) (λ c. length (lower_rows n starts rows c)) k (λ j q. h.at j (omega arith)) ∙ sym (start_sum 0 (lower_rows n starts rows) k)) (holds_of (sum (λ j. get_or counts j 0)) (suc n) l d e)

module _ (n : ℕ) (starts rows : List ℕ) (values : List Float) (wf : Columns n starts rows) (beside : length values ≡ length rows) (to_starts next to_rows : List ℕ) (to_values : List Float)
    (st : Holds (lower_start n starts rows) (suc n) to_starts) (w : Put n starts rows values n next to_rows to_values) where
  abbrev s : ℕ → ℕ → Bool
  s = stored starts rows

  abbrev B : ℕ → List ℕ
  B = lower_rows n starts rows

  abbrev S : Shape
  S = shape (stored starts rows) n

  u : (i k : ℕ) → T (stored starts rows i k) → i ≤ k
  u = upper n starts rows wf

  u' : (a b : ℕ) → T (in_lower n starts rows a b) → a ≤ b
  u' = upper' s n u

  -- ---- the columns where they stand

  here : (j : ℕ) → j < n → (get_or to_starts j 0 ≡ lower_start n starts rows j) × (get_or to_starts (j + 1) 0 ≡ lower_start n starts rows j + length (lower_rows n starts rows j)) × (lower_start n starts rows j + length (lower_rows n starts rows j) ≤ lower_start n starts rows n)
  here j h = rw add-one (st.at j (omega arith), st.at (suc j) (omega arith) ∙ start_suc 0 B j, omega (arith, start_suc 0 B j, start_rise 0 B (suc j) n h))

  row_at_lem : (j x : ℕ) → j < n → x < length (lower_rows n starts rows j) → get_or to_rows (get_or to_starts j 0 + x) 0 ≡ get_or (lower_rows n starts rows j) x 0
  row_at_lem j x h l = rw (here j h).0 (w.in_rows.is j x h (omega (arith, select_length (in_lower n starts rows j) n)))

  value_at : (j x : ℕ) → j < n → x < length (lower_rows n starts rows j) → get_or to_values (get_or to_starts j 0 + x) nan ≡ get_or (lower_values n starts rows values j) x nan
  value_at j x h l = rw ((here j h).0 ∙ sym (starts_same n starts rows values j)) (w.in_values.is j x h (omega (arith, select_length (in_lower n starts rows j) n)))

  fit : lower_start n starts rows n ≤ length to_rows
  fit = w.in_rows.fits

  fit_v : lower_start n starts rows n ≤ length to_values
  fit_v = rw (starts_same n starts rows values n) at w.in_values.fits

  columns : Lower to_starts to_rows to_values n
  columns = record {
    room = st.fits;
    rise = λ j h. omega (arith, here j h);
    in_rows = λ j h. omega (arith, here j h, fit);
    in_values = λ j h. omega (arith, here j h, fit_v);
  }

  slice_is : (j : ℕ) → j < n → slice (get_or to_starts j 0) (get_or to_starts (j + 1) 0) to_rows ≡ lower_rows n starts rows j
  slice_is j h = ext_get_or 0 _ (B j) long (λ i k.
      let l : i < length (B j) = omega (arith, long) in
      get_or-drop (get_or to_starts j 0) (take (get_or to_starts (j + 1) 0) to_rows) i 0 ∙ get_or-take (get_or to_starts (j + 1) 0) to_rows (get_or to_starts j 0 + i) 0 (omega (arith, here j h)) ∙ row_at_lem j i h l)
    where
      long : length (slice (get_or to_starts j 0) (get_or to_starts (j + 1) 0) to_rows) ≡ length (lower_rows n starts rows j)
      long = length-slice (get_or to_starts j 0) (get_or to_starts (j + 1) 0) to_rows (omega (arith, here j h, fit)) ∙ omega (arith, here j h)

  -- ---- they are the matrix

  entries : (i j : ℕ) → j ≤ i → i < n → lower_value to_starts to_rows to_values i j ≡ entry_a (matrix n starts rows values) (permutation (stored starts rows) n) i j
  unfolding among entry_a
  entries i j h k = rw (slice_is j jn) (go (has i (B j)) refl)
    where
      jn : j < n
      jn = omega arith

      none : has i (lower_rows n starts rows j) ≡ false → stored starts rows (originally n starts rows j) (originally n starts rows i) ≡ false
      none e = ⊎_elim
          (λ (t : T (s (originally n starts rows j) (originally n starts rows i))).
          let p : T (in_lower n starts rows j i) = unfold renumbered in rw (ltb_yes jn, ltb_yes k) t in
          let z : ◌≡◌ {A = Bool} false true = sym e ∙ T_true (has i (B j)) (has_select (in_lower n starts rows j) n i k p) in let y : ◌≡◌ {A = ℕ} 0 1 = cc in absurd (omega arith))
          (λ t. T_false _ t) (T_dec (s (originally n starts rows j) (originally n starts rows i)))

      go : (b : Bool) → has i (lower_rows n starts rows j) ≡ b → cond b (get_or to_values (get_or to_starts j 0 + place i (lower_rows n starts rows j)) nan) +0 ≡ value (matrix n starts rows values) (originally n starts rows j) (originally n starts rows i)
      go true e = value_at j (place i (B j)) jn (place_lt i (B j) e)
          ∙ get_d_map (λ r. entry_a (matrix n starts rows values) (permutation (stored starts rows) n) r j) (B j) (place i (B j)) 0 nan (place_lt i (B j) e)
          ∙ ap (λ r. entry_a (matrix n starts rows values) (permutation (stored starts rows) n) r j) (get_d_place i (B j) 0 e)
      go false e = sym (value_out n starts rows wf (originally n starts rows i) ((numbering s n u).q_in i k) values beside (originally n starts rows j) (none e))

  -- ---- which the step can read

  -- the row at position t of column j
  record Row (j t : ℕ) : Type 0 where
    pub x : ℕ
    pub is_t : t ≡ get_or to_starts j 0 + x
    pub in_x : x < length (lower_rows n starts rows j)
    pub is : get_or to_rows t 0 ≡ get_or (lower_rows n starts rows j) x 0
    pub stored_is : T (in_lower n starts rows j (get_or to_rows t 0))
    pub below : get_or to_rows t 0 < n

  row : (j t : ℕ) → j < n → get_or to_starts j 0 ≤ t → t < get_or to_starts (j + 1) 0 → Row j t
  row j t h a b =
      let x = t - get_or to_starts j 0 in
      let e : t ≡ get_or to_starts j 0 + x = omega arith in
      let l : x < length (B j) = omega (arith, here j h) in
      let q : get_or to_rows t 0 ≡ get_or (B j) x 0 = ap (λ z. get_or to_rows z 0) e ∙ row_at_lem j x h l in
      let r = select_at (in_lower n starts rows j) n x (rw (select_length (in_lower n starts rows j) n) at l) in
      record { x = x; is_t = e; in_x = l; is = q; stored_is = rw q r.passes; below = rw q r.small }

  module _ (J : ℕ) (h : J < supernodes (shape (stored starts rows) n)) where
    abbrev p : ℕ → ℕ → Bool
    p = factored (stored starts rows) n

    N_is : J < shapes.N p n u'
    N_is = unfold shape_of in h

    first-is : (K : ℕ) → first S K ≡ shapes.f p n u' K
    first-is K = unfold shape_of in refl

    column_in : (j : ℕ) → j < first S (suc J) → j < n
    column_in j l = omega (arith, first-is (suc J), shapes.first_to p n u' (suc J) N_is)

    pattern : Pattern (shape (stored starts rows) n) J to_starts to_rows
    pattern = record {
      among = λ j t lo hi a b.
          let jn = column_in j hi in
          let r = row j t jn a b in
          let i = get_or to_rows t 0 in
          let ji = u' j i r.stored_is in
          rw (shapes.rows_are p n u' J N_is) (T_true (has i (shapes.rows p n u' J)) (has_select (λ i. fill p i (shapes.f p n u' J)) n i r.below
          (rw (super_rows p n u' (shapes.f p n u' J) j (omega (arith, first-is J)) jn (λ x c d. shapes.chain p n u' J x N_is c (omega (arith, first-is (suc J)))) i ji r.below) at (→fill p (entry {i = j} {k = i} r.stored_is)))));
      lower = λ j t lo hi a b. u' j (get_or to_rows t 0) (row j t (column_in j hi) a b).stored_is;
      once = λ j x t lo hi a l b e.
          let jn = column_in j hi in
          let r = row j x jn a (omega arith) in
          let v = row j t jn (omega arith) b in
          omega (arith, r.is, v.is, select_sorted (in_lower n starts rows j) n r.x v.x (omega (arith, r.is_t, v.is_t)) (rw (select_length (in_lower n starts rows j) n) at v.in_x));
    }

  -- ---- all of it

  pub lowered : Lowered n starts rows values to_starts to_rows to_values
  lowered = record { columns = columns; pattern = pattern; entries = entries }

-- starts and rows in one list: the rows are written behind the starts, and come back so
module _ (n : ℕ) (starts rows : List ℕ) (values : List Float) (wf : Columns n starts rows) (beside : length values ≡ length rows) (words next ys : List ℕ) (to_values : List Float)
    (st : Holds (lower_start n starts rows) (suc n) words) (w : Put n starts rows values n next ys to_values) where
  abbrev back : List ℕ
  back = put_mid (n + 1) (length words - (n + 1)) words ys

  back_is : back ≡ take (suc n) words ++ ys
  back_is = tail_back (n + 1) words ys ∙ ap (λ m. take m words ++ ys) (add-one n)

  rows_are : drop (n + 1) back ≡ ys
  rows_are = rw (back_is, add-one n) (drop_at (take (suc n) words) ys (suc n) (length-take-le (suc n) words st.fits))

  pub lowered_back : Lowered n starts rows values back (drop (n + 1) back) to_values
  lowered_back = rw rows_are (lowered n starts rows values wf beside back next ys to_values (holds_copied ys st back_is) w)
