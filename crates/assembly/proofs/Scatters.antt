-- The entries of A in a supernode's stretch, one column after the other. Assumes nothing.
use mathlib.Core.Path.{◌≡◌, refl, sym, ap, ap₂, ◌∙◌, subst}
use mathlib.Core.Bool.{Bool, true, false, cond, ◌||◌}
use mathlib.Core.List.{List, [], ◌∷◌}
use lib.Dec.{eqb}
use borrow.Author.Tests.{eq-eqb}
use Prim.Native.Nat.{ℕ, zero, suc, ◌+◌, ◌-◌, ◌≤◌, ◌<◌}
use native.Mathlib.Omega.{arith}
use native.Mathlib.Numerals.{add-one}
use native.Mathlib.Decide.{ℕ_discrete}
use lib.ListN.{length, get_or, take}
use lib.Seq.{slice, length-slice, get_or-take, get_or-drop}
use lib.Ieee.{Float, nan}
use Rattle.laws.proofs.Stretches.{offset_suc}
use Rattle.laws.proofs.Entry.{place_lt, get_d_place, has_of_place, trap_mono, trap_suc}
use Rattle.laws.proofs.Inplace.{spot_lt}
use Rattle.laws.proofs.Order.{never}
use Rattle.areas.specs.Touch.{Touched}
use Rattle.panel.specs.View.{cell}
use Rattle.spread.specs.Spread.{through, Spread}
use Rattle.assembly.specs.Ready.{row, Rows, Placed, Fresh, Own}
use Rattle.assembly.specs.Assembled.{spot_a, Scattered, FromA}
use Rattle.areas.proofs.Touch as touch
use Rattle.assembly.proofs.Spots.{trap_ge}
use Rattle.assembly.proofs.Gather.{own_place, place_rise, pos_is}
use Rattle.statement.specs.Shape.{Shape, first, width, height, rows_of, trapezoid, size}
use Rattle.statement.specs.Lists.{has, place}
use Rattle.statement.specs.Input.{+0}
use Rattle.laws.specs.Lower.{among, lower_value, Lower, Pattern}

slice_at : (t0 t1 x : ℕ) (rows : List ℕ) → t0 + x < t1 → get_or (slice t0 t1 rows) x 0 ≡ get_or rows (t0 + x) 0
slice_at t0 t1 x rows h = get_or-drop t0 (take t1 rows) x 0 ∙ get_or-take t1 rows (t0 + x) 0 h

-- a place that holds i is on the list
has_at : (i : ℕ) (l : List ℕ) (x : ℕ) → x < length l → get_or l x 0 ≡ i → has i l ≡ true
unfolding has
has_at i [] x h e = absurd (omega arith)
has_at i (y ∷ l) zero h e = rw (eq-eqb y i e)
has_at i (y ∷ l) (suc x) h e = or (eqb y i) (has_at i l x (omega arith) e)
  where
    or : (f : Bool) → has i l ≡ true → f || has i l ≡ true
    or true m = refl
    or false m = m

module _ (S : Shape) {N : ℕ} (b : Rows S N) (J : ℕ) (h : J < N) (pl : List ℕ) (placed : Placed S J pl) (wide : S.n ≤ length pl)
    (starts rows : List ℕ) (vals : List Float) (lo : Lower starts rows vals S.n) (pt : Pattern S J starts rows) where
  pub col_lt : (c : ℕ) → c < width S J → first S J + c < S.n
  col_lt c l = omega (arith, b.own J c h l, b.below J c h (omega (arith, b.tall J h)))

  module _ (c : ℕ) (wc : c < width S J) where
    abbrev j : ℕ
    j = first S J + c

    abbrev t0 : ℕ
    t0 = get_or starts j 0

    abbrev t1 : ℕ
    t1 = get_or starts (j + 1) 0

    abbrev P : ℕ → ℕ
    P i = get_or pl (get_or rows (t0 + i) 0) 0

    jhi : j < first S (suc J)
    jhi = omega (arith, b.rise J h)

    ordered : t0 ≤ t1
    ordered = lo.rise j (col_lt c wc)

    on_J : (i : ℕ) → i < t1 - t0 → has (get_or rows (t0 + i) 0) (rows_of S J) ≡ true
    on_J i l = pt.among j (t0 + i) (omega arith) jhi (omega arith) (omega arith)

    P_is : (i : ℕ) → i < t1 - t0 → P i ≡ place (get_or rows (t0 + i) 0) (rows_of S J)
    P_is i l = pos_is S b J h pl placed (get_or rows (t0 + i) 0) (on_J i l)

    row_P : (i : ℕ) → i < t1 - t0 → row S J (P i) ≡ get_or rows (t0 + i) 0
    row_P i l = ap (row S J) (P_is i l) ∙ get_d_place (get_or rows (t0 + i) 0) (rows_of S J) 0 (on_J i l)

    P_lt : (i : ℕ) → i < t1 - t0 → P i < height S J
    P_lt i l = omega (arith, P_is i l, place_lt (get_or rows (t0 + i) 0) (rows_of S J) (on_J i l))

    P_ge : (i : ℕ) → i < t1 - t0 → c ≤ P i
    P_ge i l = go (ℕ_discrete j (get_or rows (t0 + i) 0))
      where
        own : place j (rows_of S J) ≡ c
        own = own_place S b J c h wc

        go : Dec (j ≡ get_or rows (t0 + i) 0) → c ≤ P i
        go (yes e) = omega (arith, own, P_is i l, ap (λ x. place x (rows_of S J)) e)
        go (no e) =
            omega (
              arith,
              own,
              P_is i l,
              place_rise S b J j (get_or rows (t0 + i) 0) h (has_of_place j (rows_of S J) (omega (arith, own, b.tall J h))) (on_J i l)
                  (omega (arith, pt.lower j (t0 + i) (omega arith) jhi (omega arith) (omega arith))),
            )

    apart : (i k : ℕ) → i < t1 - t0 → k < i → P k ≡ P i → ⊥
    apart i k l q e = pt.once j (t0 + k) (t0 + i) (omega arith) jhi (omega arith) (omega arith) (omega arith) (sym (row_P k (omega arith)) ∙ ap (row S J) e ∙ row_P i l)

    pub count_in : (t0 + (t1 - t0) ≤ length rows) × (t0 + (t1 - t0) ≤ length vals)
    count_in = (omega (arith, ordered, lo.in_rows j (col_lt c wc)), omega (arith, ordered, lo.in_values j (col_lt c wc)))

    module _ (from : ℕ) (e : from ≡ trapezoid (height S J) c) where
      ge : c ≤ trapezoid (height S J) c
      ge = trap_ge (height S J) c (omega (arith, b.tall J h))

      there : (i : ℕ) → i < t1 - t0 → through pl rows (from - c) t0 i ≡ spot_a S J starts rows pl c i
      there i l = omega (arith, P_ge i l, ge)

      pub spread : (L : ℕ) → trapezoid (height S J) (width S J) ≤ L → Spread pl rows (from - c) t0 (t1 - t0) L
      spread L l =
          record {
            listed = count_in.0;
            known = λ i q. omega (arith, row_P i q, b.below J (P i) h (P_lt i q));
            within = λ i q. omega (arith, there i q, spot_lt (height S J) (P i) c (width S J) (P_lt i q) (omega (arith, b.tall J h)) wc);
            apart = λ i k q r s. apart i k q r (omega (arith, there i q, there k (omega arith), P_ge i q, P_ge k (omega arith)));
          }

      pub scattered : (old new : List Float) → Touched nan old new (t1 - t0) (through pl rows (from - c) t0) (λ i. get_or vals (t0 + i) nan) → Scattered S J starts rows vals pl c old new
      scattered old new t = touch.repos nan old new (t1 - t0) (through pl rows (from - c) t0) (spot_a S J starts rows pl c) _ t there

    module _ (old s s' : List Float) (f : FromA S J starts rows vals c old s) (t : Scattered S J starts rows vals pl c s s') where
      -- a store lies in column c
      lies : (i : ℕ) → i < t1 - t0 → (trapezoid (height S J) c ≤ spot_a S J starts rows pl c i) × (spot_a S J starts rows pl c i < trapezoid (height S J) (suc c))
      lies i l = (omega arith, omega (arith, trap_suc (height S J) c, P_lt i l, P_ge i l))

      new_cell : (p : ℕ) → c ≤ p → p < height S J → cell (height S J) s' p c ≡ lower_value starts rows vals (row S J p) j
      unfolding among
      new_cell p l k = go (has (row S J p) (slice t0 t1 rows)) refl
        where
          len : length (slice t0 t1 rows) ≡ t1 - t0
          len = length-slice t0 t1 rows (lo.in_rows j (col_lt c wc))

          go : (x : Bool) → has (row S J p) (slice t0 t1 rows) ≡ x → cell (height S J) s' p c ≡ cond x (get_or vals (t0 + place (row S J p) (slice t0 t1 rows)) nan) +0
          go true e = ap (λ y. get_or s' (trapezoid (height S J) c + (y - c)) nan) (sym at_p) ∙ t.inside i il
            where
              i : ℕ
              i = place (row S J p) (slice t0 t1 rows)

              il : i < t1 - t0
              il = omega (arith, len, place_lt (row S J p) (slice t0 t1 rows) e)

              at_p : P i ≡ p
              at_p = ap (λ x. get_or pl x 0) (sym (slice_at t0 t1 i rows (omega (arith, il))) ∙ get_d_place (row S J p) (slice t0 t1 rows) 0 e) ∙ placed p k
          go false e = t.outside (trapezoid (height S J) c + (p - c)) (λ i q d. never (hit i q d) e) ∙ f.zeros (trapezoid (height S J) c + (p - c)) (omega arith) (spot_lt (height S J) p c (width S J) k (omega arith) wc)
            where
              hit : (i : ℕ) → i < t1 - t0 → spot_a S J starts rows pl c i ≡ trapezoid (height S J) c + (p - c) → has (row S J p) (slice t0 t1 rows) ≡ true
              hit i q d = has_at (row S J p) (slice t0 t1 rows) i (omega (arith, len)) (slice_at t0 t1 i rows (omega arith) ∙ sym (row_P i q) ∙ ap (row S J) (same i q d))
                where
                  same : (i : ℕ) → i < t1 - t0 → spot_a S J starts rows pl c i ≡ trapezoid (height S J) c + (p - c) → P i ≡ p
                  same i q d = omega (arith, P_ge i q)

      pub column_more : FromA S J starts rows vals (c + 1) old s'
      column_more =
          record {
            size = t.size ∙ f.size;
            cells = λ p k l q m. at p k l q m (ℕ_discrete k c);
            zeros = λ x l k. t.outside x (λ i q e. omega (arith, (lies i q).1, ap (trapezoid (height S J)) (add-one c))) ∙ f.zeros x (omega (arith, trap_suc (height S J) c, ap (trapezoid (height S J)) (add-one c))) k;
            after = λ x l. t.outside x (λ i q e. omega (arith, (lies i q).1, trap_mono (height S J) (suc c) (width S J) wc)) ∙ f.after x l;
          }
        where
          at : (p k : ℕ) → k < c + 1 → k ≤ p → p < height S J → Dec (k ≡ c) → cell (height S J) s' p k ≡ lower_value starts rows vals (row S J p) (first S J + k)
          at p k l q m (yes e) = rw e (new_cell p (omega arith) m)
          at p k l q m (no e) = t.outside (trapezoid (height S J) k + (p - k)) (λ i r d. omega (arith, (lies i r).0, spot_lt (height S J) p k c m (omega arith) (omega arith))) ∙ f.cells p k (omega arith) q m

module _ (S : Shape) (J : ℕ) (starts rows : List ℕ) (vals : List Float) where
  pub column_none : (s : List Float) → ((x : ℕ) → x < trapezoid (height S J) (width S J) → get_or s x nan ≡ +0) → FromA S J starts rows vals 0 s s
  column_none s z = record { size = refl; cells = λ p c l. absurd (omega arith); zeros = λ x l k. z x k; after = λ x l. refl }

  pub columns_all : (old s s' : List Float) (c n : ℕ) → n ≡ trapezoid (height S J) (width S J) → Touched nan old s n (λ i. i) (λ i. +0) → FromA S J starts rows vals c s s' → c ≤ width S J → width S J ≤ c → FromA S J starts rows vals (width S J) old s'
  columns_all old s s' c n e t f h l =
      record {
        size = f.size ∙ t.size;
        cells = λ p k q. f.cells p k (omega arith);
        zeros = λ x p q. absurd (omega arith);
        after = λ x p. f.after x p ∙ t.outside x (λ i q d. omega arith);
      }

-- as the code counts
module _ (S : Shape) {N : ℕ} (b : Rows S N) (J : ℕ) (h : J < N) (pl : List ℕ) (placed : Placed S J pl) (wide : S.n ≤ length pl)
    (starts rows : List ℕ) (vals : List Float) (lo : Lower starts rows vals S.n) (pt : Pattern S J starts rows)
    (c f m from : ℕ) (wc : c < width S J) (e₁ : f ≡ first S J) (e₂ : m ≡ height S J) (e₃ : from ≡ trapezoid m c) where
  start_is : from ≡ trapezoid (height S J) c
  start_is = e₃ ∙ ap (λ m. trapezoid m c) e₂

  pub spread_at : (L : ℕ) → trapezoid (height S J) (width S J) ≤ L → Spread pl rows (from - c) (get_or starts (f + c) 0) (get_or starts (f + c + 1) 0 - get_or starts (f + c) 0) L
  spread_at L l = rw e₁ (spread S b J h pl placed wide starts rows vals lo pt c wc from start_is L l)

  pub count_at : (get_or starts (f + c) 0 ≤ get_or starts (f + c + 1) 0) × (get_or starts (f + c) 0 + (get_or starts (f + c + 1) 0 - get_or starts (f + c) 0) ≤ length vals)
  count_at = rw e₁ (lo.rise (first S J + c) (col_lt S b J h pl placed wide starts rows vals lo pt c wc), (count_in S b J h pl placed wide starts rows vals lo pt c wc).1)

  pub scattered_at : (old new : List Float) → Touched nan old new (get_or starts (f + c + 1) 0 - get_or starts (f + c) 0) (through pl rows (from - c) (get_or starts (f + c) 0)) (λ i. get_or vals (get_or starts (f + c) 0 + i) nan) → Scattered S J starts rows vals pl c old new
  scattered_at old new t =
      scattered S b J h pl placed wide starts rows vals lo pt c wc from start_is old new
      (subst (λ f. Touched nan old new (get_or starts (f + c + 1) 0 - get_or starts (f + c) 0) (through pl rows (from - c) (get_or starts (f + c) 0)) (λ i. get_or vals (get_or starts (f + c) 0 + i) nan)) e₁ t)

pub fresh_as : (S : Shape) (J m w f : ℕ) (pl : List ℕ) (L L' : ℕ) → L' ≡ L → Fresh S J m w f pl L → Fresh S J m w f pl L'
fresh_as S J m w f pl L L' e o = rw e o

pub size_code : (S : Shape) (J m w r : ℕ) → r ≡ trapezoid m w → m ≡ height S J → w ≡ width S J → r ≡ trapezoid (height S J) (width S J)
size_code S J m w r e e₁ e₂ = e ∙ ap₂ trapezoid e₁ e₂

pub fresh_of : (S : Shape) (J off m w f : ℕ) (pl : List ℕ) (vlen wlen L : ℕ) → Own S J off m w pl vlen wlen → f ≡ first S J → L ≡ vlen - off → Fresh S J m w f pl L
unfolding size
fresh_of S J off m w f pl vlen wlen L o e l =
    record {
      m_is = o.m_is;
      w_is = o.w_is;
      f_is = e;
      placed = o.placed;
      places = o.places;
      own = omega (arith, offset_suc S J, o.off_is, o.values);
    }

pub off_in : (S : Shape) (J off m w : ℕ) (pl : List ℕ) (vlen wlen : ℕ) → Own S J off m w pl vlen wlen → off ≤ vlen
off_in S J off m w pl vlen wlen o = omega (arith, offset_suc S J, o.off_is, o.values)
