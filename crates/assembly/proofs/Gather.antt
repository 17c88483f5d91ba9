-- The structure as the code reads it: heights, rows and positions. Assumes nothing.
use mathlib.Core.Path.{◌≡◌, refl, sym, ap, ap₂, ◌∙◌, subst}
use mathlib.Core.Bool.{true}
use mathlib.Core.List.{List}
use Prim.Native.Nat.{ℕ, zero, suc, ◌+◌, ◌-◌, ◌≤◌, ◌<◌}
use native.Mathlib.Omega.{arith}
use native.Mathlib.Nat.{add-sub_of_le, le_refl}
use native.Mathlib.Numerals.{add-one}
use native.Mathlib.Decide.{ℕ_discrete, dec_lt}
use lib.ListN.{length, get_or, take}
use lib.Seq.{length-slice, get_or-take, get_or-drop}
use lib.Ieee.{Float}
use Rattle.laws.proofs.Entry.{place_lt, get_d_place, has_of_place}
use Rattle.laws.proofs.Built.{place_sorted}
use Rattle.laws.specs.Lower.{Lower}
use Rattle.laws.proofs.Stretches.{offset_suc, offset_mono}
use Rattle.spread.specs.Spread.{pos_of}
use Rattle.assembly.specs.Update.{Source, Updated}
use Rattle.areas.specs.Touch.{Touched}
use Rattle.assembly.specs.Ready.{row, Rows, source, low, high, Listed, Placed, Own, Fresh, Stands, supernode_of}
use Rattle.assembly.specs.declared.Supernode.{Supernode}
use Rattle.statement.specs.Shape.{Shape, first, width, height, rows_of, trapezoid, size, offset}
use Rattle.statement.specs.declared.Update.{Update}
use Rattle.statement.specs.Lists.{has, place}

module _ (S : Shape) {N : ℕ} (b : Rows S N) where
  pub height_is : (K : ℕ) → K < N → height S K ≡ get_or S.starts (suc K) 0 - get_or S.starts K 0
  unfolding rows_of
  height_is K h = length-slice (get_or S.starts K 0) (get_or S.starts (suc K) 0) S.rows (b.listed K h)

  pub row_is : (K p : ℕ) → K < N → p < height S K → get_or S.rows (get_or S.starts K 0 + p) 0 ≡ row S K p
  unfolding rows_of
  row_is K p h l =
      sym (get_or-drop (get_or S.starts K 0) (take (get_or S.starts (suc K) 0) S.rows) p 0 ∙ get_or-take (get_or S.starts (suc K) 0) S.rows (get_or S.starts K 0 + p) 0 (omega (arith, height_is K h)))

  pub at_place : (K p : ℕ) → K < N → p < height S K → place (row S K p) (rows_of S K) ≡ p
  at_place K p h k = place_sorted (rows_of S K) (λ p q x y. b.sorted K p q h x y) p k

  pub at_has : (K p : ℕ) → K < N → p < height S K → has (row S K p) (rows_of S K) ≡ true
  at_has K p h k = has_of_place (row S K p) (rows_of S K) (omega (arith, at_place K p h k))

  pub own_place : (K c : ℕ) → K < N → c < width S K → place (first S K + c) (rows_of S K) ≡ c
  own_place K c h k = rw (b.own K c h k) at (at_place K c h (omega (arith, b.tall K h)))

  -- a row is at least its position, so there are at most n
  row_ge : (K p : ℕ) → K < N → p < height S K → p ≤ row S K p
  row_ge K zero h l = omega arith
  row_ge K (suc p) h l = omega (arith, row_ge K p h (omega arith), b.sorted K p (suc p) h (omega arith) l)

  pub height_le : (K : ℕ) → K < N → height S K ≤ S.n
  height_le K h = go (height S K) refl
    where
      go : (m : ℕ) → height S K ≡ m → m ≤ S.n
      go zero e = omega arith
      go (suc m) e = omega (arith, row_ge K m h (omega arith), b.below K m h (omega arith))

  -- rows in order have positions in order
  pub place_rise : (J i i' : ℕ) → J < N → has i (rows_of S J) ≡ true → has i' (rows_of S J) ≡ true → i < i' → place i (rows_of S J) < place i' (rows_of S J)
  place_rise J i i' h m m' l = go (dec_lt (place i (rows_of S J)) (place i' (rows_of S J)))
    where
      go : Dec (place i (rows_of S J) < place i' (rows_of S J)) → place i (rows_of S J) < place i' (rows_of S J)
      go (yes p) = p
      go (no p) = absurd (eq (ℕ_discrete (place i (rows_of S J)) (place i' (rows_of S J))))
        where
          eq : Dec (place i (rows_of S J) ≡ place i' (rows_of S J)) → ⊥
          eq (yes e) = omega (arith, get_d_place i (rows_of S J) 0 m, get_d_place i' (rows_of S J) 0 m', ap (λ x. row S J x) e)
          eq (no e) = omega (arith, get_d_place i (rows_of S J) 0 m, get_d_place i' (rows_of S J) 0 m', b.sorted J (place i' (rows_of S J)) (place i (rows_of S J)) h (omega arith) (place_lt i (rows_of S J) m))

  module _ (J : ℕ) (h : J < N) (pl : List ℕ) (placed : Placed S J pl) where
    pub pos_is : (i : ℕ) → has i (rows_of S J) ≡ true → get_or pl i 0 ≡ place i (rows_of S J)
    pos_is i m = ap (λ x. get_or pl x 0) (sym (get_d_place i (rows_of S J) 0 m)) ∙ placed (place i (rows_of S J)) (place_lt i (rows_of S J) m)

    -- a column's position
    pub own_pos : (j : ℕ) → first S J ≤ j → j < first S (suc J) → place j (rows_of S J) ≡ j - first S J
    own_pos j l k = subst (λ x. place x (rows_of S J) ≡ j - first S J) (add-sub_of_le l) (own_place J (j - first S J) h (omega arith))

    module _ (upd : ℕ → Update) (count : ℕ) (t : Listed S J upd count) (u : ℕ) (z : u < count) where
      abbrev K : ℕ
      K = source upd u

      kin : K < N
      kin = omega (arith, t.before u z)

      -- J's position of K's row r
      pub pos : (r : ℕ) → low upd u ≤ r → r < height S K → pos_of pl S.rows (get_or S.starts K 0) r ≡ place (row S K r) (rows_of S J)
      pos r l k = ap (λ x. get_or pl x 0) (row_is K r kin k) ∙ pos_is (row S K r) (t.nested u r z l k)

      pub sourced : (vlen wlen : ℕ) → S.n ≤ length pl → S.n ≤ wlen → offset S (suc J) ≤ vlen →
          Source pl S.rows vlen wlen (offset S J) (height S J) (width S J) (get_or S.starts K 0) (height S K) (width S K) (offset S K) (low upd u) (high upd u)
      unfolding size
      sourced vlen wlen l₁ l₂ l₃ =
          record {
            few = omega (arith, height_le J h, b.few);
            few_k = omega (arith, height_le K kin, b.few);
            past = t.past u z;
            ordered = (t.run u z).0;
            in_k = (t.run u z).1;
            listed = omega (arith, height_is K kin, b.listed K kin, b.ordered K kin);
            room = omega (arith, height_le K kin);
            stretch = omega (arith, offset_suc S K, offset_mono S J (suc K) (t.before u z));
            own = omega (arith, offset_suc S J);
            known = λ r k. omega (arith, row_is K r kin k, b.below K r kin k);
            rise = λ r s l m n. omega (arith, pos r l (omega arith), pos s (omega arith) n, place_rise J (row S K r) (row S K s) h (t.nested u r z l (omega arith)) (t.nested u s z (omega arith) n) (b.sorted K r s kin m n));
            inside = λ r l k. omega (arith, pos r l k, place_lt (row S K r) (rows_of S J) (t.nested u r z l k));
            columns = λ r l k.
                let q = t.columns u r z l k in
                omega (arith, pos r l (omega (arith, (t.run u z).1)), own_pos (row S K r) q.0 q.1, b.rise J h, q.0, q.1);
          }

-- as the code counts
module _ (S : Shape) {N : ℕ} (b : Rows S N) (K : ℕ) (h : K < N) where
  pub starts_rise : get_or S.starts K 0 ≤ get_or S.starts (K + 1) 0
  starts_rise = omega (arith, b.ordered K h, ap (λ k. get_or S.starts k 0) (add-one K))

  pub height_code : get_or S.starts (K + 1) 0 - get_or S.starts K 0 ≡ height S K
  height_code = ap (λ k. get_or S.starts k 0 - get_or S.starts K 0) (add-one K) ∙ sym (height_is S b K h)

  pub firsts_rise : get_or S.firsts K 0 ≤ get_or S.firsts (K + 1) 0
  firsts_rise = omega (arith, b.rise K h, ap (λ k. get_or S.firsts k 0) (add-one K))

  pub width_code : get_or S.firsts (K + 1) 0 - get_or S.firsts K 0 ≡ width S K
  width_code = ap (λ k. get_or S.firsts k 0 - get_or S.firsts K 0) (add-one K)

  pub stands : (offs : List ℕ) → K < length offs → get_or offs K 0 ≡ offset S K → Stands S K offs
  stands offs r e = record { ends = omega (arith, b.ends); many = omega (arith, b.many); rise = omega (arith, b.rise K h); ordered = b.ordered K h; listed = b.listed K h; room = r; at = e }

-- a supernode as the code reads it
pub read : (S : Shape) (K : ℕ) (offs : List ℕ) → Stands S K offs →
    record { first = get_or S.firsts K 0; start = get_or S.starts K 0; height = get_or S.starts (K + 1) 0 - get_or S.starts K 0; width = get_or S.firsts (K + 1) 0 - get_or S.firsts K 0; offset = get_or offs K 0 } ≡ supernode_of S K
unfolding rows_of
read S K offs s = ap (λ h. of h (get_or S.firsts (K + 1) 0 - get_or S.firsts K 0) (get_or offs K 0)) tall ∙ ap (λ w. of (height S K) w (get_or offs K 0)) wide ∙ ap (of (height S K) (width S K)) s.at
  where
    of : ℕ → ℕ → ℕ → Supernode
    of h w o = record { first = get_or S.firsts K 0; start = get_or S.starts K 0; height = h; width = w; offset = o }

    tall : get_or S.starts (K + 1) 0 - get_or S.starts K 0 ≡ height S K
    tall = ap (λ k. get_or S.starts k 0 - get_or S.starts K 0) (add-one K) ∙ sym (length-slice (get_or S.starts K 0) (get_or S.starts (suc K) 0) S.rows s.listed)

    wide : get_or S.firsts (K + 1) 0 - get_or S.firsts K 0 ≡ width S K
    wide = ap (λ k. get_or S.firsts k 0 - get_or S.firsts K 0) (add-one K)

pub source_as : (pl rows : List ℕ) (vlen wlen off off' m m' w w' : ℕ) (k k' : Supernode) (p1 p2 : ℕ) → off ≡ off' → m ≡ m' → w ≡ w' → k ≡ k' →
    Source pl rows vlen wlen off' m' w' k'.start k'.height k'.width k'.offset p1 p2 → Source pl rows vlen wlen off m w k.start k.height k.width k.offset p1 p2
source_as pl rows vlen wlen off off' m m' w w' k k' p1 p2 e₁ e₂ e₃ e₄ s = rw (e₁, e₂, e₃, e₄) s

pub updated_as : (pl rows : List ℕ) (old new : List Float) (off off' m m' : ℕ) (k k' : Supernode) (p1 p2 : ℕ) → off ≡ off' → m ≡ m' → k ≡ k' →
    Updated pl rows old new off m k.start k.height k.width k.offset p1 p2 → Updated pl rows old new off' m' k'.start k'.height k'.width k'.offset p1 p2
updated_as pl rows old new off off' m m' k k' p1 p2 e₁ e₂ e₃ s = rw (← e₁, ← e₂, ← e₃) s

pub own_as : (S : Shape) (J off m w : ℕ) (pl : List ℕ) (vlen vlen' wlen wlen' : ℕ) → vlen' ≡ vlen → wlen' ≡ wlen → Own S J off m w pl vlen wlen → Own S J off m w pl vlen' wlen'
own_as S J off m w pl vlen vlen' wlen wlen' e f o = rw (e, f) o

-- for the step: the structure at J as it is read, and the positions once they are set
module _ (S : Shape) {N : ℕ} (b : Rows S N) (J : ℕ) (h : J < N) (m w : ℕ) (e₁ : m ≡ height S J) (e₂ : w ≡ width S J) where
  pub places_ready : (plen : ℕ) → S.n ≤ plen →
      (get_or S.starts J 0 + m ≤ length S.rows) ×
      (((p : ℕ) → p < m → get_or S.rows (get_or S.starts J 0 + p) 0 < plen) ×
      ((p q : ℕ) → p < q → q < m → get_or S.rows (get_or S.starts J 0 + p) 0 < get_or S.rows (get_or S.starts J 0 + q) 0))
  places_ready plen l = (
    omega (arith, height_is S b J h, b.listed J h, b.ordered J h),
    (
      λ p q. omega (arith, row_is S b J p h (omega arith), b.below J p h (omega arith)),
      λ p q r s. omega (arith, row_is S b J p h (omega arith), row_is S b J q h (omega arith), b.sorted J p q h r (omega arith)),
    ),
  )

  pub own_of : (off : ℕ) (pl pl' : List ℕ) (vlen wlen : ℕ) → off ≡ offset S J → Touched 0 pl pl' m (λ p. get_or S.rows (get_or S.starts J 0 + p) 0) (λ p. p) → S.n ≤ length pl → S.n ≤ wlen → offset S (suc J) ≤ vlen → Own S J off m w pl' vlen wlen
  own_of off pl pl' vlen wlen e t l₁ l₂ l₃ =
      record {
        off_is = e;
        m_is = e₁;
        w_is = e₂;
        placed = λ p q. ap (λ x. get_or pl' x 0) (sym (row_is S b J p h q)) ∙ t.inside p (omega arith);
        places = omega (arith, t.size);
        work = l₂;
        values = l₃;
      }

  pub cols_in : first S J + w ≤ S.n
  cols_in = omega (arith, b.rise J h, b.own J (width S J - 1) h (omega (arith, b.rise J h)), b.below J (width S J - 1) h (omega (arith, b.rise J h, b.tall J h)))

  pub sides : (w ≤ m) × (m ≤ 32768) × (m ≤ S.n)
  sides = (omega (arith, b.tall J h), omega (arith, height_le S b J h, b.few), omega (arith, height_le S b J h))

  pub stretch_in : (off vlen L : ℕ) → off ≡ offset S J → offset S (suc J) ≤ vlen → L ≡ vlen - off → trapezoid m w ≤ L
  unfolding size
  stretch_in off vlen L e l k = omega (arith, ap₂ trapezoid e₁ e₂, offset_suc S J)

pub off_le : (S : Shape) (J off vlen : ℕ) → off ≡ offset S J → offset S (suc J) ≤ vlen → off ≤ vlen
off_le S J off vlen e l = omega (arith, offset_suc S J)

-- a column of J's own, as the code has it at hand
pub col : {S : Shape} {J m w f L c : ℕ} {pl : List ℕ} → Rows S (suc J) → Fresh S J m w f pl L → c < w → (f + c < S.n) × (c < width S J)
col {S} {J} {m} {w} b t l = (omega (arith, cols_in S b J (le_refl _) m w t.m_is t.w_is, t.f_is), omega (arith, t.w_is))

-- A's lower columns as those of the structure
pub as_lower : {n k : ℕ} {starts rows : List ℕ} {values : List Float} → n ≡ k → Lower starts rows values n → Lower starts rows values k
as_lower {starts = starts} {rows = rows} {values = values} e l = subst (λ k. Lower starts rows values k) e l
