-- Values and places of the least set, one to one. Assumes nothing.
use mathlib.Core.Path.{◌≡◌, refl, sym, ap, ◌∙◌, subst}
use mathlib.Core.Logic.{⊎_elim, ◌↔◌}
use mathlib.Core.Bool.{Bool, true, false, cond, ◌||◌}
use mathlib.Core.List.{List, [], ◌∷◌}
use Prim.Native.Nat.{ℕ, zero, suc, ◌+◌, ◌-◌, ◌≤◌, ◌<◌}
use native.Mathlib.Omega.{arith}
use native.Mathlib.Nat.{le_refl}
use native.Mathlib.Decide.{dec_lt}
use lib.Dec.{T, eqb}
use lib.ListN.{get_or, drop, length-drop}
use lib.Seq.{get_or-drop}
use Rattle.statement.specs.Lists.{has, place}
use Rattle.statement.specs.Input.{Matrix, WellFormed, pattern}
use Rattle.statement.specs.Fill.{Fill, fill, entries, rows_of_column}
use Rattle.statement.specs.Postorder.{original, permutation}
use Rattle.statement.specs.Shape.{Shape, supernodes, first, width, height, rows_of, trapezoid, size, offset}
use Rattle.statement.specs.Calls.{analysis}
use Rattle.laws.specs.Built.{Built}
use Rattle.laws.specs.Numbered.{factored, shape}
use Rattle.laws.proofs.Analysed as analysed
use Rattle.laws.proofs.Bools.{T_true, lt_or_le}
use Rattle.laws.proofs.Built.{at_place, at_has, first_mono}
use Rattle.laws.proofs.Entry.{place_lt, get_d_place, trap_suc, trap_mono}
use Rattle.laws.proofs.Fill.{fill→, →fill, fill_iff, fill_lower}
use Rattle.laws.proofs.FactorTree.{numbering}
use Rattle.laws.proofs.FactorTree as tree
use Rattle.laws.proofs.Ranks.{has_select, select_has}
use Rattle.laws.proofs.Sizes.{shape_places}
use Rattle.laws.proofs.Stretches.{offset_mono, offset_suc}
use Rattle.promises.specs.Third.{Entry, Places}

-- ---- a part of a list of different numbers

drop_has : (l : List ℕ) (c i : ℕ) → has i l ≡ true → c ≤ place i l → has i (drop c l) ≡ true
unfolding has place
drop_has [] c i h k = let z : ◌≡◌ {A = ℕ} 0 1 = cc in absurd (omega arith)
drop_has (x ∷ l) zero i h k = h
drop_has (x ∷ l) (suc c) i h k = go (eqb x i) (drop_has l c i) h k
  where
    go : (b : Bool) → (has i l ≡ true → c ≤ place i l → has i (drop c l) ≡ true) → b || has i l ≡ true → suc c ≤ cond b 0 (suc (place i l)) → has i (drop c l) ≡ true
    go true f h k = absurd (omega arith)
    go false f h k = f h (omega arith)

-- ---- where a row of a column stands

module _ (S : Shape) (b : Built S) where
  abbrev spot : ℕ → ℕ → ℕ → ℕ
  spot K c i = offset S K + (trapezoid (height S K) c + (place i (rows_of S K) - c))

  abbrev At : ℕ → ℕ → ℕ → ℕ → Type 0
  At x K c i = (K < supernodes S) × (c < width S K) × (has i (rows_of S K) ≡ true) × (c ≤ place i (rows_of S K)) × (x ≡ spot K c i)

  -- the supernode that owns a column
  pub owner : (M : ℕ) → M ≤ supernodes S → (j : ℕ) → j < first S M → (K : ℕ) × (K < supernodes S) × (first S K ≤ j) × (j < first S (suc K))
  owner zero h j q = absurd (omega (arith, b.from))
  owner (suc M) h j q = go (λ p. owner M (omega arith) j p) (dec_lt j (first S M))
    where
      go : (j < first S M → (K : ℕ) × (K < supernodes S) × (first S K ≤ j) × (j < first S (suc K))) → Dec (j < first S M) → (K : ℕ) × (K < supernodes S) × (first S K ≤ j) × (j < first S (suc K))
      go ih (yes p) = ih p
      go ih (no p) = (M, omega arith, omega arith, q)

  -- in its column, and in its supernode
  in_column : (x K c i : ℕ) → At x K c i → (offset S K + trapezoid (height S K) c ≤ x) × (x < offset S K + trapezoid (height S K) (suc c))
  in_column x K c i a = (omega (arith, a.4), omega (arith, a.4, a.3, trap_suc (height S K) c, place_lt i (rows_of S K) a.2))

  in_stretch : (x K c i : ℕ) → At x K c i → (offset S K ≤ x) × (x < offset S (suc K))
  unfolding size
  in_stretch x K c i a = let h = in_column x K c i a in (omega (arith, h.0), omega (arith, h.1, offset_suc S K, trap_mono (height S K) (suc c) (width S K) a.1))

  one_K : (x K c i L d k : ℕ) → At x K c i → At x L d k → K ≡ L
  one_K x K c i L d k a e =
      let p = in_stretch x K c i a in
      let q = in_stretch x L d k e in
      ⊎_elim (λ (h : K < L). absurd (omega (arith, p.1, q.0, offset_mono S L (suc K) h)))
      (λ (h : L ≤ K). ⊎_elim (λ (u : L < K). absurd (omega (arith, q.1, p.0, offset_mono S K (suc L) u))) (λ (u : K ≤ L). omega arith) (lt_or_le L K))
      (lt_or_le K L)

  one_c : (x K c i d k : ℕ) → At x K c i → At x K d k → c ≡ d
  one_c x K c i d k a e =
      let p = in_column x K c i a in
      let q = in_column x K d k e in
      ⊎_elim (λ (h : c < d). absurd (omega (arith, p.1, q.0, trap_mono (height S K) (suc c) d h)))
      (λ (h : d ≤ c). ⊎_elim (λ (u : d < c). absurd (omega (arith, q.1, p.0, trap_mono (height S K) (suc d) c u))) (λ (u : c ≤ d). omega arith) (lt_or_le d c))
      (lt_or_le c d)

  one_i : (x K c i k : ℕ) → At x K c i → At x K c k → i ≡ k
  one_i x K c i k a e =
      let q : place i (rows_of S K) ≡ place k (rows_of S K) = omega (arith, a.3, a.4, e.3, e.4) in
      sym (get_d_place i (rows_of S K) 0 a.2) ∙ ap (λ z. get_or (rows_of S K) z 0) q ∙ get_d_place k (rows_of S K) 0 e.2

  same_entry : (x K c i L d k : ℕ) → At x K c i → At x L d k → (i ≡ k) × (first S K + c ≡ first S L + d)
  same_entry x K c i L d k a e =
      let p = one_K x K c i L d k a e in
      let e₁ : At x K d k = subst (λ z. At x z d k) (sym p) e in
      let q = one_c x K c i d k a e₁ in
      let e₂ : At x K c k = subst (λ z. At x K z k) (sym q) e₁ in
      (one_i x K c i k a e₂, ap (λ z. first S z + c) p ∙ ap (λ z. first S L + z) q)

  -- a column's rows are those of its supernode from its own on
  part_has : (K c i : ℕ) → K < supernodes S → has i (drop c (rows_of S K)) ≡ true → (has i (rows_of S K) ≡ true) × (c ≤ place i (rows_of S K))
  part_has K c i h m =
      let q = place i (drop c (rows_of S K)) in
      let u : c + q < height S K = omega (arith, place_lt i (drop c (rows_of S K)) m, length-drop c (rows_of S K)) in
      let e : get_or (rows_of S K) (c + q) 0 ≡ i = sym (get_or-drop c (rows_of S K) q 0) ∙ get_d_place i (drop c (rows_of S K)) 0 m in
      (ap (λ z. has z (rows_of S K)) (sym e) ∙ at_has S b K (c + q) h u, omega (arith, ap (λ z. place z (rows_of S K)) (sym e) ∙ at_place S b K (c + q) h u))

  -- a place of a trapezoid is in one of its columns
  column_of : (m w q : ℕ) → q < trapezoid m w → (c : ℕ) × (r : ℕ) × (c < w) × (r < m - c) × (q ≡ trapezoid m c + r)
  unfolding trapezoid
  column_of m zero q h = absurd (omega arith)
  column_of m (suc w) q h = go (λ p. column_of m w q p) (dec_lt q (trapezoid m w))
    where
      go : (q < trapezoid m w → (c : ℕ) × (r : ℕ) × (c < w) × (r < m - c) × (q ≡ trapezoid m c + r)) → Dec (q < trapezoid m w) →
          (c : ℕ) × (r : ℕ) × (c < suc w) × (r < m - c) × (q ≡ trapezoid m c + r)
      go ih (yes p) = let x = ih p in (x.0, x.1, omega (arith, x.2), x.3, x.4)
      go ih (no p) = (w, q - trapezoid m w, omega arith, omega arith, omega arith)

  stretch_of : (M x : ℕ) → M ≤ supernodes S → x < offset S M → (K : ℕ) × (K < supernodes S) × (offset S K ≤ x) × (x < offset S (suc K))
  unfolding offset
  stretch_of zero x h q = absurd (omega arith)
  stretch_of (suc M) x h q = go (λ p. stretch_of M x (omega arith) p) (dec_lt x (offset S M))
    where
      go : (x < offset S M → (K : ℕ) × (K < supernodes S) × (offset S K ≤ x) × (x < offset S (suc K))) → Dec (x < offset S M) → (K : ℕ) × (K < supernodes S) × (offset S K ≤ x) × (x < offset S (suc K))
      go ih (yes p) = ih p
      go ih (no p) = (M, h, omega arith, q)

  at_of : (x : ℕ) → x < offset S (supernodes S) → (K : ℕ) × (c : ℕ) × (i : ℕ) × At x K c i
  unfolding size
  at_of x h = go (stretch_of (supernodes S) x (le_refl _) h)
    where
      go : (K : ℕ) × (K < supernodes S) × (offset S K ≤ x) × (x < offset S (suc K)) → (K : ℕ) × (c : ℕ) × (i : ℕ) × At x K c i
      go z = at (column_of (height S z.0) (width S z.0) (x - offset S z.0) (omega (arith, z.2, z.3, offset_suc S z.0)))
        where
          K : ℕ
          K = z.0

          at : (c : ℕ) × (r : ℕ) × (c < width S K) × (r < height S K - c) × (x - offset S K ≡ trapezoid (height S K) c + r) → (K : ℕ) × (c : ℕ) × (i : ℕ) × At x K c i
          at y =
              let c = y.0 in
              let u : c + y.1 < height S K = omega (arith, y.3) in
              let p = at_place S b K (c + y.1) z.1 u in
              (K, c, get_or (rows_of S K) (c + y.1) 0, (z.1, y.2, at_has S b K (c + y.1) z.1 u, omega (arith, p), omega (arith, p, y.4, z.2)))

-- ---- of a matrix

module _ (M : Matrix) (w : WellFormed M) where
  abbrev n : ℕ
  n = M.n

  abbrev p : ℕ → ℕ → Bool
  p = factored (pattern M) n

  abbrev Sh : Shape
  Sh = shape (pattern M) n

  up : (a b : ℕ) → T (p a b) → a ≤ b
  up = analysed.up M w

  b : Built Sh
  b = analysed.built M w

  ends : first Sh (supernodes Sh) ≡ n
  ends = b.ends ∙ analysed.shape_n M

  many : offset Sh (supernodes Sh) ≡ entries (pattern M) n
  many = analysed.size M w

  entry_at : (x i j : ℕ) (e : Entry M x i j) → At Sh b x e.K e.c i
  unfolding analysis
  entry_at x i j e = (e.inside, e.column, e.row, e.below, e.at)

  entry_is : (x i j : ℕ) (e : Entry M x i j) → j ≡ first Sh e.K + e.c
  unfolding analysis
  entry_is x i j e = e.is

  entry_of : (x K c i j : ℕ) → At Sh b x K c i → j ≡ first Sh K + c → Entry M x i j
  unfolding analysis
  entry_of x K c i j a e = record { K = K; c = c; inside = a.0; column = a.1; is = e; row = a.2; below = a.3; at = a.4 }

  value_of : (i j : ℕ) → i < n → Fill p i j → (x : ℕ) × (x < entries (pattern M) n) × Entry M x i j
  value_of i j h f = go (owner Sh b (supernodes Sh) (le_refl _) j (omega (arith, fill_lower p n up f, ends)))
    where
      go : (K : ℕ) × (K < supernodes Sh) × (first Sh K ≤ j) × (j < first Sh (suc K)) → (x : ℕ) × (x < entries (pattern M) n) × Entry M x i j
      go z =
          let K = z.0 in
          let c = j - first Sh K in
          let q : first Sh K + c ≡ j = omega (arith, z.2) in
          let u : c < width Sh K = omega (arith, z.2, z.3) in
          let m = part_has Sh b K c i z.1 (ap (has i) (shape_places p n up K c z.1 u ∙ ap (rows_of_column p n) q) ∙ T_true _ (has_select (λ i. fill p i j) n i h (→fill p f))) in
          let a : At Sh b (spot Sh b K c i) K c i = (z.1, u, m.0, m.1, refl) in
          (spot Sh b K c i, omega (arith, (in_stretch Sh b (spot Sh b K c i) K c i a).1, offset_mono Sh (supernodes Sh) (suc K) z.1, many), entry_of (spot Sh b K c i) K c i j a (sym q))

  place_of : (x : ℕ) → x < entries (pattern M) n → (i : ℕ) × (j : ℕ) × (i < n) × Fill p i j × Entry M x i j
  place_of x h = go (at_of Sh b x (omega (arith, many)))
    where
      go : (K : ℕ) × (c : ℕ) × (i : ℕ) × At Sh b x K c i → (i : ℕ) × (j : ℕ) × (i < n) × Fill p i j × Entry M x i j
      go z =
          let K = z.0 in
          let c = z.1 in
          let i = z.2 in
          let a = z.3 in
          let j = first Sh K + c in
          let s = select_has (λ i. fill p i j) n i (rw (sym (ap (has i) (shape_places p n up K c a.0 a.1)) ∙ drop_has (rows_of Sh K) c i a.2 a.3) tt) in
          (i, j, s.0, fill→ p i j s.1, entry_of x K c i j a refl)

  one_value : (x y i j : ℕ) → Entry M x i j → Entry M y i j → x ≡ y
  one_value x y i j e f = go (entry_at x i j e) (entry_at y i j f) (same_K (entry_at x i j e) (entry_at y i j f))
    where
      same_K : At Sh b x e.K e.c i → At Sh b y f.K f.c i → e.K ≡ f.K
      same_K a d =
          ⊎_elim (λ (h : e.K < f.K). absurd (omega (arith, a.1, entry_is x i j e, entry_is y i j f, first_mono Sh b (suc e.K) f.K h (omega (arith, d.0)))))
          (λ (h : f.K ≤ e.K). ⊎_elim (λ (u : f.K < e.K). absurd (omega (arith, d.1, entry_is x i j e, entry_is y i j f, first_mono Sh b (suc f.K) e.K u (omega (arith, a.0))))) (λ (u : e.K ≤ f.K). omega arith) (lt_or_le f.K e.K))
          (lt_or_le e.K f.K)

      go : At Sh b x e.K e.c i → At Sh b y f.K f.c i → e.K ≡ f.K → x ≡ y
      go a d q =
          let u : e.c ≡ f.c = omega (arith, entry_is x i j e, entry_is y i j f, ap (first Sh) q) in
          a.4 ∙ ap (λ z. spot Sh b z e.c i) q ∙ ap (λ z. spot Sh b f.K z i) u ∙ sym d.4

  -- the same set in the matrix's own numbering
  set_same : (a c : ℕ) → a < n → c < n → fill p a c ≡ fill (pattern M) (original (permutation (pattern M) n) a) (original (permutation (pattern M) n) c)
  set_same a c h k =
      let m = numbering (pattern M) n (analysed.up₀ M w) in
      let q = permutation (pattern M) n in
      ap (λ z. fill p z c) (sym (m.pq a h)) ∙ ap (λ z. fill p (tree.pos (pattern M) n (analysed.up₀ M w) (original q a)) z) (sym (m.pq c k)) ∙ tree.factor_fill (pattern M) n (analysed.up₀ M w) (original q a) (original q c) (m.q_in a h) (m.q_in c k)

  original_set : (a c : ℕ) → a < n → c < n → Fill p a c ↔ Fill (pattern M) (original (permutation (pattern M) n) a) (original (permutation (pattern M) n) c)
  original_set a c h k = (λ f. (fill_iff (pattern M) _ _).0 (sym (set_same a c h k) ∙ (fill_iff p a c).1 f), λ f. (fill_iff p a c).0 (set_same a c h k ∙ (fill_iff (pattern M) _ _).1 f))

  pub places : Places M
  unfolding analysis
  places = record {
    has_value = value_of;
    has_place = place_of;
    one_place = λ x i j a d e f. let z = same_entry Sh b x e.K e.c i f.K f.c a (entry_at x i j e) (entry_at x a d f) in (z.0, entry_is x i j e ∙ z.1 ∙ sym (entry_is x a d f));
    one_value = one_value;
    original_set = original_set;
  }
