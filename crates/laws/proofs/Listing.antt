-- The lists of a structure by their places: row starts, and the updates of a target. Assumes nothing.
use mathlib.Core.Path.{◌≡◌, refl, sym, ap, ◌∙◌, subst}
use mathlib.Core.Bool.{Bool, true, false, cond}
use mathlib.Core.List.{List, [], ◌∷◌, ◌++◌, append-nil}
use Prim.Native.Nat.{ℕ, zero, suc, ◌≤◌, ◌<◌}
use native.Mathlib.Omega.{arith}
use native.Mathlib.Decide.{dec_lt, ℕ_discrete}
use lib.Dec.{ltb}
use lib.ListN.{length, get_or, length-append, get_or-append}
use lib.Seq.{get_or_at}
use borrow.Author.Tests.{ltb-true, ltb-false}
use Rattle.statement.specs.Lists.{list, joined}
use Rattle.statement.specs.Shape.{Shape, supernodes, first, rows_of}
use Rattle.statement.specs.Fill.{rows_of_column}
use Rattle.statement.specs.Supernodes.{first_columns, shape_of, below, update, updates_of}
use Rattle.statement.specs.Areas.{no_update}
use Rattle.statement.specs.declared.Update.{Update}
use Rattle.laws.proofs.Ranks.{list_length, list_at, joined_grows}

-- where each supernode's rows start
pub record Spans (S : Shape) : Type 0 where
  pub many : length S.starts ≡ suc (supernodes S)
  pub ordered : (K : ℕ) → K < supernodes S → get_or S.starts K 0 ≤ get_or S.starts (suc K) 0
  pub listed : (K : ℕ) → K < supernodes S → get_or S.starts (suc K) 0 ≤ length S.rows

pub shape_spans : (p : ℕ → ℕ → Bool) (n : ℕ) → Spans (shape_of p n)
unfolding shape_of
shape_spans p n =
    record {
      many = list_length g (suc (supernodes (shape_of p n)));
      ordered = λ K h. omega (arith, at K (omega arith), at (suc K) (omega arith), joined_grows rows K (suc K) (omega arith));
      listed = λ K h. omega (arith, at (suc K) (omega arith), joined_grows rows (suc K) (supernodes (shape_of p n)) h);
    }
  where
    rows : ℕ → List ℕ
    rows K = rows_of_column p n (get_or (first_columns p n) K 0)

    g : ℕ → ℕ
    g K = length (joined rows K)

    at : (K : ℕ) → K ≤ supernodes (shape_of p n) → get_or (list g (suc (supernodes (shape_of p n)))) K 0 ≡ g K
    at K h = list_at g (suc (supernodes (shape_of p n))) K 0 (omega arith)

pub below_most : (x : ℕ) (l : List ℕ) → below x l ≤ length l
unfolding below
below_most x [] = omega arith
below_most x (y ∷ l) = go (ltb y x) (below_most x l)
  where
    go : (b : Bool) → below x l ≤ length l → cond b (suc (below x l)) (below x l) ≤ suc (length l)
    go true h = omega arith
    go false h = omega arith

module _ (S : Shape) (J : ℕ) where
  abbrev pub low_of : ℕ → ℕ
  low_of K = below (first S J) (rows_of S K)

  abbrev pub high_of : ℕ → ℕ
  high_of K = below (first S (suc J)) (rows_of S K)

  pub record At (M : ℕ) (u : Update) : Type 0 where
    pub under : u.supernode < M
    pub low : u.p1 ≡ low_of u.supernode
    pub high : u.p2 ≡ high_of u.supernode
    pub some : u.p1 < u.p2

  -- the updates of J from the supernodes below M, at each place of their list l
  pub record Each (M : ℕ) (l : List Update) : Type 0 where
    pub at : (p : ℕ) → p < length l → At M (get_or l p no_update)
    pub rising : (p q : ℕ) → p < q → q < length l → (get_or l p no_update).supernode < (get_or l q no_update).supernode
    pub all : (K : ℕ) → K < M → low_of K < high_of K → (p : ℕ) × (p < length l) × ((get_or l p no_update).supernode ≡ K)

  weaken : (M : ℕ) (u : Update) → At M u → At (suc M) u
  weaken M u t = record { under = omega (arith, t.under); low = t.low; high = t.high; some = t.some }

  none_more : (M : ℕ) (l : List Update) → Each M l → high_of M ≤ low_of M → Each (suc M) l
  none_more M l t h = record { at = λ p k. weaken M (get_or l p no_update) (t.at p k); rising = t.rising; all = λ K k s. go K k s (ℕ_discrete K M) }
    where
      go : (K : ℕ) → K < suc M → low_of K < high_of K → Dec (K ≡ M) → (p : ℕ) × (p < length l) × ((get_or l p no_update).supernode ≡ K)
      go K k s (yes e) = absurd (omega (arith, ap low_of e, ap high_of e))
      go K k s (no e) = t.all K (omega arith) s

  module _ (M : ℕ) (l : List Update) (t : Each M l) (h : low_of M < high_of M) where
    abbrev new : Update
    new = record { supernode = M; p1 = low_of M; p2 = high_of M }

    old : (p : ℕ) → p < length l → get_or (l ++ (new ∷ [])) p no_update ≡ get_or l p no_update
    old p k = get_or-append l (new ∷ []) no_update p k

    last : (p : ℕ) → p ≡ length l → get_or (l ++ (new ∷ [])) p no_update ≡ new
    last p e = get_or_at l new [] no_update p (sym e)

    long : length (l ++ (new ∷ [])) ≡ suc (length l)
    long = omega (arith, length-append l (new ∷ []))

    one_more : Each (suc M) (l ++ (new ∷ []))
    one_more = record {
      at = λ p k. at p k (dec_lt p (length l));
      rising = λ p q k m. rise p q k m (dec_lt q (length l));
      all = λ K k s. all K k s (ℕ_discrete K M);
    }
      where
        at : (p : ℕ) → p < length (l ++ (new ∷ [])) → Dec (p < length l) → At (suc M) (get_or (l ++ (new ∷ [])) p no_update)
        at p k (yes i) = subst (At (suc M)) (sym (old p i)) (weaken M (get_or l p no_update) (t.at p i))
        at p k (no i) = subst (At (suc M)) (sym (last p (omega (arith, long)))) (record { under = omega arith; low = refl; high = refl; some = h })

        rise : (p q : ℕ) → p < q → q < length (l ++ (new ∷ [])) → Dec (q < length l) → (get_or (l ++ (new ∷ [])) p no_update).supernode < (get_or (l ++ (new ∷ [])) q no_update).supernode
        rise p q k m (yes i) = rw (old p (omega arith), old q i) (t.rising p q k i)
        rise p q k m (no i) = rw (old p (omega (arith, long)), last q (omega (arith, long))) (t.at p (omega (arith, long))).under

        all : (K : ℕ) → K < suc M → low_of K < high_of K → Dec (K ≡ M) → (p : ℕ) × (p < length (l ++ (new ∷ []))) × ((get_or (l ++ (new ∷ [])) p no_update).supernode ≡ K)
        all K k s (yes e) = (length l, omega (arith, long), ap (λ u. u.supernode) (last (length l) refl) ∙ sym e)
        all K k s (no e) = let r = t.all K (omega arith) s in (r.0, omega (arith, long, r.1), ap (λ u. u.supernode) (old r.0 r.1) ∙ r.2)

  each_more : (M : ℕ) (l : List Update) → Each M l → Each (suc M) (l ++ update S J M)
  unfolding update
  each_more M l t = go (ltb (low_of M) (high_of M)) refl
    where
      go : (b : Bool) → ltb (low_of M) (high_of M) ≡ b → Each (suc M) (l ++ cond b (record { supernode = M; p1 = low_of M; p2 = high_of M } ∷ []) [])
      go true e = one_more M l t (ltb-true (low_of M) (high_of M) e)
      go false e = rw (append-nil) (none_more M l t (ltb-false (low_of M) (high_of M) e))

  each : (M : ℕ) → Each M (joined (update S J) M)
  unfolding joined
  each zero = record { at = λ p h. absurd (omega arith); rising = λ p q h k. absurd (omega arith); all = λ K h. absurd (omega arith) }
  each (suc M) = each_more M (joined (update S J) M) (each M)

  pub each_of : Each J (updates_of S J)
  unfolding updates_of
  each_of = each J
