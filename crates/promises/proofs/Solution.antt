-- The solution reads the areas no further than the factor goes: it is that of the analysis and the values. Assumes nothing.
use mathlib.Core.Path.{◌≡◌, refl, sym, ap, ap₂, ◌∙◌}
use mathlib.Core.Bool.{Bool, true, false, cond, ◌||◌}
use mathlib.Core.List.{List, [], ◌∷◌, ◌++◌}
use Prim.Native.Nat.{ℕ, zero, suc, ◌+◌, ◌-◌, ◌≤◌, ◌<◌}
use native.Mathlib.Omega.{arith}
use native.Mathlib.Nat.{le_refl}
use lib.Dec.{eqb}
use lib.ListN.{length, get_or, take, drop, replicate, length-drop, get_or-append}
use lib.Seq.{take-append-le, drop-append-le}
use lib.Ieee.{Float}
use Rattle.statement.specs.Lists.{has, place, list}
use Rattle.statement.specs.Input.{Matrix, WellFormed, pattern, +0}
use Rattle.statement.specs.Fill.{entries}
use Rattle.statement.specs.Postorder.{permutation}
use Rattle.statement.specs.Shape.{Shape, supernodes, first, width, height, rows_of, trapezoid, size}
use Rattle.statement.specs.Supernodes.{owner}
use Rattle.statement.specs.Areas.{held}
use Rattle.statement.specs.Solve.{rows_in, start_in, values_in, forward_at, forward, backward_at, backward, solution}
use Rattle.laws.specs.Built.{Built}
use Rattle.laws.specs.Numbered.{shape}
use Rattle.laws.proofs.Analysed as analysed
use Rattle.laws.proofs.Columns.{rows_in_lem, start_in_lem}
use Rattle.laws.proofs.Entry.{trap_suc, trap_mono}
use Rattle.laws.proofs.FactorTree.{numbering}
use Rattle.laws.proofs.FactorTree as tree
use Rattle.laws.proofs.Order.{has_same, has_more}
use Rattle.laws.proofs.Solvable.{bare, offset_bare}
use Rattle.laws.proofs.Stretches.{offset_mono, offset_suc}
use Rattle.promises.proofs.Places as places

list_same : {A : Type 0} (f g : ℕ → A) (m : ℕ) → ((i : ℕ) → i < m → f i ≡ g i) → list f m ≡ list g m
unfolding list
list_same f g zero h = refl
list_same f g (suc m) h = ap₂ (λ l x. l ++ (x ∷ [])) (list_same f g m (λ i k. h i (omega arith))) (h m (le_refl (suc m)))

-- ---- by what is read

module _ (n : ℕ) (S B : Shape) (v w : List Float) (rows : (c : ℕ) → c < n → rows_in B c ≡ rows_in S c) (values : (c : ℕ) → c < n → values_in B w c ≡ values_in S v c) where
  forward_same : (x : List Float) (c : ℕ) → c ≤ n → forward B w x c ≡ forward S v x c
  unfolding forward forward_at
  forward_same x zero h = refl
  forward_same x (suc c) h = rw (forward_same x c (omega arith), rows c h, values c h)

  backward_same : (c : ℕ) → c ≤ n → (x : List Float) → backward B w x c ≡ backward S v x c
  unfolding backward backward_at
  backward_same zero h x = refl
  backward_same (suc c) h x = rw (rows c h, values c h) (backward_same c (omega arith) _)

  pub solution_same : (p q : List ℕ) (b : List Float) → ((a : ℕ) → a < n → get_or p a 0 ≡ get_or q a 0) → ((k : ℕ) → k < n → place k p ≡ place k q) → solution n p B w b ≡ solution n q S v b
  unfolding solution
  solution_same p q b h k =
      let i : List Float = list (λ a. get_or b (get_or q a 0) +0) n in
      let e : list (λ a. get_or b (get_or p a 0) +0) n ≡ i = list_same (λ a. get_or b (get_or p a 0) +0) (λ a. get_or b (get_or q a 0) +0) n (λ a l. ap (λ z. get_or b z +0) (h a l)) in
      let x = backward S v (forward S v i n) n in
      let f : backward B w (forward B w (list (λ a. get_or b (get_or p a 0) +0) n) n) n ≡ x = ap (λ z. backward B w (forward B w z n) n) e ∙ ap (λ z. backward B w z n) (forward_same i n (le_refl n)) ∙ backward_same n (le_refl n) (forward S v i n) in
      ap (λ z. list (λ k. get_or z (place k p) +0) n) f ∙ list_same (λ k. get_or x (place k p) +0) (λ k. get_or x (place k q) +0) n (λ a l. ap (λ z. get_or x z +0) (k a l))

-- ---- a part over zeros

front_part : {A : Type 0} (m a c : ℕ) (z : A) (l : List A) → a + c ≤ length l → take c (drop a (held m z l)) ≡ take c (drop a l)
unfolding held
front_part m a c z l h = ap (take c) (drop-append-le a l (replicate (m - length l) z) (omega arith)) ∙ take-append-le c (drop a l) (replicate (m - length l) z) (simp length-drop (omega arith))

front_at : {A : Type 0} (m a : ℕ) (z d : A) (l : List A) → a < length l → get_or (held m z l) a d ≡ get_or l a d
unfolding held
front_at m a z d l h = get_or-append l (replicate (m - length l) z) d a h

place_front : (k : ℕ) (l z : List ℕ) → has k l ≡ true → place k (l ++ z) ≡ place k l
unfolding has place
place_front k [] z e = absurd (let y : ◌≡◌ {A = ℕ} 0 1 = cc in omega arith)
place_front k (x ∷ l) z e = go (eqb x k) (place_front k l z) e
  where
    go : (b : Bool) → (has k l ≡ true → place k (l ++ z) ≡ place k l) → b || has k l ≡ true → cond b 0 (suc (place k (l ++ z))) ≡ cond b 0 (suc (place k l))
    go true f e = refl
    go false f e = ap suc (f e)

has_get_d : (l : List ℕ) (a : ℕ) → a < length l → has (get_or l a 0) l ≡ true
has_get_d [] a h = absurd (omega arith)
has_get_d (x ∷ l) zero h = has_same x l
has_get_d (x ∷ l) (suc a) h = has_more (get_or l a 0) x l (has_get_d l a (omega arith))

-- ---- of a matrix

rows_bare : (S : Shape) (c : ℕ) → rows_in (bare S) c ≡ rows_in S c
unfolding rows_in rows_of
rows_bare S c = refl

start_bare : (S : Shape) (c : ℕ) → start_in (bare S) c ≡ start_in S c
unfolding start_in rows_of
start_bare S c = let K = owner S.firsts c in ap (λ z. z + trapezoid (height S K) (c - first S K)) (offset_bare S K)

size_is : (S : Shape) (K : ℕ) → size S K ≡ trapezoid (height S K) (width S K)
unfolding size
size_is S K = refl

module _ (M : Matrix) (ok : WellFormed M) where
  abbrev n : ℕ
  n = M.n

  abbrev q : List ℕ
  q = permutation (pattern M) n

  abbrev S : Shape
  S = shape (pattern M) n

  b : Built S
  b = analysed.built M ok

  -- a column's values end within the factor
  ends : (c : ℕ) → c < n → start_in S c + length (rows_in S c) ≤ entries (pattern M) n
  ends c h = go (places.owner S b (supernodes S) (le_refl _) c (omega (arith, b.ends, analysed.shape_n M)))
    where
      go : (K : ℕ) × (K < supernodes S) × (first S K ≤ c) × (c < first S (suc K)) → start_in S c + length (rows_in S c) ≤ entries (pattern M) n
      go z =
          let K = z.0 in
          let d = c - first S K in
          let l : d < width S K = omega (arith, z.2, z.3) in
          let e : first S K + d ≡ c = omega (arith, z.2) in
          let u = ap (start_in S) (sym e) ∙ start_in_lem S b.rise K d z.1 l in
          let t = ap (λ x. length (rows_in S x)) (sym e) ∙ ap length (rows_in_lem S b.rise K d z.1 l) ∙ length-drop d (rows_of S K) in
          omega (arith, u, t, trap_suc (height S K) d, trap_mono (height S K) (suc d) (width S K) l, size_is S K, offset_suc S K, offset_mono S (supernodes S) (suc K) z.1, analysed.size M ok)

  pub values_same : (m : ℕ) (v : List Float) → length v ≡ entries (pattern M) n → (c : ℕ) → c < n → values_in (bare S) (held m +0 v) c ≡ values_in S v c
  unfolding values_in
  values_same m v e c h =
      ap₂ (λ a l. take (length l) (drop a (held m +0 v))) (start_bare S c) (rows_bare S c)
      ∙ front_part m (start_in S c) (length (rows_in S c)) +0 v (omega (arith, ends c h))

  held_place : (m k : ℕ) → k < n → place k (held m 0 q) ≡ place k q
  unfolding held
  held_place m k h =
      let z = numbering (pattern M) n (analysed.up₀ M ok) in
      place_front k q (replicate (m - length q) 0) (rw (z.qp k h) at (has_get_d q (tree.pos (pattern M) n (analysed.up₀ M ok) k) (omega (arith, analysed.length_q M, z.p_in k h))))

  -- what solve works out from the areas is what it would from the analysis and the values
  pub solution_is : (m k : ℕ) (v b : List Float) → length v ≡ entries (pattern M) n → solution n (held m 0 q) (bare S) (held k +0 v) b ≡ solution n q S v b
  solution_is m k v b e = solution_same n S (bare S) v (held k +0 v) (λ c _. rows_bare S c) (values_same k v e) (held m 0 q) q b (λ a h. front_at m a 0 0 q (omega (arith, analysed.length_q M))) (held_place m)
