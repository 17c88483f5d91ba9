-- Which columns a supernode has, and which rows. Assumes nothing.
use mathlib.Core.Path.{◌≡◌, refl, sym, ap, ◌∙◌}
use mathlib.Core.Logic.{◌⊎◌, inl, inr, ⊎_elim, ◌≢◌}
use mathlib.Core.Bool.{Bool}
use Prim.Native.Nat.{ℕ, zero, suc, ◌≤◌, ◌<◌}
use native.Mathlib.Omega.{arith}
use native.Mathlib.Nat.{le_refl, eq-or-lt_of_le}
use lib.Dec.{T, eqb, eqb→eq}
use Rattle.statement.specs.Fill.{Fill, diag, entry, fill, parent}
use Rattle.statement.specs.Lists.{list, joined}
use Rattle.statement.specs.Shape.{supernodes}
use Rattle.statement.specs.Supernodes.{joins, shape_of}
use Rattle.laws.proofs.Bools.{lt_or_le, and_both}
use Rattle.laws.proofs.Fill.{fill→, →fill, fill_parent, fill_lower, parent_above, parent_least}
use Rattle.laws.proofs.SameRows.{super_rows}
use Rattle.laws.proofs.Columns.{owner_of_lem}
use Rattle.laws.proofs.Shapes as Shapes
use Rattle.structure.specs.Node.{nodes, first_of, last_of, owner_of, above, in_row, node_rows, row_start}

-- ---- the structure by its parts

module _ (p : ℕ → ℕ → Bool) (n : ℕ) where
  pub number_is : supernodes (shape_of p n) ≡ nodes p n
  unfolding shape_of
  number_is = refl

  pub starts_are : (shape_of p n).starts ≡ list (row_start p n) (suc (nodes p n))
  unfolding shape_of
  starts_are = refl

  pub rows_are : (shape_of p n).rows ≡ joined (node_rows p n) (nodes p n)
  unfolding shape_of
  rows_are = refl

  pub parents_are : (shape_of p n).parents ≡ list (above p n) (nodes p n)
  unfolding shape_of
  parents_are = refl

module _ (p : ℕ → ℕ → Bool) (n : ℕ) (upper : (i k : ℕ) → T (p i k) → i ≤ k) where
  -- ---- columns

  pub owner_in : (j : ℕ) → j < n → owner_of p n j < nodes p n
  owner_in j h = Shapes.own_in p n upper j h

  pub owner_to : (j : ℕ) → j < n → j < first_of p n (suc (owner_of p n j))
  owner_to j h = Shapes.own_to p n upper j (owner_in j h)

  pub owner_is : (j K : ℕ) → K < nodes p n → first_of p n K ≤ j → j < first_of p n (suc K) → owner_of p n j ≡ K
  unfolding shape_of
  owner_is j K h a b = owner_of_lem (shape_of p n) (Shapes.first_rise p n upper) K j h a b

  pub owner_first : (K : ℕ) → K < nodes p n → owner_of p n (first_of p n K) ≡ K
  owner_first K h = owner_is (first_of p n K) K h (le_refl _) (Shapes.first_rise p n upper K h)

  pub owner_rise : (i j : ℕ) → i ≤ j → owner_of p n i ≤ owner_of p n j
  owner_rise i j h = go (owner_of p n i) refl
    where
      go : (O : ℕ) → owner_of p n i ≡ O → O ≤ owner_of p n j
      go zero e = omega arith
      go (suc O) e = Shapes.own_over p n upper j O (omega (arith, e, Shapes.own_most p n upper i)) (omega (arith, Shapes.own_from p n upper i, ap (first_of p n) e))

  -- n is past every supernode
  pub owner_out : (j : ℕ) → n ≤ j → owner_of p n j ≡ nodes p n
  owner_out j h = omega (arith, Shapes.own_most p n upper j, go (nodes p n) refl)
    where
      go : (N : ℕ) → nodes p n ≡ N → N ≤ owner_of p n j
      go zero e = omega arith
      go (suc N) e = Shapes.own_over p n upper j N (omega (arith, e)) (omega (arith, Shapes.first_end p n upper, ap (first_of p n) e))

  -- a column's parent is of the same supernode, or of the supernode's parent
  pub owner_next : (j : ℕ) → j < n → (owner_of p n (parent p n j) ≡ owner_of p n j) ⊎ (above p n (owner_of p n j) ≡ owner_of p n (parent p n j))
  unfolding joins
  owner_next j h = ⊎_elim
      (λ (e : suc j ≡ first_of p n (suc (owner_of p n j))). inr (ap (λ x. owner_of p n (parent p n x)) (let z : last_of p n (owner_of p n j) ≡ j = omega arith in z)))
      (λ (l : suc j < first_of p n (suc (owner_of p n j))).
      let t = Shapes.chain p n upper (owner_of p n j) j (owner_in j h) (Shapes.own_from p n upper j) l in
      let e = eqb→eq (parent p n j) (suc j) (and_both (eqb (parent p n j) (suc j)) _ t).0 in
      inl (ap (owner_of p n) e ∙ owner_is (suc j) (owner_of p n j) (owner_in j h) (omega (arith, Shapes.own_from p n upper j)) l))
      (eq-or-lt_of_le (owner_to j h))

  pub above_more : (K : ℕ) → K < nodes p n → K < above p n K
  above_more K h = Shapes.own_over p n upper (parent p n (last_of p n K)) K h (omega (arith, Shapes.first_rise p n upper K h, parent_above p n (last_of p n K)))

  -- ---- rows

  -- row r of column j is a row of its supernode
  rows_same : (j r : ℕ) → j ≤ r → r < n → fill p r j ≡ in_row p n (owner_of p n j) r
  rows_same j r h k =
      let jn : j < n = omega arith in
      super_rows p n upper (first_of p n (owner_of p n j)) j (Shapes.own_from p n upper j) jn
      (λ x a b. Shapes.chain p n upper (owner_of p n j) x (owner_in j jn) a (omega (arith, owner_to j jn))) r h k

  pub row_own : (r : ℕ) → r < n → T (in_row p n (owner_of p n r) r)
  row_own r h = rw (rows_same r r (le_refl r) h) at (→fill p (diag r))

  pub row_stored : (c r : ℕ) → r < n → T (p c r) → T (in_row p n (owner_of p n c) r)
  row_stored c r h t = rw (rows_same c r (upper c r t) h) at (→fill p (entry t))

  module _ (K r : ℕ) (h : K < nodes p n) (rn : r < n) (t : T (in_row p n K r)) where
    pub row_from : first_of p n K ≤ r
    row_from = fill_lower p n upper (fill→ p r (first_of p n K) t)

    pub row_owner : K ≤ owner_of p n r
    row_owner = omega (arith, owner_first K h, owner_rise (first_of p n K) r row_from)

    -- a row past the supernode's columns is a row of its last column, and of that column's parent
    module _ (ne : K ≢ owner_of p n r) where
      past : first_of p n (suc K) ≤ r
      past = ⊎_elim (λ (l : r < first_of p n (suc K)). absurd (ne (sym (owner_is r K h row_from l)))) (λ l. l) (lt_or_le r (first_of p n (suc K)))

      pub last_owner : owner_of p n (last_of p n K) ≡ K
      last_owner = let l = Shapes.first_rise p n upper K h in owner_is (last_of p n K) K h (omega arith) (omega arith)

      pub last_less : last_of p n K < r
      last_less = omega (arith, past, Shapes.first_rise p n upper K h)

      pub row_last : Fill p r (last_of p n K)
      row_last = fill→ p r (last_of p n K) (rw (rows_same (last_of p n K) r (omega (arith, last_less)) rn, last_owner) t)

      parent_low : parent p n (last_of p n K) ≤ r
      parent_low = parent_least p n row_last last_less

      pub row_above : T (in_row p n (above p n K) r)
      row_above = rw (rows_same (parent p n (last_of p n K)) r parent_low rn) at (→fill p (fill_parent p n row_last last_less rn))

      pub above_to : above p n K ≤ owner_of p n r
      above_to = owner_rise (parent p n (last_of p n K)) r parent_low
