-- The row starts and the parents of the supernodes as they are written. Assumes nothing.
use mathlib.Core.Path.{◌≡◌, sym, ap, ◌∙◌}
use mathlib.Core.Logic.{⊎_elim, ◌≢◌}
use mathlib.Core.Bool.{Bool, cond}
use mathlib.Core.List.{List, ◌++◌}
use Prim.Native.Nat.{ℕ, suc, ◌+◌, ◌-◌, ◌≤◌, ◌<◌}
use native.Mathlib.Omega.{arith}
use native.Mathlib.Nat.{eq-or-lt_of_le}
use native.Mathlib.Numerals.{add-one}
use lib.Dec.{T, eqb}
use lib.ListN.{get_or, set, drop}
use Rattle.statement.specs.Lists.{list}
use Rattle.statement.specs.Input.{stored}
use Rattle.statement.specs.Fill.{parent, count}
use Rattle.laws.specs.Numbered.{shape}
use Rattle.laws.proofs.Bools.{eqb_yes, eqb_no}
use Rattle.laws.proofs.Fill.{parent_to}
use Rattle.laws.proofs.Select.{select_length}
use Rattle.laws.proofs.Tally.{count_to}
use Rattle.laws.proofs.Sum.{sum_ext}
use Rattle.laws.proofs.Shapes as Shapes
use Rattle.areas.specs.Buckets.{Holds}
use Rattle.areas.proofs.Buckets.{start_sum}
use Rattle.areas.proofs.Lists.{list_ext}
use Rattle.areas.proofs.Front.{Front, front_over}
use Rattle.areas.proofs.Summing.{Summing, summing_more, summing_over}
use Rattle.structure.specs.Node.{nodes, first_of, last_of, owner_of, above, in_row, node_rows, row_start}
use Rattle.structure.specs.Line.{factored_pattern, Known}
use Rattle.structure.proofs.Node as Node
use Rattle.structure.proofs.Climbs.{pattern_upper}

-- the entries of each supernode's first column
abbrev pub first_count : ℕ → List ℕ → List ℕ → ℕ → ℕ
first_count n starts rows K = count (factored_pattern n starts rows) n (first_of (factored_pattern n starts rows) n K)

module _ (n ns : ℕ) (starts rows firsts : List ℕ) (g : Known n ns starts rows firsts) where
  abbrev P : ℕ → ℕ → Bool
  P = factored_pattern n starts rows

  up : (i k : ℕ) → T (factored_pattern n starts rows i k) → i ≤ k
  up = pattern_upper n starts rows g.formed

  pub few : ns ≤ n
  few = omega (arith, g.number, Shapes.supernodes_few P n up)

  pub first_at : (K : ℕ) → K ≤ ns → get_or firsts K 0 ≡ first_of (factored_pattern n starts rows) n K
  first_at K h = g.first-is.at K (let z : K < suc ns = omega arith in z)

  pub first_below : (K : ℕ) → K < ns → get_or firsts K 0 < n
  first_below K h = omega (arith, first_at K (omega arith), (Shapes.first_in P n up K (omega (arith, g.number))).small)

  module _ (counts : List ℕ) (c : Holds (count (factored_pattern n starts rows) n) n counts) (K : ℕ) (h : K < ns) where
    pub count_at : get_or counts (get_or firsts K 0) 0 ≡ first_count n starts rows K
    count_at = c.at (get_or firsts K 0) (first_below K h) ∙ ap (count P n) (first_at K (omega arith))

    pub count_small : get_or counts (get_or firsts K 0) 0 ≤ 32768
    count_small = omega (arith, count_at, count_to (in_row P n K) n, g.small)

    pub starts_more : {d s : List ℕ} → Summing (first_count n starts rows) ns d s K → Summing (first_count n starts rows) ns d (set s (K + 1) (get_or s K 0 + get_or counts (get_or firsts K 0) 0)) (K + 1)
    starts_more w = rw count_at (summing_more w h (omega (arith, count_at, count_small)))

  pub starts_over : (d : List ℕ) {s : List ℕ} {k : ℕ} → Summing (first_count n starts rows) ns (set d 0 0) s k → ns ≤ k → s ≡ (shape (stored starts rows) n).starts ++ drop (suc ns) d
  starts_over d w h = summing_over d w h ∙ ap (λ l. l ++ drop (suc ns) d)
      (list_ext _ _ (suc ns) (λ K _. sum_ext _ _ K (λ j _. sym (select_length (in_row P n j) n)) ∙ sym (start_sum (node_rows P n) K)) ∙ ap (λ x. list (row_start P n) (suc x)) g.number ∙ sym (Node.starts_are P n))

  -- ---- parents

  module _ (K : ℕ) (h : K < ns) where
    pub last_at : (0 < get_or firsts (K + 1) 0) × (get_or firsts (K + 1) 0 - 1 ≡ last_of (factored_pattern n starts rows) n K) × (last_of (factored_pattern n starts rows) n K < n)
    last_at =
        let e : get_or firsts (K + 1) 0 ≡ first_of P n (suc K) = rw add-one (first_at (suc K) h) in
        let k : K < nodes P n = omega (arith, g.number) in
        let r = Shapes.first_rise P n up K k in
        let t = Shapes.first_to P n up (suc K) k in
        (omega arith, ap (λ x. x - 1) e, omega arith)

    module _ (parents own : List ℕ) (p : Holds (parent (factored_pattern n starts rows) n) n parents) (o : Holds (owner_of (factored_pattern n starts rows) n) n own) where
      pub parent_at : get_or parents (get_or firsts (K + 1) 0 - 1) 0 ≡ parent (factored_pattern n starts rows) n (last_of (factored_pattern n starts rows) n K)
      parent_at = ap (λ x. get_or parents x 0) last_at.1 ∙ p.at (last_of P n K) last_at.2

      pub parent_most : get_or parents (get_or firsts (K + 1) 0 - 1) 0 ≤ n
      parent_most = omega (arith, parent_at, parent_to P n (last_of P n K) last_at.2)

      pub above_at : cond (eqb (get_or parents (get_or firsts (K + 1) 0 - 1) 0) n) ns (get_or own (get_or parents (get_or firsts (K + 1) 0 - 1) 0) 0) ≡ above (factored_pattern n starts rows) n K
      above_at = rw parent_at (⊎_elim
          (λ (z : parent P n (last_of P n K) ≡ n). rw (eqb_yes z) (g.number ∙ sym (Node.owner_out P n up (parent P n (last_of P n K)) (omega arith))))
          (λ (z : parent P n (last_of P n K) < n). rw (eqb_no (let y : parent P n (last_of P n K) ≢ n = omega arith in y)) (o.at (parent P n (last_of P n K)) z))
          (eq-or-lt_of_le (parent_to P n (last_of P n K) last_at.2)))

  pub parents_over : {d s : List ℕ} {k : ℕ} → Front (above (factored_pattern n starts rows) n) ns d s k → ns ≤ k → s ≡ (shape (stored starts rows) n).parents ++ drop ns d
  parents_over {d} w h = front_over w h ∙ ap (λ l. l ++ drop ns d) (ap (list (above P n)) g.number ∙ sym (Node.parents_are P n))
