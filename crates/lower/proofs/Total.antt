-- The lower columns have no more entries than the upper ones. Assumes nothing.
use mathlib.Core.Path.{◌≡◌, refl, sym, ap, ap₂, ◌∙◌}
use mathlib.Core.Bool.{Bool, true}
use mathlib.Core.List.{List}
use Prim.Native.Nat.{ℕ, zero, suc, ◌+◌, ◌-◌, ◌≤◌, ◌<◌}
use native.Mathlib.Omega.{arith}
use native.Mathlib.Nat.{le_refl}
use lib.Dec.{T, ltb}
use lib.ListN.{length, get_or}
use Rattle.statement.specs.Lists.{bit, tally, sum}
use Rattle.statement.specs.Input.{Columns, stored}
use Rattle.statement.specs.Postorder.{renumbered}
use Rattle.laws.proofs.Bools.{and_both}
use Rattle.laws.proofs.Tally.{count_into, count_to}
use Rattle.laws.proofs.Sum.{sum_ext, sum-add, sum_bit, sum_into}
use Rattle.laws.proofs.Select.{select_length}
use Rattle.laws.proofs.Input.{upper}
use Rattle.statement.specs.Fill.{parent}
use Rattle.laws.proofs.Postorder.{pos}
use Rattle.laws.proofs.FactorTree.{numbering}
use Rattle.lower.specs.Entries.{originally, in_lower, lower_rows, lower_start, spot}
use Rattle.lower.proofs.Spots.{spot_in}
use Rattle.lower.proofs.Passes.{start_sum}

sum-zero : (m : ℕ) → sum (λ _. 0) m ≡ 0
unfolding sum
sum-zero zero = refl
sum-zero (suc m) = omega (arith, sum-zero m)

-- by columns and by rows
swapped : (f : ℕ → ℕ → Bool) (m k : ℕ) → sum (λ c. tally (f c) k) m ≡ sum (λ r. tally (λ c. f c r) m) k
unfolding tally sum
swapped f m zero = sum-zero m
swapped f m (suc k) = sum-add (λ c. tally (f c) k) (λ c. bit (f c k)) m ∙ ap₂ (λ x y. x + y) (swapped f m k) (sum_bit (λ c. f c k) m)

module _ (n : ℕ) (starts rows : List ℕ) (wf : Columns n starts rows) where
  u : (i k : ℕ) → T (stored starts rows i k) → i ≤ k
  u = upper n starts rows wf

  abbrev O : ℕ → ℕ
  O = originally n starts rows

  abbrev long : ℕ → ℕ
  long k = get_or starts (suc k) 0 - get_or starts k 0

  spread : (m : ℕ) → m ≤ n → sum (λ k. get_or starts (suc k) 0 - get_or starts k 0) m ≡ get_or starts m 0
  unfolding sum
  spread zero h = sym wf.first
  spread (suc m) h = omega (arith, spread m (omega arith), wf.rise m h)

  -- the entries of row r are those of one upper column, each once
  row_most : (r : ℕ) → r < n → tally (λ c. in_lower n starts rows c r) n ≤ get_or starts (suc (originally n starts rows r)) 0 - get_or starts (originally n starts rows r) 0
  row_most r rn = omega (
    arith,
    count_into n (long (O r)) (λ c. in_lower n starts rows c r) (λ _. true) (λ c. sp c - get_or starts (O r) 0)
        (λ c h t. (omega (arith, at c t), tt))
        (λ c d h k t v e. back c d h k t v (let z : sp c ≡ sp d = omega (arith, at c t, at d v) in z)),
    count_to (λ _. true) (long (O r)),
  )
    where
      kn : originally n starts rows r < n
      kn = (numbering (stored starts rows) n u).q_in r rn

      sp : ℕ → ℕ
      sp c = spot starts rows (originally n starts rows c) (originally n starts rows r)

      at : (c : ℕ) → T (in_lower n starts rows c r) → (get_or starts (originally n starts rows r) 0 ≤ sp c) × (sp c < get_or starts (suc (originally n starts rows r)) 0) × (get_or rows (sp c) 0 ≡ originally n starts rows c)
      at c t = spot_in n starts rows wf (O r) kn (O c) (unfold renumbered in (and_both (ltb r n) _ (and_both (ltb c n) _ t).1).1)

      back : (c d : ℕ) → c < n → d < n → T (in_lower n starts rows c r) → T (in_lower n starts rows d r) → sp c ≡ sp d → c ≡ d
      back c d h k t v e =
          let o : O c ≡ O d = sym (at c t).2 ∙ ap (λ x. get_or rows x 0) e ∙ (at d v).2 in
          sym ((numbering (stored starts rows) n u).pq c h) ∙ ap (pos (parent (stored starts rows) n) n) o ∙ (numbering (stored starts rows) n u).pq d k

  pub total : lower_start n starts rows n ≤ length rows
  total = omega (
    arith,
    start_sum 0 (lower_rows n starts rows) n,
    sum_ext (λ c. length (lower_rows n starts rows c)) (λ c. tally (in_lower n starts rows c) n) n (λ c _. select_length (in_lower n starts rows c) n),
    swapped (in_lower n starts rows) n n,
    sum_into n n (λ r. tally (λ c. in_lower n starts rows c r) n) long O (λ r h. ((numbering (stored starts rows) n u).q_in r h, row_most r h))
        (λ a b h k e. sym ((numbering (stored starts rows) n u).pq a h) ∙ ap (pos (parent (stored starts rows) n) n) e ∙ (numbering (stored starts rows) n u).pq b k),
    spread n (le_refl n),
    wf.last,
  )
