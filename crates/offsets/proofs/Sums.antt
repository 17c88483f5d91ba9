-- Stretches end to end: offsets are sums of sizes. Assumes nothing.
use mathlib.Core.Path.{◌≡◌, refl, sym, ap, ap₂, ◌∙◌}
use mathlib.Core.List.{List, ◌++◌}
use Prim.Native.Nat.{ℕ, zero, suc, ◌+◌, ◌-◌, ◌*◌, ◌≤◌, ◌<◌}
use native.Mathlib.Omega.{arith}
use native.Mathlib.Nat.{le_refl, mul-le-mul, suc-mul}
use native.Mathlib.Numerals.{add-one}
use lib.ListN.{length, get_or, set, drop}
use lib.Seq.{length-slice}
use Rattle.statement.specs.Lists.{list, sum}
use Rattle.statement.specs.Shape.{Shape, first, trapezoid, offset, size, rows_of}
use Rattle.areas.proofs.Lists.{list_ext}
use Rattle.areas.proofs.Front.{Front, front_start, front_more, front_over}
use Rattle.areas.proofs.Summed.{Summed, sum_start, sum_more, sum_over}
use Rattle.offsets.specs.Lent.{between, Rising, Of}

-- the size of supernode K by the lent lists
unfoldable pub sized : List ℕ → List ℕ → ℕ → ℕ
sized f s K = trapezoid (between s K) (between f K)

trapezoid_most : (m c : ℕ) → trapezoid m c ≤ c * m
unfolding trapezoid
trapezoid_most m zero = omega arith
trapezoid_most m (suc c) = omega (arith, trapezoid_most m c, suc-mul c m)

module _ {f s : List ℕ} {ns : ℕ} (r : Rising f s ns) where
  pub sized_most : (K : ℕ) → K < ns → sized f s K ≤ 1073741824
  unfolding sized
  sized_most K k = omega (
    arith,
    trapezoid_most (between s K) (between f K),
    mul-le-mul {n₁ = between f K} {m₁ = between s K} {n₂ = 32768} {m₂ = 32768} (omega (arith, r.tall K k, r.small K k)) (r.small K k),
  )

-- the same at k, as code has it
pub record Here (f s : List ℕ) (k : ℕ) : Type 0 where
  pub columns : get_or f k 0 ≤ get_or f (k + 1) 0
  pub rows : get_or s k 0 ≤ get_or s (k + 1) 0
  pub tall : get_or f (k + 1) 0 - get_or f k 0 ≤ get_or s (k + 1) 0 - get_or s k 0
  pub small : get_or s (k + 1) 0 - get_or s k 0 ≤ 32768

pub here : {f s : List ℕ} {ns : ℕ} → Rising f s ns → (k : ℕ) → k < ns → Here f s k
here r k h = record { columns = rw add-one (r.columns k h); rows = rw add-one (r.rows k h); tall = rw add-one (r.tall k h); small = rw add-one (r.small k h) }

-- the loop: `at` is the sum of the sizes so far, and each start is one such sum
pub record Placing (f s : List ℕ) (ns : ℕ) (d to : List ℕ) (at k : ℕ) : Type 0 where
  pub summed : Summed (sized f s) ns 1073741824 at k
  pub front : Front (sum (sized f s)) ns d to k

pub placing_start : (f s : List ℕ) (ns : ℕ) (d : List ℕ) → ns ≤ length d → Placing f s ns d d 0 0
placing_start f s ns d h = record { summed = sum_start (sized f s) ns 1073741824; front = front_start (sum (sized f s)) ns d h }

module _ {f s : List ℕ} {ns : ℕ} {d to : List ℕ} {at k : ℕ} (w : Placing f s ns d to at k) where
  pub placing_more : Rising f s ns → k < ns → {x : ℕ} → x ≡ trapezoid (get_or s (k + 1) 0 - get_or s k 0) (get_or f (k + 1) 0 - get_or f k 0) → Placing f s ns d (set to k at) (at + x) (k + 1)
  placing_more r h {x} e = record {
    summed = rw (e ∙ is) (sum_more w.summed h (sized_most r k h));
    front = front_more w.front h w.summed.is;
  }
    where
      is : trapezoid (get_or s (k + 1) 0 - get_or s k 0) (get_or f (k + 1) 0 - get_or f k 0) ≡ sized f s k
      is = unfold sized in rw add-one

  module _ (S : Shape) (of : Of S f s ns) (h : ns ≤ k) where
    offset_sum : (K : ℕ) → K ≤ ns → sum (sized f s) K ≡ offset S K
    unfolding sum offset sized size
    offset_sum zero j = refl
    offset_sum (suc K) j = ap₂ ◌+◌ (offset_sum K (omega arith)) (rw (of.width K j, of.height K j))

    pub placing_end : at ≡ offset S ns
    placing_end = sum_over w.summed h ∙ offset_sum ns (le_refl ns)

    pub placing_over : to ≡ list (offset S) ns ++ drop ns d
    placing_over = front_over w.front h ∙ ap (λ l. l ++ drop ns d) (list_ext (sum (sized f s)) (offset S) ns (λ K k. offset_sum K (omega arith)))

-- from areas that hold a structure's lists: its first columns and row starts
pub held_of : (S : Shape) (f s : List ℕ) (ns : ℕ) → ((K : ℕ) → K ≤ ns → get_or f K 0 ≡ first S K) → ((K : ℕ) → K ≤ ns → get_or s K 0 ≡ get_or S.starts K 0)
    → ((K : ℕ) → K < ns → get_or S.starts (suc K) 0 ≤ length S.rows) → Of S f s ns
held_of S f s ns firsts starts inside = record {
  width = λ K k. rw (firsts K (omega arith), firsts (suc K) k);
  height = λ K k. rw (starts K (omega arith), starts (suc K) k) (sym (tall K k));
}
  where
    tall : (K : ℕ) → K < ns → length (rows_of S K) ≡ get_or S.starts (suc K) 0 - get_or S.starts K 0
    tall K k = unfold rows_of in length-slice (get_or S.starts K 0) (get_or S.starts (suc K) 0) S.rows (inside K k)
