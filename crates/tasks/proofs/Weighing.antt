-- Weights as they are written, and how little they add up to. Assumes nothing.
use mathlib.Core.Path.{◌≡◌, refl, ap, ◌∙◌}
use mathlib.Core.List.{List, ◌∷◌, ◌++◌}
use Prim.Native.Nat.{ℕ, zero, suc, ◌+◌, ◌-◌, ◌*◌, ◌≤◌, ◌<◌}
use native.Mathlib.Omega.{arith}
use native.Mathlib.Nat.{le_refl, mul-le-mul}
use native.Mathlib.Numerals.{add-one}
use lib.ListN.{length, get_or, set, drop}
use lib.Seq.{get_or_at, set_at, drop-cons}
use Rattle.statement.specs.Lists.{sum, list}
use Rattle.statement.specs.Shape.{Shape}
use Rattle.statement.specs.Tasks.{weight}
use Rattle.laws.proofs.Sum.{sum_ext}
use Rattle.laws.proofs.Ranks.{list_length}
use Rattle.areas.specs.Buckets.{Holds}
use Rattle.areas.proofs.Buckets.{holds_of}
use Rattle.areas.proofs.Front.{Front, front_over}
use Rattle.tasks.specs.Given.{Sized, Given, weight_in}

pub square : (x : ℕ) → x ≤ 32768 → x * x ≤ 1073741824
square x h = mul-le-mul h h

-- what the sizes say at a supernode, as the code reads them
pub sized_at : (ns : ℕ) (firsts starts : List ℕ) → Sized ns firsts starts → (k : ℕ) → k < ns
    → (k + 1 < length firsts) × (k + 1 < length starts) × (get_or firsts k 0 ≤ get_or firsts (k + 1) 0) × (get_or starts k 0 + (get_or firsts (k + 1) 0 - get_or firsts k 0) ≤ get_or starts (k + 1) 0) × (get_or starts (k + 1) 0 ≤ get_or starts k 0 + 32768)
sized_at ns firsts starts z k h = rw (add-one k) (omega (arith, z.in_firsts), omega (arith, z.in_starts), z.rise k h, z.rows k h, z.small k h)

pub weight_is : (firsts starts : List ℕ) (k : ℕ) → sum (λ c. (get_or starts (k + 1) 0 - get_or starts k 0 - c) * (get_or starts (k + 1) 0 - get_or starts k 0 - c)) (get_or firsts (k + 1) 0 - get_or firsts k 0) ≡ weight_in firsts starts k
weight_is firsts starts k = rw (add-one k) refl

pub weights_over : {ns : ℕ} (firsts starts : List ℕ) {d s : List ℕ} {k : ℕ} → Front (weight_in firsts starts) ns d s k → ns ≤ k → ns < length d → set s ns 0 ≡ list (weight_in firsts starts) ns ++ 0 ∷ drop (suc ns) d
weights_over {ns} firsts starts {d} w h l =
    ap (λ z. set z ns 0) (front_over w h ∙ ap (λ z. list (weight_in firsts starts) ns ++ z) (drop-cons d ns 0 l))
    ∙ set_at (list (weight_in firsts starts) ns) (get_or d ns 0) (drop (suc ns) d) 0 ns (list_length (weight_in firsts starts) ns)

-- ---- the weights add up to little

squares_to : (m : ℕ) → m ≤ 32768 → (w : ℕ) → sum (λ c. (m - c) * (m - c)) w ≤ 1073741824 * w
unfolding sum
squares_to m h zero = omega arith
squares_to m h (suc w) = omega (arith, squares_to m h w, square (m - w) (omega arith))

module _ (ns : ℕ) (firsts starts : List ℕ) (z : Sized ns firsts starts) where
  little : (k : ℕ) → k ≤ ns → sum (weight_in firsts starts) k + 1073741824 * get_or firsts 0 0 ≤ 1073741824 * get_or firsts k 0
  unfolding sum
  little zero h = omega arith
  little (suc k) h = omega (arith, little k (omega arith), squares_to (get_or starts (suc k) 0 - get_or starts k 0) (omega (arith, z.small k h)) (get_or firsts (suc k) 0 - get_or firsts k 0), z.rise k h)

  -- what the loads begin with
  module _ (l d : List ℕ) (e : l ≡ list (weight_in firsts starts) ns ++ 0 ∷ d) where
    at-end : get_or l ns 0 ≡ 0
    at-end = ap (λ x. get_or x ns 0) e ∙ get_or_at (list (weight_in firsts starts) ns) 0 d 0 ns (list_length (weight_in firsts starts) ns)

    pub weights_are : Holds (weight_in firsts starts) ns l
    weights_are = holds_of (weight_in firsts starts) ns l (0 ∷ d) e

    pub weights_sum : sum (λ j. get_or l j 0) (suc ns) ≡ sum (weight_in firsts starts) ns
    unfolding sum
    weights_sum = omega (arith, sum_ext (λ j. get_or l j 0) (weight_in firsts starts) ns weights_are.at, at-end)

    pub weights_little : sum (λ j. get_or l j 0) (suc ns) ≤ 35184372088832
    weights_little = omega (arith, weights_sum, little ns (le_refl ns), z.last)

  -- they are the structure's
  pub weight_of : (parents : List ℕ) (S : Shape) → Given S ns firsts starts parents → (K : ℕ) → K < ns → weight_in firsts starts K ≡ weight S K
  unfolding weight
  weight_of parents S g K h = rw (g.heights K h, g.widths K h) refl
