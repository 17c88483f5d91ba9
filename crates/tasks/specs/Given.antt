-- What the split into tasks asks of the lists, and what it leaves. Definitions only.
use Rattle.std.specs.Prelude.{◌≡◌, Bool, ◌&&◌, List, ◌++◌, ℕ, suc, ◌+◌, ◌-◌, ◌*◌, ◌≤◌, ◌<◌, eqb, leb, ltb, length, get_or, drop, Option, None, Some}
use Rattle.statement.specs.Lists.{sum}
use Rattle.statement.specs.Shape.{Shape, supernodes, width, height, parent_of}
use Rattle.statement.specs.Tasks.{weight, load, subtree_start, Split}
use Rattle.statement.specs.Areas.{held, flat}
use Rattle.areas.specs.Buckets.{Holds}

-- ---- what no addition past 64 bits needs, of the lists alone

-- ns parents, each above its supernode and at most ns
pub record Above (ns : ℕ) (parents : List ℕ) : Type 0 where
  pub len : ns ≤ length parents
  pub rise : (K : ℕ) → K < ns → K < get_or parents K 0
  pub to : (K : ℕ) → K < ns → get_or parents K 0 ≤ ns

-- first columns to 32,768 and row starts: each supernode has at least as many rows as columns, and at most 32,768
pub record Sized (ns : ℕ) (firsts starts : List ℕ) : Type 0 where
  pub in_firsts : ns < length firsts
  pub in_starts : ns < length starts
  pub last : get_or firsts ns 0 ≤ 32768
  pub rise : (K : ℕ) → K < ns → get_or firsts K 0 ≤ get_or firsts (suc K) 0
  pub rows : (K : ℕ) → K < ns → get_or starts K 0 + (get_or firsts (suc K) 0 - get_or firsts K 0) ≤ get_or starts (suc K) 0
  pub small : (K : ℕ) → K < ns → get_or starts (suc K) 0 ≤ get_or starts K 0 + 32768

-- ---- the structure that the lists hold

pub record Parented (S : Shape) (ns : ℕ) (parents : List ℕ) : Type 0 where
  pub number : supernodes S ≡ ns
  pub are : Holds (parent_of S) ns parents

pub record Given (S : Shape) (ns : ℕ) (firsts starts parents : List ℕ) : Type 0 where
  pub tree : Parented S ns parents
  pub widths : (K : ℕ) → K < ns → get_or firsts (suc K) 0 - get_or firsts K 0 ≡ width S K
  pub heights : (K : ℕ) → K < ns → get_or starts (suc K) 0 - get_or starts K 0 ≡ height S K

-- with the loads and the starts of the subtrees
pub record Tabled (S : Shape) (ns : ℕ) (parents begins loads : List ℕ) : Type 0 where
  pub tree : Parented S ns parents
  pub starting : Holds (subtree_start S) ns begins
  pub loaded : Holds (load S) ns loads

-- ---- what is worked out

-- the weight of supernode K by the lists
abbrev pub weight_in : List ℕ → List ℕ → ℕ → ℕ
weight_in firsts starts K = sum (λ c. (get_or starts (suc K) 0 - get_or starts K 0 - c) * (get_or starts (suc K) 0 - get_or starts K 0 - c)) (get_or firsts (suc K) 0 - get_or firsts K 0)

-- from the weights to the loads; slot ns has the total
pub record Loaded (ns : ℕ) (parents to₀ to : List ℕ) : Type 0 where
  pub total : get_or to ns 0 ≡ sum (λ j. get_or to₀ j 0) (suc ns)
  pub are : (S : Shape) → Parented S ns parents → Holds (weight S) ns to₀ → Holds (load S) ns to

-- `fitting` by the lists
abbrev pub fits_in : ℕ → List ℕ → List ℕ → ℕ → ℕ → ℕ → Bool
fits_in ns begins loads most s r = ltb r ns && (eqb (get_or begins r 0) s && leb (get_or loads r 0) most)

-- where a climb from s ended: at s itself, if no subtree fits
abbrev pub ended : ℕ → Option ℕ → ℕ
ended s None = s
ended s (Some e) = e

-- the loads with their total
pub record Weighed (S : Shape) (ns : ℕ) (loads : List ℕ) : Type 0 where
  pub loaded : Holds (load S) ns loads
  pub total : get_or loads ns 0 ≡ sum (weight S) (supernodes S)

-- all three tables in one list
pub record Spread (S : Shape) (ns : ℕ) (words : List ℕ) : Type 0 where
  pub loaded : Holds (load S) ns words
  pub total : get_or words ns 0 ≡ sum (weight S) (supernodes S)
  pub starting : Holds (subtree_start S) ns (drop (ns + 1) words)
  pub are : Holds (parent_of S) ns (drop (2 * ns + 2) words)

-- ---- what is left in the two areas: t tasks and o top entries

-- over what stood there
pub record Cut (x : Split) (tasks₀ top₀ tasks top : List ℕ) (t o : ℕ) : Type 0 where
  pub many_tasks : t ≡ length x.tasks
  pub many_top : o ≡ length x.top
  pub in_tasks : tasks ≡ flat x.tasks ++ drop (length (flat x.tasks)) tasks₀
  pub in_top : top ≡ x.top ++ drop (length x.top) top₀

-- and zeros after them
pub record Parts (x : Split) (tasks₀ top₀ tasks top : List ℕ) (t o : ℕ) : Type 0 where
  pub many_tasks : t ≡ length x.tasks
  pub many_top : o ≡ length x.top
  pub in_tasks : tasks ≡ held (length tasks₀) 0 (flat x.tasks)
  pub in_top : top ≡ held (length top₀) 0 x.top
