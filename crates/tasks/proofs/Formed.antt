-- The structure of an upper pattern meets what the split asks. Assumes nothing.
use mathlib.Core.Path.{◌≡◌, refl, ap}
use mathlib.Core.Bool.{Bool}
use mathlib.Core.List.{List, ◌++◌}
use Prim.Native.Nat.{ℕ, suc, ◌+◌, ◌≤◌, ◌<◌}
use native.Mathlib.Omega.{arith}
use native.Mathlib.Nat.{le_refl}
use lib.Dec.{T}
use lib.ListN.{length, get_or}
use Rattle.statement.specs.Lists.{joined}
use Rattle.statement.specs.Fill.{fill}
use Rattle.statement.specs.Shape.{Shape, supernodes, first, height, parent_of}
use Rattle.statement.specs.Supernodes.{shape_of}
use Rattle.laws.proofs.Select.{select_length}
use Rattle.laws.proofs.Ranks.{list_length, list_at}
use Rattle.laws.proofs.Bounds.{count_most}
use Rattle.laws.proofs.Shapes as shapes
use Rattle.areas.specs.Buckets.{Holds}
use Rattle.areas.proofs.Buckets.{start_suc}
use Rattle.areas.proofs.Parts.{holds_part}
use Rattle.statement.specs.Input.{Matrix, WellFormed, pattern}
use Rattle.laws.specs.Numbered.{factored, shape}
use Rattle.laws.proofs.Input.{upper}
use Rattle.laws.proofs.FactorTree.{upper'}
use Rattle.tasks.specs.Given.{Above, Sized, Given}

module _ (p : ℕ → ℕ → Bool) (n : ℕ) (upper : (i k : ℕ) → T (p i k) → i ≤ k) where
  abbrev S : Shape
  S = shape_of p n

  abbrev N : ℕ
  N = supernodes S

  -- ---- row starts

  starts_at : (K : ℕ) → K ≤ N → get_or S.starts K 0 ≡ length (joined (shapes.rows p n upper) K)
  unfolding shape_of
  starts_at K h = list_at (λ K. length (joined (shapes.rows p n upper) K)) (suc N) K 0 (omega arith)

  height_is : (K : ℕ) → K < N → height S K ≡ length (shapes.rows p n upper K)
  height_is K h = ap length (shapes.rows_are p n upper K (unfold shape_of in h))

  next_start : (K : ℕ) → K < N → get_or S.starts (suc K) 0 ≡ get_or S.starts K 0 + height S K
  next_start K h = omega (arith, starts_at K (omega arith), starts_at (suc K) h, start_suc 0 (shapes.rows p n upper) K, height_is K h)

  small : (K : ℕ) → K < N → height S K ≤ n
  small K h = omega (arith, height_is K h, select_length (λ i. fill p i (shapes.f p n upper K)) n, count_most p n (shapes.f p n upper K))

  parent_to : (K : ℕ) → K < N → parent_of S K ≤ N
  parent_to K h = unfold shape_of in rw (shapes.parent_is p n upper K h) (shapes.own_most p n upper (shapes.up_to p n upper K))

  -- ---- as areas hold them, from their start

  pub firsts_hold : (l d : List ℕ) → l ≡ (shape_of p n).firsts ++ d → Holds (first (shape_of p n)) (suc (supernodes (shape_of p n))) l
  firsts_hold l d e = holds_part S.firsts (suc N) l d (unfold shape_of in shapes.firsts_length p n upper) e

  pub starts_hold : (l d : List ℕ) → l ≡ (shape_of p n).starts ++ d → Holds (λ K. get_or (shape_of p n).starts K 0) (suc (supernodes (shape_of p n))) l
  starts_hold l d e = holds_part S.starts (suc N) l d (unfold shape_of in list_length _ (suc N)) e

  pub parents_hold : (l d : List ℕ) → l ≡ (shape_of p n).parents ++ d → Holds (parent_of (shape_of p n)) (supernodes (shape_of p n)) l
  parents_hold l d e = holds_part S.parents N l d (unfold shape_of in list_length _ N) e

  module _ (firsts starts parents : List ℕ) (f : Holds (first (shape_of p n)) (suc (supernodes (shape_of p n))) firsts) (r : Holds (λ K. get_or (shape_of p n).starts K 0) (suc (supernodes (shape_of p n))) starts) where
    f_at : (K : ℕ) → K ≤ N → get_or firsts K 0 ≡ first S K
    f_at K h = f.at K (let z : K < suc N = omega arith in z)

    r_at : (K : ℕ) → K ≤ N → get_or starts K 0 ≡ get_or S.starts K 0
    r_at K h = r.at K (let z : K < suc N = omega arith in z)

    pub sized : n ≤ 32768 → Sized (supernodes (shape_of p n)) firsts starts
    sized h = let b = shapes.shape_built p n upper in record {
      in_firsts = f.fits;
      in_starts = r.fits;
      last = omega (arith, f_at N (le_refl N), b.ends, ends);
      rise = λ K l. omega (arith, f_at K (omega arith), f_at (suc K) l, b.rise K l);
      rows = λ K l. omega (arith, f_at K (omega arith), f_at (suc K) l, r_at K (omega arith), r_at (suc K) l, next_start K l, b.tall K l);
      small = λ K l. omega (arith, r_at K (omega arith), r_at (suc K) l, next_start K l, small K l);
    }
      where
        ends : (shape_of p n).n ≡ n
        ends = unfold shape_of in refl

    module _ (u : Holds (parent_of (shape_of p n)) (supernodes (shape_of p n)) parents) where
      pub above : Above (supernodes (shape_of p n)) parents
      above = record {
        len = u.fits;
        rise = λ K l. omega (arith, u.at K l, (shapes.shape_built p n upper).up K l);
        to = λ K l. omega (arith, u.at K l, parent_to K l);
      }

      pub given : Given (shape_of p n) (supernodes (shape_of p n)) firsts starts parents
      given = record {
        tree = record { number = refl; are = u };
        widths = λ K l. omega (arith, f_at K (omega arith), f_at (suc K) l);
        heights = λ K l. omega (arith, r_at K (omega arith), r_at (suc K) l, next_start K l);
      }

-- of a well-formed matrix, with r for the number of supernodes
module _ (M : Matrix) (wf : WellFormed M) where
  u : (a b : ℕ) → T (factored (pattern M) M.n a b) → a ≤ b
  u = upper' (pattern M) M.n (upper M.n M.starts M.rows wf.columns)

  pub asked : (r : ℕ) → r ≡ supernodes (shape (pattern M) M.n) → (firsts a starts b parents c : List ℕ)
      → firsts ≡ (shape (pattern M) M.n).firsts ++ a → starts ≡ (shape (pattern M) M.n).starts ++ b → parents ≡ (shape (pattern M) M.n).parents ++ c
      → (Sized r firsts starts × Above r parents) × Given (shape (pattern M) M.n) r firsts starts parents
  asked r e firsts a starts b parents c e1 e2 e3 =
      let p = factored (pattern M) M.n in
      let f = firsts_hold p M.n u firsts a e1 in
      let g = starts_hold p M.n u starts b e2 in
      let h = parents_hold p M.n u parents c e3 in
      rw e ((sized p M.n u firsts starts parents f g wf.small, above p M.n u firsts starts parents f g h), given p M.n u firsts starts parents f g h)
