-- The promise of factor, and the same room however the lengths were come by. Assumes nothing.
use mathlib.Core.Path.{◌≡◌, ap, ◌∙◌}
use mathlib.Core.List.{List}
use Prim.Native.Nat.{ℕ}
use lib.Ieee.{Float}
use Rattle.statement.specs.Input.{Matrix}
use Rattle.statement.specs.Calls.{factor, Factors}
use Rattle.statement.specs.declared.Order.{Order}
use Rattle.statement.specs.declared.Outcome.{Outcome}
use Rattle.statement.specs.declared.Room.{Room}
use Rattle.statement.specs.declared.Stop.{Stop}
use Rattle.statement.specs.declared.Update.{Update}
use Rattle.begin.specs.Begun.{lent_all}
use Rattle.finish.specs.Filled.{FactorSettles}

pub lent_same : {p f s g t o w x n u v p' f' s' g' t' o' w' x' n' u' v' : ℕ} → p ≡ p' → f ≡ f' → s ≡ s' → g ≡ g' → t ≡ t' → o ≡ o' → w ≡ w' → x ≡ x' → n ≡ n' → u ≡ u' → v ≡ v' → lent_all p f s g t o w x n u v ≡ lent_all p' f' s' g' t' o' w' x' n' u' v'
lent_same a b c d e f g h j k m = λ i. lent_all (a i) (b i) (c i) (d i) (e i) (f i) (g i) (h i) (j i) (k i) (m i)

module _ (M : Matrix) (cap : ℕ) (order : Order) (list : List ℕ) (e : Stop) {r r' : Room} (q : r ≡ r') where
  -- the promise, from what is settled part by part
  pub factors : {x : Outcome} {p f s g t o w : List ℕ} {y : List Float} {n : List ℕ} {u : List Update} {v : List Float} → FactorSettles (factor M cap order list e r) x p f s g t o w y n u v
      → Factors M cap order list e r' (record { returned = x; areas = record { permutation = p; firsts = f; starts = s; groups = g; tasks = t; top = o; words = w; floats = y; rows = n; updates = u; values = v } })
  factors h = (λ i. record {
    returned = h.plain.structure.out i;
    areas = record {
      permutation = h.plain.structure.one i;
      firsts = h.plain.structure.two i;
      starts = h.plain.structure.three i;
      groups = h.plain.structure.four i;
      tasks = h.plain.structure.five i;
      top = h.plain.structure.six i;
      words = h.plain.structure.seven i;
      floats = h.plain.eight i;
      rows = h.plain.structure.nine_holds i;
      updates = h.ten_holds i;
      values = h.plain.eleven i;
    };
  }) ∙ ap (factor M cap order list e) q
