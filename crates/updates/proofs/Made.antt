-- What the scan asks of a structure, and that the structure of a pattern has it. Assumes nothing.
use mathlib.Core.Path.{◌≡◌, refl, sym, ap, ◌∙◌}
use mathlib.Core.Bool.{Bool}
use mathlib.Core.List.{List, [], append-nil}
use Prim.Native.Nat.{ℕ, suc, ◌+◌, ◌≤◌, ◌<◌}
use native.Mathlib.Omega.{arith}
use native.Mathlib.Nat.{le_refl}
use lib.Dec.{T}
use lib.ListN.{length, get_or}
use Rattle.statement.specs.Lists.{joined}
use Rattle.statement.specs.Shape.{Shape, supernodes, first, height, rows_of}
use Rattle.statement.specs.Supernodes.{begins, owner, shape_of}
use Rattle.laws.specs.Built.{Built}
use Rattle.laws.proofs.Ranks.{list_at, joined_grows}
use Rattle.laws.proofs.Tally.{count_to}
use Rattle.laws.proofs.Shapes as Shapes
use Rattle.areas.specs.Buckets.{start}
use Rattle.areas.proofs.Buckets.{start_suc, joined_at}

-- J owns column r
pub record Owned (S : Shape) (r J : ℕ) : Type 0 where
  pub inside : J < supernodes S
  pub from : first S J ≤ r
  pub to : r < first S (suc J)

pub record Made (S : Shape) : Type 0 where
  pub built : Built S
  pub few : supernodes S ≤ S.n
  pub owned : (r : ℕ) → r < S.n → Owned S r (owner S.firsts r)
  pub next : (K : ℕ) → K < supernodes S → get_or S.starts (suc K) 0 ≡ get_or S.starts K 0 + height S K
  pub end : get_or S.starts (supernodes S) 0 ≡ length S.rows
  pub within : (K : ℕ) → K ≤ supernodes S → get_or S.starts K 0 ≤ length S.rows
  pub row_at_lem : (K x : ℕ) → K < supernodes S → x < height S K → get_or S.rows (get_or S.starts K 0 + x) 0 ≡ get_or (rows_of S K) x 0

module _ (p : ℕ → ℕ → Bool) (n : ℕ) (upper : (i k : ℕ) → T (p i k) → i ≤ k) where
  abbrev N : ℕ
  N = Shapes.N p n upper

  abbrev rows : ℕ → List ℕ
  rows = Shapes.rows p n upper

  start_at : (K : ℕ) → K ≤ N → get_or (shape_of p n).starts K 0 ≡ start rows K
  unfolding shape_of
  start_at K h = list_at (start rows) (suc N) K 0 (let z : K < suc N = omega arith in z)

  rows_all : (shape_of p n).rows ≡ joined rows N
  unfolding shape_of
  rows_all = refl

  pub made_of : Made (shape_of p n)
  unfolding shape_of
  made_of = record {
    built = Shapes.shape_built p n upper;
    few = omega (arith, Shapes.supernodes_are p n upper, count_to (begins p n) n);
    owned = λ r h. let k = Shapes.own_in p n upper r h in record { inside = k; from = Shapes.own_from p n upper r; to = Shapes.own_to p n upper r k };
    next = λ K h. start_at (suc K) h ∙ start_suc 0 rows K ∙ omega (arith, start_at K (omega arith), ap length (Shapes.rows_are p n upper K h));
    end = start_at N (le_refl N) ∙ ap length (sym rows_all);
    within = λ K h. omega (arith, start_at K h, joined_grows rows K N h, ap length rows_all);
    row_at_lem = λ K x h k.
        let l : x < length (rows K) = omega (arith, ap length (Shapes.rows_are p n upper K h)) in
        rw (start_at K (omega arith), rows_all, ← (append-nil (joined rows N))) (joined_at 0 rows N [] K x h l) ∙ ap (λ z. get_or z x 0) (sym (Shapes.rows_are p n upper K h));
  }
