-- One supernode as a walk of the lent lists meets it: places k and k + 1. Assumes nothing.
use mathlib.Core.Path.{◌≡◌, refl, ap, ◌∙◌}
use mathlib.Core.List.{List, [], ◌∷◌}
use Prim.Native.Nat.{ℕ, zero, suc, ◌+◌, ◌-◌, ◌≤◌, ◌<◌}
use native.Mathlib.Omega.{arith}
use native.Mathlib.Nat.{le_refl, sub-zero, suc-sub-suc, zero-sub}
use native.Mathlib.Numerals.{add-one}
use lib.ListN.{length, get_or, take, drop}
use lib.Seq.{slice, take-nil, length-slice}
use Rattle.statement.specs.Shape.{Shape, supernodes, first, width, height, rows_of, trapezoid, size, offset}
use Rattle.laws.specs.Lent.{Framed, Walkable}
use Rattle.laws.proofs.Checked.{climbs}

-- a part lent by its start and its length
pub part_slice : {A : Type 0} (a e : ℕ) (l : List A) → take (e - a) (drop a l) ≡ slice a e l
part_slice zero e l = ap (λ x. take x l) (sub-zero e)
part_slice (suc a) zero l = ap (λ x. take x (drop (suc a) l)) (zero-sub (suc a))
part_slice (suc a) (suc e) [] = take-nil (suc e - suc a)
part_slice (suc a) (suc e) (x ∷ l) = ap (λ z. take z (drop a l)) (suc-sub-suc e a) ∙ part_slice a e l

offset_next : (S : Shape) (k : ℕ) → offset S (suc k) ≡ offset S k + trapezoid (height S k) (width S k)
unfolding offset size
offset_next S k = refl

pub record Node (S : Shape) (k : ℕ) : Type 0 where
  pub right : first S k < first S (k + 1)
  pub cols : first S (k + 1) ≤ S.n
  pub down : get_or S.starts k 0 ≤ get_or S.starts (k + 1) 0
  pub inside : get_or S.starts (k + 1) 0 ≤ length S.rows
  pub tall : height S k ≡ get_or S.starts (k + 1) 0 - get_or S.starts k 0
  pub part : take (get_or S.starts (k + 1) 0 - get_or S.starts k 0) (drop (get_or S.starts k 0) S.rows) ≡ rows_of S k
  pub next : offset S (k + 1) ≡ offset S k + trapezoid (get_or S.starts (k + 1) 0 - get_or S.starts k 0) (first S (k + 1) - first S k)

pub node : (S : Shape) → Framed S → (k : ℕ) → k < supernodes S → Node S k
unfolding rows_of
node S f k h =
    let up : first S (suc k) ≤ first S (supernodes S) = climbs (first S) (supernodes S) (λ i l. omega (arith, f.rise i l)) (suc k) (supernodes S) h (le_refl _) in
    let t : height S k ≡ get_or S.starts (suc k) 0 - get_or S.starts k 0 = length-slice (get_or S.starts k 0) (get_or S.starts (suc k) 0) S.rows (f.inside k h) in
    record {
      right = rw (add-one k) (f.rise k h);
      cols = rw (add-one k) (omega (arith, f.ends));
      down = rw (add-one k) (f.down k h);
      inside = rw (add-one k) (f.inside k h);
      tall = rw (add-one k) t;
      part = rw (add-one k) (part_slice (get_or S.starts k 0) (get_or S.starts (suc k) 0) S.rows);
      next = rw (add-one k) (offset_next S k ∙ ap (λ m. offset S k + trapezoid m (width S k)) t);
    }

pub record Whole (S : Shape) (k : ℕ) : Type 0 where
  pub node : Node S k
  pub wide : first S (k + 1) - first S k ≤ get_or S.starts (k + 1) 0 - get_or S.starts k 0
  pub few : get_or S.starts (k + 1) 0 - get_or S.starts k 0 ≤ S.n
  pub low : (p : ℕ) → p < height S k → get_or (rows_of S k) p 0 < S.n

pub whole : (S : Shape) → Walkable S → (k : ℕ) → k < supernodes S → Whole S k
whole S w k h =
    let d = node S w.framed k h in
    record {
      node = d;
      wide = omega (arith, d.tall, rw (← add-one k) at (w.tall k h));
      few = omega (arith, d.tall, w.few k h);
      low = λ p l. w.below k p h l;
    }
