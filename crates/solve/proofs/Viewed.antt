-- One column by its owner. Assumes nothing.
use mathlib.Core.Path.{◌≡◌, sym, ap, ap₂, ◌∙◌}
use mathlib.Core.Bool.{true, false}
use mathlib.Core.List.{List, []}
use Prim.Native.Nat.{ℕ, suc, ◌+◌, ◌-◌, ◌≤◌, ◌<◌}
use native.Mathlib.Omega.{arith}
use native.Mathlib.Decide.{dec_lt}
use native.Mathlib.Numerals.{add-one}
use lib.ListN.{length, get_or, take, drop, length-drop}
use lib.Seq.{drop-drop}
use lib.Ieee.{Float}
use lib.Dec.{leb, leb→le, nleb→lt}
use Rattle.std.specs.List.Sorted.{IsPartitionedBy, IsPartitionPoint}
use Rattle.laws.proofs.Bools.{rises}
use borrow.Author.Tests.{lt-ltb, le-leb}
use Rattle.statement.specs.Shape.{Shape, supernodes, first, height, rows_of, trapezoid, offset}
use Rattle.statement.specs.Solve.{FactorAreas, shape_in, viewable, rows_in, start_in, values_in, view}
use Rattle.statement.specs.declared.Factored.{Factored}
use Rattle.statement.specs.declared.Record.{Record}
use Rattle.panel.specs.View.{column_of, Within}
use Rattle.laws.specs.Lent.{laid, Walkable}
use Rattle.laws.proofs.Checked.{Viewed, viewed}
use Rattle.laws.proofs.Columns.{owner_of_lem}
use Rattle.laws.proofs.Entry.{trap_suc, trap_mono}
use Rattle.laws.proofs.Stretches.{offset_mono}
use Rattle.laws.proofs.Taken.{true_T}
use Rattle.laws.proofs.Walked.{Whole, whole}
use Rattle.areas.proofs.Lists.{get_d_any}
use Rattle.areas.proofs.Tail.{tail_lent, tail_length}
use Rattle.solve.specs.Found.{Owned}

-- first columns up to q come before those past it
pub parted : (F : List ℕ) (q : ℕ) → ((K : ℕ) → K < length F - 1 → get_or F K 0 < get_or F (suc K) 0) → IsPartitionedBy (λ f. leb f q) F
parted F q rise i j d a b t =
    let u : get_or F i 0 ≤ get_or F j 0 = rises (λ K. get_or F K 0) (length F - 1) (λ K l. omega (arith, rise K l)) i j a (omega arith) in
    le-leb _ _ (omega (arith, leb→le (get_or F j d) q (true_T t), get_d_any F i d 0 (omega arith), get_d_any F j d 0 b))

pub owner_is : (F : List ℕ) (k q : ℕ) → ((K : ℕ) → K < length F - 1 → get_or F K 0 < get_or F (suc K) 0) → k < length F - 1 → get_or F k 0 ≤ q → q < get_or F (k + 1) 0 → Owned F q k
owner_is F k q rise h lo hi =
    let z = rw (add-one k) at hi in
    record { is = sym (owner_of_lem (laid 0 F [] []) rise k q h lo z); inside = h; from = lo; to = z }

-- r of them are up to q
module _ (F : List ℕ) (q r : ℕ) (rise : (K : ℕ) → K < length F - 1 → get_or F K 0 < get_or F (suc K) 0) (from : get_or F 0 0 ≤ q) (to : q < get_or F (length F - 1) 0)
    (p : IsPartitionPoint (λ y. leb y q ≡ true) (λ y. leb y q ≡ false) F r) where
  low : (k : ℕ) → k < r → get_or F k 0 ≤ q
  low k h = leb→le (get_or F k 0) q (true_T (p.0 k 0 (omega arith) h))

  high : (k : ℕ) → r ≤ k → k < length F → q < get_or F k 0
  high k a h = nleb→lt (get_or F k 0) q (rw (p.1 k 0 a h) tt)

  some : 0 < length F - 1
  some = go (dec_lt 0 (length F - 1))
    where
      go : Dec (0 < length F - 1) → 0 < length F - 1
      go (yes l) = l
      go (no l) = absurd (let e : length F - 1 ≡ 0 = omega arith in omega (arith, ap (λ i. get_or F i 0) e))

  pub owner_some : 1 ≤ r
  owner_some = go (dec_lt 0 r)
    where
      go : Dec (0 < r) → 1 ≤ r
      go (yes l) = l
      go (no l) = absurd (omega (arith, high 0 (omega arith) (omega (arith, some))))

  ends : r ≤ length F - 1
  ends = go (dec_lt (length F - 1) r)
    where
      go : Dec (length F - 1 < r) → r ≤ length F - 1
      go (yes l) = absurd (omega (arith, low (length F - 1) l))
      go (no l) = omega arith

  pub owner_at : Owned F q (r - 1)
  owner_at =
      let e : r - 1 + 1 ≡ r = omega (arith, owner_some) in
      let h : q < get_or F r 0 = high r (omega arith) (omega (arith, ends, some)) in
      owner_is F (r - 1) q rise (omega (arith, owner_some, ends, some)) (low (r - 1) (omega (arith, owner_some))) (rw e h)

module _ (S : Shape) (walk : Walkable S) (q k : ℕ) (o : Owned S.firsts q k) where
  abbrev tall : ℕ
  tall = get_or S.starts (k + 1) 0 - get_or S.starts k 0

  abbrev at : ℕ
  at = q - first S k

  u : Whole S k
  u = whole S walk k o.inside

  past : q < first S (k + 1)
  past = rw add-one o.to

  at_in : at < tall
  at_in = omega (arith, past, o.from, u.wide)

  pub part_in : offset S k + trapezoid tall at + (tall - at) ≤ offset S (supernodes S)
  part_in = omega (
    arith,
    u.node.next,
    trap_suc tall at,
    trap_mono tall (suc at) (first S (k + 1) - first S k) (omega (arith, past, o.from)),
    offset_mono S (supernodes S) (k + 1) (omega (arith, o.inside)),
  )

  rows_long : length (rows_in S q) ≡ tall - at
  unfolding rows_in
  rows_long = ap (λ K. length (drop (q - first S K) (rows_of S K))) (sym o.is) ∙ length-drop at (rows_of S k) ∙ ap (λ m. m - at) u.node.tall

  starts_at : start_in S q ≡ offset S k + trapezoid tall at
  unfolding start_in
  starts_at = ap (λ K. offset S K + trapezoid (height S K) (q - first S K)) (sym o.is) ∙ ap (λ m. offset S k + trapezoid m at) u.node.tall

  -- its panel: the values from s to the end
  module _ (v : List Float) (s : ℕ) (e : s ≡ offset S k) where
    pub part_within : offset S (supernodes S) ≤ length v → S.n ≤ 32768 → Within tall (take (length v - s) (drop s v)) at
    part_within room few = record { inside = at_in; few = omega (arith, u.few); room = omega (arith, part_in, tail_length s v (omega (arith, part_in))) }

    pub part_is : column_of tall (take (length v - s) (drop s v)) at ≡ values_in S v q
    unfolding values_in
    part_is =
        ap (λ l. column_of tall l at) (tail_lent s v)
        ∙ ap (take (tall - at)) (drop-drop (trapezoid tall at) s v)
        ∙ ap₂ (λ a b. take a (drop b v)) (sym rows_long) (ap (λ z. z + trapezoid tall at) e ∙ sym starts_at)

-- over the parts that the record's counts cut out
module _ (R : Record) (f : FactorAreas) (h : viewable R f ≡ true) where
  pub seen : Viewed R f
  seen = viewed R f (true_T h)

  pub seen_room : (S : Shape) → S ≡ shape_in R f → offset S (supernodes S) ≤ length f.values
  seen_room S e =
      let z : supernodes S ≡ R.supernodes = omega (arith, seen.fitted.firsts, ap supernodes e) in
      omega (arith, seen.roomy.values, seen.entries, ap₂ offset e z)

  pub seen_view : (q : Factored) (r : List Float) → q.0 < R.n → r ≡ values_in (shape_in R f) f.values q.0 → r ≡ view R f q
  unfolding view
  seen_view q r l e = rw (h, lt-ltb q.0 R.n l) e
