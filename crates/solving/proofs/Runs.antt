-- Rows that follow each other: how they are told, and the rules over them. Assumes nothing.
use mathlib.Core.Path.{◌≡◌, sym, ap, ap₂, ◌∙◌}
use mathlib.Core.Bool.{true}
use mathlib.Core.List.{List}
use Prim.Native.Nat.{ℕ, zero, suc, ◌+◌, ◌-◌, ◌≤◌, ◌<◌}
use native.Mathlib.Omega.{arith}
use lib.Dec.{T, eqb, eqb→eq}
use lib.ListN.{length, get_or, set, take, drop, length-drop}
use lib.Seq.{get_or-drop, ext_get_or}
use lib.Ieee.{Float, nan, binary64, sub, mul}
use borrow.Author.Tests.{eq-eqb}
use Rattle.statement.specs.Lists.{rising}
use Rattle.statement.specs.Solve.{less_below, less_above}
use Rattle.laws.proofs.Bools.{same, eqb_of}
use Rattle.laws.proofs.Demand.{length_rising}
use Rattle.laws.proofs.Every.{every_all, every_at}
use Rattle.laws.proofs.Taken.{true_T}
use Rattle.areas.proofs.Climb.{reach, run}
use Rattle.areas.proofs.Tail.{tail_lent}
use Rattle.solving.specs.Walk.{Rising, is_run, Column}
use Rattle.solving.proofs.Rules.{rest_long, below_more, above_more}

pub rising_at : (a k i : ℕ) → i < k → get_or (rising a k) i 0 ≡ a + i
unfolding rising
rising_at a zero i h = absurd (omega arith)
rising_at a (suc k) zero h = omega arith
rising_at a (suc k) (suc i) h = omega (arith, rising_at (suc a) k i (omega arith))

module _ (rows : List ℕ) (q : ℕ) where
  module _ (h : Rising rows q) where
    abbrev row : ℕ → ℕ
    row i = get_or rows i 0

    pub last_after : q ≤ get_or rows (length rows - 1) 0
    last_after = omega (arith, h.from, h.some, reach row (length rows) h.rise (length rows - 1) (omega (arith, h.some)))

    -- the last row tells
    pub run_told : eqb (get_or rows (length rows - 1) 0 - q) (length rows - 1) ≡ is_run rows q
    run_told = same (eqb (row (length rows - 1) - q) (length rows - 1)) (is_run rows q) all last
      where
        all : T (eqb (row (length rows - 1) - q) (length rows - 1)) → T (is_run rows q)
        all t =
            let e : row (length rows - 1) - row 0 ≡ length rows - 1 = ap (λ z. row (length rows - 1) - z) h.from ∙ eqb→eq (row (length rows - 1) - q) (length rows - 1) t in
            true_T (every_all (λ i. eqb (row i) (q + i)) (length rows) (λ i l. eq-eqb (row i) (q + i) (omega (arith, h.from, run row (length rows) h.rise e i l))))

        last : T (is_run rows q) → T (eqb (row (length rows - 1) - q) (length rows - 1))
        last t = eqb_of {m = row (length rows - 1) - q} {n = length rows - 1} (omega (arith, eqb→eq (row (length rows - 1)) (q + (length rows - 1)) (every_at (λ i. eqb (row i) (q + i)) (length rows) t (length rows - 1) (omega (arith, h.some)))))

  module _ (h : is_run rows q ≡ true) where
    pub run_at : (i : ℕ) → i < length rows → get_or rows i 0 ≡ q + i
    run_at i l = eqb→eq (get_or rows i 0) (q + i) (every_at (λ i. eqb (get_or rows i 0) (q + i)) (length rows) (true_T h) i l)

    -- the rows from place k on
    pub run_from : (k m : ℕ) → m ≡ length rows - k → rising (q + k) m ≡ drop k rows
    run_from k m e =
        sym (ext_get_or 0 (drop k rows) (rising (q + k) m) (length-drop k rows ∙ sym (length_rising (q + k) m ∙ e))
        (λ i l. get_or-drop k rows i 0 ∙ (let z : get_or rows (k + i) 0 ≡ q + k + i = omega (arith, run_at (k + i) (omega (arith, length-drop k rows))) in z) ∙ sym (rising_at (q + k) m i (omega (arith, length-drop k rows)))))

-- column q's rows and values below the first, as they are lent, by rows and as a run; g is a rule
module _ {X : Type 0} {rows : List ℕ} {values : List Float} {q n : ℕ} (k : Column rows values q n) (g : List ℕ → List Float → X) where
  abbrev lent : List Float
  lent = take (length values - 1) (drop 1 values)

  pub by_rows : {z : X} → z ≡ g (take (length rows - 1) (drop 1 rows)) lent → z ≡ g (drop 1 rows) (drop 1 values)
  by_rows e = e ∙ ap₂ g (tail_lent 1 rows) (tail_lent 1 values)

  pub as_run : {z : X} → is_run rows q ≡ true → z ≡ g (rising (q + 1) (length lent)) lent → z ≡ g (drop 1 rows) (drop 1 values)
  as_run h e = e ∙ ap₂ g (run_from rows q h 1 (length lent) (omega (arith, rest_long 1 values, k.long))) (tail_lent 1 values)

-- they are as many, and stay below n
module _ {rows : List ℕ} {values : List Float} {q n : ℕ} (k : Column rows values q n) where
  pub as_many : length (take (length rows - 1) (drop 1 rows)) ≡ length (take (length values - 1) (drop 1 values))
  as_many = rest_long 1 rows ∙ ap (λ z. z - 1) k.long ∙ sym (rest_long 1 values)

  pub below_low : (i : ℕ) → i < length (take (length rows - 1) (drop 1 rows)) → get_or (take (length rows - 1) (drop 1 rows)) i 0 < n
  below_low i l = rw (tail_lent 1 rows, get_or-drop 1 rows i 0) (k.low (1 + i) (omega (arith, rest_long 1 rows)))

  pub run_in : is_run rows q ≡ true → q + 1 + length (take (length values - 1) (drop 1 values)) ≤ n
  run_in h = omega (arith, rest_long 1 values, k.long, k.rising.some, run_at rows q h (length rows - 1) (omega (arith, k.rising.some)), k.low (length rows - 1) (omega (arith, k.rising.some)))

-- one row more of each rule
module _ (at : ℕ) (values : List Float) (i : ℕ) (h : i < length values) where
  abbrev places : List ℕ
  places = rising at (length values)

  long : length places ≡ length values
  long = length_rising at (length values)

  here : get_or places i 0 ≡ at + i
  here = rising_at at (length values) i h

  pub run_below_more : (x : List Float) (y : Float) → at + length values ≤ length x → less_below x y (drop i places) (drop i values)
      ≡ less_below (set x (at + i) (sub binary64 (get_or x (at + i) nan) (mul binary64 (get_or values i nan) y))) y (drop (i + 1) places) (drop (i + 1) values)
  run_below_more x y l = rw here at (below_more places values i (omega (arith, long)) long x y (omega (arith, here)))

  pub run_above_more : (x : List Float) (t : Float) → at + length values ≤ length x → less_above t x (drop i places) (drop i values)
      ≡ less_above (sub binary64 t (mul binary64 (get_or values i nan) (get_or x (at + i) nan))) x (drop (i + 1) places) (drop (i + 1) values)
  run_above_more x t l = rw here at (above_more places values i (omega (arith, long)) long x t (omega (arith, here)))
