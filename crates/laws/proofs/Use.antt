-- Laws of use: what solve answers after each call. After an accepted, complete factor it accepts (Solvable, `accepted_solves`). Assumes nothing.
use mathlib.Core.Path.{◌≡◌, refl, sym, ap, ◌∙◌}
use mathlib.Core.Logic.{◌↔◌}
use mathlib.Core.Bool.{Bool, true, false, ◌&&◌}
use mathlib.Core.List.{List}
use mathlib.Core.Option.{Option, none, some}
use Prim.Native.Nat.{ℕ, zero, suc, ◌+◌, ◌≤◌, ◌<◌}
use native.Mathlib.Omega.{arith}
use lib.Dec.{T, leb, eqb, le→leb}
use lib.ListN.{length, get_or, replicate}
use lib.Seq.{get_or-take}
use lib.Ieee.{Float}
use borrow.Author.Tests.{lt-ltb}
use Rattle.statement.specs.Lists.{every}
use Rattle.statement.specs.Input.{Matrix, columns_limit, +0}
use Rattle.statement.specs.Record.{empty_record}
use Rattle.statement.specs.Shape.{supernodes, first, offset}
use Rattle.statement.specs.Answers.{test}
use Rattle.statement.specs.Areas.{Areas}
use Rattle.statement.specs.Calls.{analysis, record_of, cleared, settled, analyse, factor}
use Rattle.statement.specs.Solve.{FactorAreas, factored_in, shape_in, is_full, full_record, permutes, rising_columns, good_supernode, rising_rows, sized, viewable, solvable, Solved, solve_fault, settled_solve, solve}
use Rattle.statement.specs.declared.Answer.{Answer}
use Rattle.statement.specs.declared.Answer.TheVariants.{NoFactor}
use Rattle.statement.specs.declared.Order.{Order}
use Rattle.statement.specs.declared.Record.{Record}
use Rattle.statement.specs.declared.Stop.TheVariants.{After}
use Rattle.statement.specs.declared.Room.{Room}
use Rattle.laws.proofs.Bools.{and_both, and_intro, eqb_of}
use Rattle.laws.proofs.Checked.{viewed, columns_end, starts_end, rising_starts, rows_parts}

-- number 11: b as it was, scratch zero
abbrev pub no_factor : List Float → ℕ → ℕ → Solved
no_factor b words floats = record { answer = NoFactor; b = b; words = replicate words 0; floats = replicate floats +0 }

pub unsolvable : (R : Record) (f : FactorAreas) (k : ℕ) (b : List Float) (words floats : ℕ) → solvable R f ≡ false → solve R f k b words floats ≡ no_factor b words floats
unfolding solve solve_fault settled_solve test
unsolvable R f k b words floats h = rw h

-- ---- a record that is not full is refused, whatever the areas hold

module _ (f : FactorAreas) (k : ℕ) (b : List Float) (words floats : ℕ) where
  pub unfinished : (R : Record) → is_full R.state ≡ false → solve R f k b words floats ≡ no_factor b words floats
  unfolding solvable viewable full_record
  unfinished R h = unsolvable R f k b words floats (rw h)

  -- an empty record; what analyse returns; what factor returns after fewer steps than there are supernodes
  pub empty_refused : solve empty_record f k b words floats ≡ no_factor b words floats
  empty_refused = unfinished empty_record refl

  settled_refused : (r : Room) (o : Option Answer) (R : Record) (X : Areas) → is_full R.state ≡ false → solve (settled r o R X).returned.«record» f k b words floats ≡ no_factor b words floats
  unfolding settled
  settled_refused r none R X h = unfinished R h
  settled_refused r (some a) R X h = empty_refused

  pub analysed_refused : (M : Matrix) (cap : ℕ) (r : Room) → solve (analyse M cap r).returned.«record» f k b words floats ≡ no_factor b words floats
  unfolding analyse record_of
  analysed_refused M cap r = settled_refused _ _ _ _ refl

  pub partial_refused : (M : Matrix) (cap : ℕ) (o : Order) (l : List ℕ) (t : ℕ) (r : Room) → t < supernodes (analysis M).shape
      → solve (factor M cap o l (After t) r).returned.«record» f k b words floats ≡ no_factor b words floats
  unfolding factor record_of
  partial_refused M cap o l t r h = settled_refused _ _ _ _ (rw (lt-ltb t (supernodes (analysis M).shape) h))

-- ---- on cleared areas

zero_at : (a i : ℕ) → ◌≡◌ {A = ℕ} (get_or (replicate a 0) i 0) 0
zero_at zero i = refl
zero_at (suc a) zero = refl
zero_at (suc a) (suc i) = zero_at a i

every_none : (f : ℕ → Bool) (m : ℕ) → m ≡ 0 → T (every f m)
unfolding every
every_none f m e = rw e tt

-- a full record of no columns at all
pub record Nothing (R : Record) (f : FactorAreas) : Type 0 where
  pub full : T (is_full R.state)
  pub columns : R.n ≡ 0
  pub supernodes : R.supernodes ≡ 0
  pub rows : R.rows ≡ 0
  pub entries : R.entries ≡ 0
  pub firsts : 0 < length f.firsts
  pub starts : 0 < length f.starts

-- zeros in areas 2 and 3 are accepted for such a record, and for no other
module _ (R : Record) (f : FactorAreas) (u v : ℕ) (e : f.firsts ≡ replicate u 0) (k : f.starts ≡ replicate v 0) where
  first_zero : first (shape_in R f) R.supernodes ≡ 0
  unfolding shape_in
  first_zero = get_or-take (suc R.supernodes) f.firsts R.supernodes 0 (omega arith) ∙ ap (λ l. get_or l R.supernodes 0) e ∙ zero_at u R.supernodes

  start_zero : get_or (shape_in R f).starts R.supernodes 0 ≡ 0
  unfolding shape_in
  start_zero = get_or-take (suc R.supernodes) f.starts R.supernodes 0 (omega arith) ∙ ap (λ l. get_or l R.supernodes 0) k ∙ zero_at v R.supernodes

  nothing : T (solvable R f) → Nothing R f
  unfolding solvable viewable full_record
  nothing h =
      let S = shape_in R f in
      let a = (and_both (viewable R f) (permutes R.n f.permutation) h).0 in
      let w = viewed R f a in
      let b = and_both (full_record R f) (rising_columns R S && (rising_rows R S && sized R S)) a in
      let c = and_both (rising_columns R S) (rising_rows R S && sized R S) b.1 in
      let d = and_both (rising_rows R S) (sized R S) c.1 in
      let s = and_both (rising_starts R S.starts) (every (good_supernode S) R.supernodes) (rw (rows_parts R S) at d.0) in
      let n : R.n ≡ 0 = sym (columns_end R S c.0) ∙ first_zero in
      let m : R.supernodes ≡ 0 = omega (arith, w.few) in
      record {
        full = (and_both (is_full R.state) (leb R.n columns_limit) (and_both (is_full R.state && leb R.n columns_limit) _ b.0).0).0;
        columns = n;
        supernodes = m;
        rows = sym (starts_end R S.starts s.0) ∙ start_zero;
        entries = w.entries ∙ ap (offset S) m ∙ unfold offset in refl;
        firsts = omega (arith, w.roomy.firsts);
        starts = omega (arith, w.roomy.starts);
      }

  room : (m z : ℕ) → m ≤ z → T (leb m z)
  room m z h = le→leb m z h

  accepted : Nothing R f → T (solvable R f)
  unfolding solvable viewable full_record rising_columns rising_rows sized permutes
  accepted w =
      let S = shape_in R f in
      let n = w.columns in
      let m = w.supernodes in
      and_intro (full_record R f && (rising_columns R S && (rising_rows R S && sized R S))) (permutes R.n f.permutation)
      (and_intro (full_record R f) (rising_columns R S && (rising_rows R S && sized R S))
      (and_intro (is_full R.state && leb R.n columns_limit) _ (and_intro (is_full R.state) _ w.full (room R.n 32768 (omega arith)))
      (and_intro (leb R.n (length f.permutation) && leb (R.n + 1) (length f.firsts)) _
      (and_intro (leb R.n (length f.permutation)) _ (room R.n (length f.permutation) (omega arith)) (room (R.n + 1) (length f.firsts) (omega (arith, w.firsts))))
      (and_intro (leb (R.n + 1) (length f.starts)) _ (room (R.n + 1) (length f.starts) (omega (arith, w.starts)))
      (and_intro (leb R.rows (length f.rows)) _ (room R.rows (length f.rows) (omega (arith, w.rows))) (room R.entries (length f.values) (omega (arith, w.entries)))))))
      (and_intro (rising_columns R S) (rising_rows R S && sized R S)
      (and_intro (eqb (first S 0) 0) _ (eqb_of (ap (first S) (sym m) ∙ first_zero))
      (and_intro (eqb (first S R.supernodes) R.n) _ (eqb_of (first_zero ∙ sym n)) (every_none _ R.supernodes m)))
      (and_intro (rising_rows R S) (sized R S)
      (and_intro (eqb (get_or S.starts 0 0) 0 && eqb (get_or S.starts R.supernodes 0) R.rows) _
      (and_intro (eqb (get_or S.starts 0 0) 0) _ (eqb_of (ap (λ i. get_or S.starts i 0) (sym m) ∙ start_zero)) (eqb_of (start_zero ∙ sym w.rows)))
      (and_intro (every (λ K. leb (get_or S.starts K 0) (get_or S.starts (suc K) 0)) R.supernodes) _ (every_none _ R.supernodes m) (every_none (good_supernode S) R.supernodes m)))
      (eqb_of (w.entries ∙ sym (ap (offset S) m ∙ unfold offset in refl))))))
      (every_none _ R.n n)

  pub zeros_solvable : T (solvable R f) ↔ Nothing R f
  zeros_solvable = (nothing, accepted)

  -- so a record of any columns is refused, whatever the other areas hold
  pub zeros_refused : (k : ℕ) (b : List Float) (words floats : ℕ) → 0 < R.n → solve R f k b words floats ≡ no_factor b words floats
  zeros_refused k b words floats h = unsolvable R f k b words floats (go (solvable R f) refl)
    where
      go : (t : Bool) → solvable R f ≡ t → t ≡ false
      go true q = absurd (omega (arith, (nothing (rw q tt)).columns))
      go false q = refl

-- the areas as a refused analyse or factor leaves them (Exactly, `analyse_refused`, `factor_refused`)
pub cleared_refused : (R : Record) (r : Room) (k : ℕ) (b : List Float) (words floats : ℕ) → 0 < R.n → solve R (factored_in (cleared r)) k b words floats ≡ no_factor b words floats
unfolding factored_in cleared
cleared_refused R r k b words floats h = zeros_refused R (factored_in (cleared r)) r.firsts r.starts refl refl k b words floats h

pub cleared_solvable : (R : Record) (r : Room) → T (solvable R (factored_in (cleared r))) ↔ Nothing R (factored_in (cleared r))
unfolding factored_in cleared
cleared_solvable R r = zeros_solvable R (factored_in (cleared r)) r.firsts r.starts refl refl
