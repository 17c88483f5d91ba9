-- Demand 2, of the calls. Assumes nothing.
use mathlib.Core.Path.{◌≡◌, refl, sym, ap, ◌∙◌}
use mathlib.Core.Logic.{◌⊎◌, inl, inr, ⊎_elim, ◌≢◌}
use mathlib.Core.Bool.{Bool, true, false, cond, ◌&&◌}
use mathlib.Core.List.{List, [], ◌∷◌}
use mathlib.Core.Option.{Option, none, some}
use Prim.Native.Nat.{ℕ, ◌+◌, ◌*◌, ◌≤◌, ◌<◌}
use native.Mathlib.Omega.{arith}
use lib.Dec.{T, ltb}
use lib.ListN.{length, replicate}
use borrow.Author.Tests.{lt-ltb}
use lib.Ieee.{Float, of_bits, round, span, climb, odd, units}
use lib.Ieee as ieee
use lib.Count.{count_trailing_zeros}
use Rattle.statement.specs.Input.{Matrix, WellFormed, rows_length, pattern, +0}
use Rattle.statement.specs.Fill.{entries}
use Rattle.statement.specs.Postorder.{permutation}
use Rattle.statement.specs.Shape.{Shape, supernodes, first, stretch}
use Rattle.statement.specs.Rules.{tolerance, entry}
use Rattle.statement.specs.Answers.{number, test, or_else}
use Rattle.statement.specs.Areas.{Need, needs, short, held}
use Rattle.statement.specs.Calls.{input_fault, analysis, settled, later, record_of, areas_of, structure_room, analyse_fault, analyse, Settled, factor_needs, factor_later, order_of, Factors}
use Rattle.statement.specs.Solve.{FactorAreas, factored_in, shape_in, permutes, viewable, solvable, values_in, solution, sides_limit, side_in, solutions, Solved, settled_solve, solve, view}
use Rattle.statement.specs.Demands.{Such, Names, Obeys}
use Rattle.statement.specs.declared.Answer.TheVariants.{Accepted, ShortArea}
use Rattle.statement.specs.declared.Original.{Original}
use Rattle.statement.specs.declared.Order.{Order}
use Rattle.statement.specs.declared.Record.{Record}
use Rattle.statement.specs.declared.Room.{Room}
use Rattle.statement.specs.declared.Stage.TheVariants.{Analysed, Full}
use Rattle.statement.specs.declared.Factored.{Factored}
use Rattle.statement.specs.declared.Answer.{Answer}
use Rattle.statement.specs.declared.Stop.{Stop}
use Rattle.laws.specs.Numbered.{factored, shape}
use Rattle.laws.proofs.Analysed as analysed
use Rattle.laws.proofs.Exactly.{solve_passes}
use Rattle.laws.proofs.Faults.{entries_fit}
use Rattle.laws.proofs.Finite.{fits_entry}
use Rattle.laws.proofs.RootFinite.{pivot_positive}
use Rattle.laws.proofs.RootNearest.{root_nearest}
use Rattle.laws.proofs.Bools.{and_both, T_true}
use Rattle.laws.proofs.Given.{factor_given}
use Rattle.laws.proofs.Solvable.{bare, accepted_solvable}
use Rattle.laws.proofs.Solvable as solvable
use Rattle.laws.proofs.Sides.{solutions_length, solutions_side}
use Rattle.laws.proofs.Stages.{short_passed}
use Rattle.laws.specs.Given.{Ordered}
use Rattle.promises.specs.Third.{X, S, A, Whole, Completed, Refused}
use Rattle.promises.specs.Second.{Rooted, EachSolved, Success, Structure, nearest_tolerance, DemandTwo, OnSuccess}
use Rattle.promises.proofs.Places.{places}
use Rattle.promises.proofs.Solution.{values_same, solution_is}
use Rattle.promises.proofs.Third.{third_kept}
use Rattle.promises.proofs.Structure.{filled, parents, postordered, supernodal}

-- ---- structure

pub structure : (M : Matrix) → WellFormed M → Structure M
unfolding analysis
structure M w =
    let p = factored (pattern M) M.n in
    record {
      own = filled (pattern M) M.n;
      tree = parents (pattern M) M.n;
      postorder = postordered (pattern M) M.n (analysed.up₀ M w);
      set = filled p M.n;
      tree' = parents p M.n;
      supernodes = supernodal p M.n (analysed.up M w);
      places = places M w;
    }

-- the constant 1e-10, by computing it
nearest : tolerance ≡ nearest_tolerance
unfolding tolerance of_bits round span climb odd units count_trailing_zeros ieee.size
nearest = refl

-- ---- what an accepted analyse leaves

-- a fault is no acceptance
abbrev Faulty : Option Answer → Type 0
Faulty none = Unit {0}
Faulty (some a) = a ≢ Accepted

numbered : (a : Answer) → number a ≢ 0 → a ≢ Accepted
numbered a h e = h (ap number e)

test_faulty : (b : Bool) (a : Answer) (f : Option Answer) → number a ≢ 0 → Faulty f → Faulty (test b a f)
unfolding test
test_faulty true a f h k = numbered a h
test_faulty false a f h k = k

else_faulty : (f g : Option Answer) → Faulty f → Faulty g → Faulty (or_else f g)
unfolding or_else
else_faulty none g h k = k
else_faulty (some a) g h k = h

short_faulty : (l : List Need) → Faulty (short l)
unfolding short
short_faulty [] = tt
short_faulty (x ∷ l) = go (ltb x.length x.need) (short_faulty l)
  where
    go : (b : Bool) → Faulty (short l) → Faulty (cond b (some (ShortArea x.area x.need)) (short l))
    go true h = numbered (ShortArea x.area x.need) (λ e. omega arith)
    go false h = h

input_faulty : (M : Matrix) → Faulty (input_fault M)
unfolding input_fault
input_faulty M =
    test_faulty _ _ _ (λ e. omega arith)
    (test_faulty _ _ _ (λ e. omega arith)
    (test_faulty _ _ _ (λ e. omega arith)
    (test_faulty _ _ _ (λ e. omega arith)
    (test_faulty _ _ none (λ e. omega arith) tt))))

analyse_faulty : (M : Matrix) (cap : ℕ) (r : Room) → Faulty (analyse_fault M cap r (analysis M))
unfolding analyse_fault
analyse_faulty M cap r =
    else_faulty (input_fault M) _ (input_faulty M)
    (else_faulty (short (needs M.n (rows_length M) r)) _ (short_faulty _)
    (test_faulty _ _ _ (λ e. omega arith)
    (else_faulty (short (later (analysis M) r)) _ (short_faulty _) (test_faulty _ _ none (λ e. omega arith) tt))))

analysed_areas : (M : Matrix) (cap : ℕ) (r : Room) → (analyse M cap r).returned.answer ≡ Accepted → ((analyse M cap r).returned.«record» ≡ record_of Analysed M (X M)) × ((analyse M cap r).areas ≡ areas_of (structure_room r) (X M) [])
unfolding analyse
analysed_areas M cap r e = go (analyse_fault M cap r (analysis M)) (analyse_faulty M cap r) e
  where
    go : (f : Option Answer) → Faulty f → (settled (structure_room r) f (record_of Analysed M (X M)) (areas_of (structure_room r) (X M) [])).returned.answer ≡ Accepted
        → ((settled (structure_room r) f (record_of Analysed M (X M)) (areas_of (structure_room r) (X M) [])).returned.«record» ≡ record_of Analysed M (X M)) × ((settled (structure_room r) f (record_of Analysed M (X M)) (areas_of (structure_room r) (X M) [])).areas ≡ areas_of (structure_room r) (X M) [])
    go none h e = unfold settled in (refl, refl)
    go (some a) h e = absurd (h (unfold settled in e))

-- ---- values

module _ (M : Matrix) (cap : ℕ) (r : Room) (such : Such M cap r) where
  rooted : (v : List Float) (K c : ℕ) → Obeys (S M) (A M) v K c → Rooted M v K c
  rooted v K c h = record {
    passed = h.pivot;
    diagonal = rw h.diagonal (root_nearest d (fits_entry (S M) (A M) (entries_fit M such.numbers (X M).permutation) v (stretch (S M) v K) K j c) (pivot_positive (A M j j) d h.pivot));
    below = λ i m k. rw h.diagonal (h.below i m k);
  }
    where
      j : ℕ
      j = first (S M) K + c

      d : Float
      d = entry (S M) (A M) v (stretch (S M) v K) K j c

-- ---- solving

module _ (M : Matrix) (cap : ℕ) (r : Room) (such : Such M cap r) (v : List Float) (filled : length v ≡ entries (pattern M) M.n) where
  abbrev Sh : Shape
  Sh = shape (pattern M) M.n

  abbrev R : Record
  R = record_of Full M (analysis M)

  abbrev f : FactorAreas
  f = factored_in (areas_of r (analysis M) v)

  back : shape_in R f ≡ bare Sh
  back = unfold solvable.R solvable.f in solvable.back M cap r such v filled

  solution_back : (b : List Float) → solution R.n f.permutation (shape_in R f) f.values b ≡ solution M.n (X M).permutation (S M) v b
  unfolding analysis record_of areas_of factored_in
  solution_back b = ap (λ z. solution M.n (held r.permutation 0 (permutation (pattern M) M.n)) z (held r.values +0 v) b) back ∙ solution_is M such.well r.permutation r.values v b filled

  columns : R.n ≡ M.n
  unfolding record_of
  columns = refl

  solved_by : (k : ℕ) (b : List Float) (words floats : ℕ) (y : Solved) → solvable R f ≡ true → k ≤ sides_limit → length b ≡ M.n * k → M.n ≤ words → M.n ≤ floats → y ≡ solve R f k b words floats → EachSolved M v k b words floats y
  unfolding solve settled_solve record_of
  solved_by k b words floats y s few e h l u = record {
    answer = ap (λ z. z.answer) q;
    long = ap (λ z. length z.b) q ∙ solutions_length M.n f.permutation (shape_in R f) f.values k b;
    each = λ j i. ap (λ z. side_in M.n z.b j) q ∙ solutions_side M.n f.permutation (shape_in R f) f.values k j b i ∙ solution_back (side_in M.n b j);
    seven = ap (λ z. z.words) q;
    eight = ap (λ z. z.floats) q;
  }
    where
      q : ◌≡◌ {A = Solved} y (record { answer = Accepted; b = solutions M.n f.permutation (shape_in R f) f.values k b; words = replicate words 0; floats = replicate floats +0 })
      q = u ∙ rw (solve_passes R f k b words floats s few e h l)

  -- the view of a column below n
  viewed_by : (q : Factored) → viewable R f ≡ true → q.0 < M.n → view R f q ≡ values_in (S M) v q.0
  unfolding view
  viewed_by q s h = rw (s, lt-ltb q.0 R.n (rw columns h)) (ap (λ z. values_in z f.values q.0) back ∙ part)
    where
      part : values_in (bare Sh) f.values q.0 ≡ values_in (S M) v q.0
      part = unfold analysis areas_of factored_in in values_same M such.well r.values v filled q.0 h

module _ (M : Matrix) (cap : ℕ) (r : Room) (such : Such M cap r) where
  -- an accepted factor that stops at the end
  success_of : (x : Settled) (v : List Float) → Completed M r x v → Success M r x
  success_of x v c = record {
    v = v;
    completed = c;
    rooted = λ K d h k. rooted M cap r such v K d (c.rules K d h k);
    solves = λ k b words floats y few q h l u. solved_by M cap r such v c.filled k b words floats y can few q h l (rw (c.summary, c.areas) at u);
    views = λ q y h u. u ∙ rw (c.summary, c.areas) (viewed_by M cap r such v c.filled q seen h);
  }
    where
      can : solvable (record_of Full M (analysis M)) (factored_in (areas_of r (analysis M) v)) ≡ true
      can = rw (c.summary, c.areas) at (accepted_solvable M cap r such x v (record { summary = c.summary; areas = c.areas; filled = c.filled }))

      seen : viewable (record_of Full M (analysis M)) (factored_in (areas_of r (analysis M) v)) ≡ true
      seen = T_true _ (and_both (viewable R' f') (permutes R'.n f'.permutation) both).0
        where
          R' : Record
          R' = record_of Full M (analysis M)

          f' : FactorAreas
          f' = factored_in (areas_of r (analysis M) v)

          both : T (viewable R' f' && permutes R'.n f'.permutation)
          both = unfold solvable in (rw can tt)

-- ---- the demand: for every well-formed matrix within the limits, cap and room enough, and whatever order is legal

factored_by : (M : Matrix) (cap : ℕ) (r : Room) → Such M cap r → (o : Order) (l : List ℕ) (e : Stop) (x : Settled) → Names (S M) (order_of (S M) o l) → Whole M e → Factors M cap o l e r x
    → Success M r x ⊎ ((k : Original) × Refused M r x k)
factored_by M cap r such o l e x m w f = ⊎_elim (λ z. inl (success_of M cap r such x z.0 z.1)) inr ((third_kept M cap r such o l m).either e x w f)

pub demand_two : DemandTwo
demand_two M w = record {
  structure = structure M w;
  analysed = λ cap r x h. rw h (analysed_areas M cap r);
  factored = factored_by M;
  near = nearest;
}

pub on_success : OnSuccess
on_success M cap o l e r x f w h a = ⊎_elim (λ z. z) (λ z. absurd (omega (arith, ap number (sym a ∙ z.1.answer)))) (factored_by M cap r such o l e x g.1.0 w h)
  where
    g : Ordered M cap o l e r
    g = ((factor_given M cap o l e r).accepted.0 (ap (λ s. s.returned.answer) (sym h) ∙ a)).0

    such : Such M cap r
    such = record { well = g.0.0.0.0; numbers = f; capped = unfold analysis in g.0.0.1; room = (short_passed (factor_needs M r)).1 g.0.0.0.1; more = (short_passed (factor_later (analysis M) r)).1 g.0.1 }
