-- A number is given exactly when the table says so: analyse, factor and solve. Assumes nothing.
use mathlib.Core.Path.{◌≡◌, refl, sym, ap, ◌∙◌}
use mathlib.Core.Logic.Iff
use mathlib.Core.Logic.{◌≢◌, ◌↔◌}
use mathlib.Core.Bool.{Bool, true, false, cond, not}
use mathlib.Core.List.{List, [], ◌∷◌}
use mathlib.Core.Option.{Option, none, some}
use Prim.Native.Nat.{ℕ, suc, ◌*◌, ◌≤◌, ◌<◌}
use native.Mathlib.Omega.{arith}
use lib.Dec.{T, ltb}
use lib.ListN.{length}
use lib.Ieee.{Float}
use Rattle.statement.specs.Lists.{has}
use Rattle.statement.specs.Input.{Matrix, WellFormed, rows_length}
use Rattle.statement.specs.Postorder.{to_original}
use Rattle.statement.specs.Shape.{Shape, supernodes}
use Rattle.statement.specs.Run.{State, order_fault}
use Rattle.statement.specs.Answers.{number, test, or_else}
use Rattle.laws.specs.Answered.{answered}
use Rattle.statement.specs.Areas.{Areas, Need, needs, short}
use Rattle.statement.specs.Calls.{Analysis, analysis, entry_a, input_fault, settled, later, structure_room, analyse_fault, analyse, wrong_position, state_after, factor_needs, factor_later, factor_fault, factor}
use Rattle.statement.specs.Solve.{FactorAreas, shape_in, solvable, sides_limit, solutions, sides_fault, solve_fault, settled_solve, solve}
use Rattle.statement.specs.Demands.{Names}
use Rattle.laws.specs.Built.{Sound}
use Rattle.laws.specs.Given.{First, analyse_numbers, factor_numbers, solve_numbers, WrongAt, BadStart, BadRows, Held, SizesGiven, AnalyseGiven, factored, order, stop, ran, Fails, Housed, Ordered, FactorGiven, Met, scratch, Sided, SolveGiven}
use Rattle.laws.proofs.Listed.{order_given, least_fails, none_fails, order_exactly}
use Rattle.laws.proofs.Analysed.{shape_n, ok}
use Rattle.laws.proofs.Faults.{unequal, above, input}
use Rattle.laws.proofs.Exactly.{structure_never}
use Rattle.laws.proofs.Bools.{T_true, T_false, not_not_reads}
use Rattle.laws.proofs.Stages.{some_none, Stage, chain, renamed, testing, Answers, opening, after, number_has, test_answers, search_answers, short_answers, lowest, named_is, or_iff, reply, reply_accepted, reply_number, inside, has_inside}
use Rattle.statement.specs.declared.Original.{Original}
use Rattle.statement.specs.declared.Record.{Record}
use Rattle.statement.specs.declared.Order.{Order}
use Rattle.statement.specs.declared.Stop.{Stop}
use Rattle.statement.specs.declared.Room.{Room}
use Rattle.statement.specs.declared.Answer.{Answer}
use Rattle.statement.specs.declared.Answer.TheVariants.{Accepted, OverLimit, WrongLengths, WrongStarts, WrongColumn, ShortArea, OverCap, WrongOrder, WrongPivot, WrongSide, NoFactor, WrongStructure, ManySides}

-- number 8 as a test
position_given : (W : ℕ → Type 0) (f : Option ℕ) → ((p : ℕ) → (f ≡ some p) ↔ W p) → (x : Answer) → (wrong_position f ≡ some x) ↔ ((p : ℕ) × W p × (x ≡ WrongOrder p))
unfolding wrong_position
position_given W none w x = (λ e. absurd (some_none (sym e)), λ z. absurd (some_none (sym ((w z.0).1 z.1))))
position_given W (some p) w x = (λ e. (p, (w p).0 refl, cc), λ z. let e : some p ≡ some z.0 = (w z.0).1 z.1 in cc (e, z.2))

position_none : (f : Option ℕ) → (wrong_position f ≡ none) ↔ (f ≡ none)
unfolding wrong_position
position_none none = (λ _. refl, λ _. refl)
position_none (some p) = (λ e. absurd (some_none e), λ e. absurd (some_none e))

order_answers : (S : Shape) → Sound S → (l : List ℕ) (t : ℕ) → Answers (wrong_position (order_fault S l t)) (8 ∷ []) (λ x. (p : ℕ) × WrongAt S l t p × (x ≡ WrongOrder p)) (Names S l × (t ≤ supernodes S))
order_answers S ok l t = record {
  given = position_given (WrongAt S l t) (order_fault S l t) (order_given S ok.up l t);
  passed = Iff.trans (position_none (order_fault S l t)) (order_exactly S ok.up l t);
  numbers = λ x z. number_has (WrongOrder z.0) x z.2;
}

-- ---- numbers 5, 6 and 12, and what comes after

-- a test that cannot fail, and no test
never : {K : Type 0} (b : Bool) (a : Answer) → (K → b ≡ false) → Stage K (test b a none) [] K
unfolding test
never b a h = record {
  When = λ x. ⊥;
  given = λ x. (λ y. absurd (some_none (sym (rw (h y.0) at y.1))), λ z. absurd z);
  passed = (λ y. y.0, λ k. (k, rw (h k)));
  numbers = λ k x e. absurd (some_none (sym (rw (h k) at e)));
}

abbrev idle : {K : Type 0} (ns : List ℕ) → Stage K none ns K
idle ns = record {
  When = λ x. ⊥;
  given = λ x. (λ y. some_none (sym y.1), λ z. absurd z);
  passed = (λ y. y.0, λ k. (k, refl));
  numbers = λ k x e. absurd (some_none (sym e));
}

module _ (M : Matrix) (cap : ℕ) (early late : List Need) (g : Option Answer) where
  abbrev X : Analysis
  X = analysis M

  abbrev faults : Option Answer
  faults = or_else (input_fault M) (or_else (short early) (test (ltb cap X.entries) (OverCap X.entries cap) (or_else (short late) (test X.differs WrongStructure g))))

  unfoldable whole : {Q : Type 0} {ms : List ℕ} → Stage (Held M cap early late) g ms Q → Stage Unit faults (1 ∷ 2 ∷ 2 ∷ 3 ∷ 4 ∷ 5 ∷ 6 ∷ 5 ∷ ms) Q
  whole tail =
      chain (input M)
      (chain (after (λ _. short_answers early))
      (testing _ _ (after (λ _. above cap X.entries (OverCap X.entries cap)))
      (chain (after (λ _. short_answers late))
      (testing _ _ (never X.differs WrongStructure (λ h. structure_never M h.0.0.0)) tail))))

  module _ {Q : Type 0} (tail : Stage (Held M cap early late) g (8 ∷ 9 ∷ []) Q) (answer : Answer) (is : answer ≡ answered faults) where
    says : (x : Answer) → number x ≢ 0 → (answer ≡ x) ↔ (whole tail).When x
    says x ne = rw is (reply faults (whole tail) x ne)

    sizes_given : SizesGiven M cap early late answer
    unfolding whole input has
    sizes_given = record {
      input = record {
        over_limit = Iff.trans (says OverLimit (λ e. omega arith)) (λ h. h.0, λ h. (h, refl));
        wrong_lengths = λ x. Iff.trans (says (WrongLengths x) (λ e. omega arith)) (or_iff (Iff.and Iff.rfl (Iff.and Iff.rfl (lengths x 1))) (Iff.and Iff.rfl (Iff.and Iff.rfl (lengths x 2))));
        wrong_starts = λ p. Iff.trans (says (WrongStarts p) (λ e. omega arith)) (Iff.and Iff.rfl (named_is (First (BadStart M) (suc M.n)) (λ p. WrongStarts p) (λ j k e. cc) p));
        wrong_column = λ k. Iff.trans (says (WrongColumn k) (λ e. omega arith)) (Iff.and Iff.rfl (named_is (First (BadRows M) M.n) column_of column_is k.0));
      };
      short_area = λ a d. Iff.trans (says (ShortArea a d) (λ e. omega arith)) (or_iff (Iff.and Iff.rfl (lowest early a d)) (Iff.and Iff.rfl (lowest late a d)));
      over_cap = λ x c. Iff.trans (says (OverCap x c) (λ e. omega arith)) (Iff.and Iff.rfl (Iff.and Iff.rfl (λ e. (cc, cc), λ h. cc)));
    }
      where
        lengths : (x y : ℕ) → (WrongLengths x ≡ WrongLengths y) ↔ (x ≡ y)
        lengths x y = (λ e. cc, λ e. ap WrongLengths e)

        column_of : ℕ → Answer
        column_of k = WrongColumn (record { 0 = k })

        column_is : (i j : ℕ) → WrongColumn (record { 0 = i }) ≡ WrongColumn (record { 0 = j }) → i ≡ j
        column_is i j e = let z : ◌≡◌ {A = Original} (record { 0 = i }) (record { 0 = j }) = cc in ap (λ (k : Original). k.0) z

-- ---- the calls

settled_answer : (r : Room) (f : Option Answer) (R : Record) (X : Areas) → (settled r f R X).returned.answer ≡ answered f
unfolding settled answered
settled_answer r none R X = refl
settled_answer r (some a) R X = refl

others : {Q : Type 0} {ns : List ℕ} (f : Option Answer) → Stage Unit f ns Q → (ms : List ℕ) → T (inside (0 ∷ ns) ms) → has (number (answered f)) ms ≡ true
others {ns} f s ms t = T_true _ (has_inside (number (answered f)) (0 ∷ ns) ms t (reply_number f s))

pub analyse_passed : (M : Matrix) (cap : ℕ) (r : Room) → analyse_fault M cap r (analysis M) ≡ none → Held M cap (needs M.n (rows_length M) r) (later (analysis M) r)
unfolding analyse_fault
analyse_passed M cap r p = (whole M cap (needs M.n (rows_length M) r) (later (analysis M) r) none (idle [])).passed.0 (tt, p)

pub analyse_given : (M : Matrix) (cap : ℕ) (r : Room) → AnalyseGiven M cap r
unfolding analyse analyse_fault has inside
analyse_given M cap r =
    let early = needs M.n (rows_length M) r in
    let late = later (analysis M) r in
    let f = faults M cap early late none in
    let is : (analyse M cap r).returned.answer ≡ answered f = settled_answer (structure_room r) f _ _ in
    record {
      sizes = sizes_given M cap early late none (idle (8 ∷ 9 ∷ [])) (analyse M cap r).returned.answer is;
      accepted = rw is (reply_accepted f (whole M cap early late none (idle [])) tt);
      others = rw is (others f (whole M cap early late none (idle [])) analyse_numbers tt);
    }

found_n : (M : Matrix) → (analysis M).shape.n ≡ M.n
unfolding analysis
found_n M = shape_n M

found_sound : (M : Matrix) → WellFormed M → Sound (analysis M).shape
unfolding analysis
found_sound M w = ok M w

module _ (M : Matrix) (cap : ℕ) (o : Order) (l : List ℕ) (e : Stop) (r : Room) where
  abbrev S : Shape
  S = (analysis M).shape

  abbrev s : State
  s = ran M cap o l e r

  abbrev column_at : ℕ → Answer
  column_at c = WrongPivot (to_original (analysis M).permutation (record { 0 = c }))

  abbrev fails : ℕ → Type 0
  fails c = Fails M cap o l e r (record { 0 = c })

  abbrev rest : Option Answer
  rest = or_else (wrong_position (order_fault S (order M cap o l e r) (stop M cap o l e r))) (test (ltb s.least.0 M.n) (column_at s.least.0) none)

  unfoldable tail : Stage (Housed M cap o l e r) rest (8 ∷ 9 ∷ []) (Ordered M cap o l e r × ((c : ℕ) → c < M.n → fails c → ⊥))
  tail =
      chain (after (λ h. order_answers S (found_sound M h.0.0.0) (order M cap o l e r) (stop M cap o l e r)))
      (after (λ h. search_answers fails M.n s.least.0 (least h) (before h) column_at))
    where
      ok : Ordered M cap o l e r → Sound S
      ok h = found_sound M h.0.0.0.0

      least : Ordered M cap o l e r → s.least.0 < M.n → Fails M cap o l e r s.least
      least h u = unfold state_after in least_fails S (entry_a M (analysis M).permutation) (ok h) (order M cap o l e r) h.1.0 (stop M cap o l e r) h.1.1 (omega (arith, found_n M))

      before : Ordered M cap o l e r → (i : ℕ) → i < s.least.0 → i < M.n → fails i → ⊥
      before h i u _ = unfold state_after in none_fails S (entry_a M (analysis M).permutation) (ok h) (order M cap o l e r) h.1.0 (stop M cap o l e r) h.1.1 (record { 0 = i }) u

  pub factor_passed : factor_fault M cap o l (stop M cap o l e r) r (analysis M) s ≡ none → Ordered M cap o l e r
  unfolding factor_fault
  factor_passed p = ((whole M cap (factor_needs M r) (factor_later (analysis M) r) rest tail).passed.0 (tt, p)).0

  pub factor_none : factored M cap o l e r ≡ Accepted → factor_fault M cap o l (stop M cap o l e r) r (analysis M) s ≡ none
  unfolding factor factor_fault has
  factor_none a =
      let f = faults M cap (factor_needs M r) (factor_later (analysis M) r) rest in
      let w = whole M cap (factor_needs M r) (factor_later (analysis M) r) rest tail in
      (w.passed.1 ((reply_accepted f w tt).0 (sym (settled_answer r f _ _) ∙ a))).1

  pub factor_given : FactorGiven M cap o l e r
  unfolding factor factor_fault has inside whole tail
  factor_given =
      let early = factor_needs M r in
      let late = factor_later (analysis M) r in
      let f = faults M cap early late rest in
      let is : factored M cap o l e r ≡ answered f = settled_answer r f _ _ in
      let says = says M cap early late rest tail (factored M cap o l e r) is in
      let accepts : (factored M cap o l e r ≡ Accepted) ↔ (Ordered M cap o l e r × ((c : ℕ) → c < M.n → fails c → ⊥)) = rw is (reply_accepted f (whole M cap early late rest tail) tt) in
      record {
        sizes = sizes_given M cap early late rest tail (factored M cap o l e r) is;
        wrong_order = λ p. Iff.trans (says (WrongOrder p) (λ e. omega arith)) (Iff.and Iff.rfl (named_is (WrongAt S (order M cap o l e r) (stop M cap o l e r)) (λ p. WrongOrder p) (λ i j e. cc) p));
        wrong_pivot = λ k. Iff.trans (says (WrongPivot k) (λ e. omega arith)) (Iff.and Iff.rfl (λ z. (record { 0 = z.0 }, z.1, pivot k _ z.2), λ z. (z.0.0, z.1, ap WrongPivot z.2)));
        accepted = Iff.trans accepts (Iff.and Iff.rfl (λ z c. z c.0, λ z c. z (record { 0 = c })));
        others = rw is (others f (whole M cap early late rest tail) factor_numbers tt);
      }
    where
      pivot : (i j : Original) → WrongPivot i ≡ WrongPivot j → i ≡ j
      pivot i j e = cc

module _ (R : Record) (fa : FactorAreas) (k : ℕ) (b : List Float) (words floats : ℕ) where
  abbrev f : Option Answer
  f = solve_fault R fa k b words floats

  scratch_short : test (ltb words R.n) (ShortArea 7 R.n) (test (ltb floats R.n) (ShortArea 8 R.n) none) ≡ short (scratch R fa k b words floats)
  unfolding short
  scratch_short = ap (λ x. test (ltb words R.n) (ShortArea 7 R.n) x) (same (ltb floats R.n) (ShortArea 8 R.n) none) ∙ same (ltb words R.n) (ShortArea 7 R.n) _
    where
      same : (b : Bool) (a : Answer) (g : Option Answer) → test b a g ≡ cond b (some a) g
      same true a g = unfold test in refl
      same false a g = unfold test in refl

  unfoldable solving : Stage Unit f (11 ∷ 14 ∷ 10 ∷ 5 ∷ []) (Sided R fa k b words floats × Met (scratch R fa k b words floats))
  unfolding solve_fault sides_fault
  solving =
      testing _ _ (opening (test_answers (not (solvable R fa)) NoFactor (T_false (solvable R fa), λ e. rw e tt) (not_not_reads (solvable R fa) (T_true (solvable R fa), λ e. rw e tt))))
      (testing _ _ (after (λ _. above sides_limit k ManySides))
      (testing _ _ (after (λ _. unequal (length b) (R.n * k) (WrongSide (length b))))
      (renamed scratch_short (after (λ _. short_answers (scratch R fa k b words floats))))))

  solve_is : (solve R fa k b words floats).answer ≡ answered f
  unfolding solve settled_solve answered
  solve_is = go f
    where
      go : (f : Option Answer) → (settled_solve f b (solutions R.n fa.permutation (shape_in R fa) fa.values k b) words floats).answer ≡ answered f
      go none = refl
      go (some a) = refl

  pub solve_given : SolveGiven R fa k b words floats
  unfolding has inside solving
  solve_given =
      let says : (x : Answer) → number x ≢ 0 → ((solve R fa k b words floats).answer ≡ x) ↔ solving.When x = λ x ne. rw solve_is (reply f solving x ne) in
      record {
        no_factor = Iff.trans (says NoFactor (λ e. omega arith)) (λ h. h.0, λ h. (h, refl));
        many_sides = Iff.trans (says ManySides (λ e. omega arith)) (Iff.and Iff.rfl (λ h. h.0, λ h. (h, refl)));
        wrong_side = λ x. Iff.trans (says (WrongSide x) (λ e. omega arith)) (Iff.and Iff.rfl (Iff.and Iff.rfl (λ e. cc, λ e. ap WrongSide e)));
        short_area = λ a d. Iff.trans (says (ShortArea a d) (λ e. omega arith)) (Iff.and Iff.rfl (lowest (scratch R fa k b words floats) a d));
        accepted = rw solve_is (reply_accepted f solving tt);
        others = rw solve_is (others f solving solve_numbers tt);
      }
