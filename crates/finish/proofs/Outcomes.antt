-- From where the run ended to what the statement says of factor. Assumes nothing.
use mathlib.Core.Path.{◌≡◌, refl, sym, ap, ◌∙◌}
use mathlib.Core.Bool.{Bool, true, false, cond}
use mathlib.Core.List.{List}
use mathlib.Core.Option.{Option, none, some}
use Prim.Native.Nat.{ℕ, zero, suc, ◌-◌, ◌≤◌, ◌<◌}
use native.Mathlib.Omega.{arith}
use lib.Dec.{ltb}
use lib.ListN.{length, get_or, replicate, length-append, get_or-append}
use lib.Ieee.{Float}
use borrow.Author.Tests.{ltb-true}
use Rattle.laws.specs.Numbered.{shape_for}
use Rattle.laws.proofs.Analysed.{length_q}
use Rattle.statement.specs.Input.{Matrix, pattern}
use Rattle.statement.specs.Postorder.{to_original}
use Rattle.statement.specs.Postorder as postorder
use Rattle.statement.specs.Lists.{joined}
use Rattle.statement.specs.Shape.{Shape, supernodes}
use Rattle.statement.specs.Supernodes.{updates}
use Rattle.statement.specs.Tasks.{split_of}
use Rattle.statement.specs.Answers.{test, or_else}
use Rattle.laws.specs.Answered.{passed}
use Rattle.laws.proofs.Passed.{passed_none, passed_some, or_none, or_some}
use Rattle.std.specs.Prelude.{Ok, Err}
use Rattle.statement.specs.Record.{empty_record}
use Rattle.statement.specs.Areas.{Areas, short, held, flat, no_update}
use Rattle.statement.specs.Calls.{input_fault, analysis, settled, record_of, areas_of, cleared, stop_of, factor_needs, factor_fault, factor}
use Rattle.statement.specs.declared.Answer.{Answer}
use Rattle.statement.specs.declared.Answer.TheVariants.{Accepted, WrongPivot}
use Rattle.statement.specs.declared.Factored.{Factored}
use Rattle.statement.specs.declared.Order.{Order}
use Rattle.statement.specs.declared.Outcome.{Outcome}
use Rattle.statement.specs.declared.Record.{Record}
use Rattle.statement.specs.declared.Room.{Room}
use Rattle.statement.specs.declared.Stage.{Stage}
use Rattle.statement.specs.declared.Stage.TheVariants.{Partial, Full}
use Rattle.statement.specs.declared.Stop.{Stop}
use Rattle.statement.specs.declared.Update.{Update}
use Rattle.updates.specs.Laying.{LaidOut}
use Rattle.tasks.specs.Given.{Parts}
use Rattle.measure.specs.Sized.{measure_fault}
use Rattle.clearing.specs.Zeroed.{Zeroed}
use Rattle.survey.specs.Laid.{structure_fault, Laid}
use Rattle.survey.specs.declared.Findings.{Findings}
use Rattle.survey.proofs.Clearing.{Lengths, blank_of}
use Rattle.survey.proofs.Reading.{held_is}
use Rattle.survey.proofs.Settling.{refused_out, refused_areas}
use Rattle.begin.specs.Begun.{begin_fault, zero_floats}
use Rattle.begin.specs.Ordered.{order_test}
use Rattle.finish.specs.Filled.{ran, pivot_test, fault_of, Over, FactorSettlesPlain}

-- ---- the tests

-- all in one run, or the last two after those of the structure
in_one_run : (f g : Option Answer) (b : Bool) (x : Answer) (h : Option Answer) (d : Bool) (y : Answer) (w rest : Option Answer) → or_else (or_else (or_else (or_else f (or_else g (test b x none))) (or_else h (test d y none))) w) rest ≡ or_else f (or_else g (test b x (or_else h (test d y (or_else w rest)))))
unfolding or_else test
in_one_run (some a) g b x h d y w rest = refl
in_one_run none (some a) b x h d y w rest = refl
in_one_run none none true x h d y w rest = refl
in_one_run none none false x (some a) d y w rest = refl
in_one_run none none false x none true y w rest = refl
in_one_run none none false x none false y w rest = refl

-- the permutation's area begins with it
module _ (M : Matrix) (m : ℕ) {permutation : List ℕ} (e : permutation ≡ held m 0 (postorder.permutation (pattern M) M.n)) where
  column : (c : ℕ) → c < M.n → get_or permutation c 0 ≡ get_or (postorder.permutation (pattern M) M.n) c 0
  column c h = ap (λ x. get_or x c 0) (held_is m (postorder.permutation (pattern M) M.n) e) ∙ get_or-append (postorder.permutation (pattern M) M.n) _ 0 c (omega (arith, length_q M))

  -- so that the test names the same column by either
  same_named : (c : Factored) (b : Bool) → ltb c.0 M.n ≡ b → test b (WrongPivot (to_original permutation c)) none ≡ test b (WrongPivot (to_original (postorder.permutation (pattern M) M.n) c)) none
  unfolding test
  same_named c true h = ap (λ k. some (WrongPivot (record { 0 = k }))) (column c.0 (ltb-true c.0 M.n h))
  same_named c false h = refl

  pub columns_there : M.n ≤ length permutation
  columns_there = omega (arith, ap length (held_is m (postorder.permutation (pattern M) M.n) e), length-append (postorder.permutation (pattern M) M.n) (replicate (m - length (postorder.permutation (pattern M) M.n)) 0), length_q M)

module _ (M : Matrix) (cap : ℕ) (o : Order) (l : List ℕ) (e : Stop) (r : Room) where
  same_fault : or_else (begin_fault M cap o l e r) (pivot_test M o l e) ≡ fault_of M cap o l e r
  unfolding begin_fault structure_fault measure_fault order_test pivot_test factor_fault analysis
  same_fault = in_one_run (input_fault M) (short (factor_needs M r)) _ _ _ _ _ _ _

  pub refused_before : {a : Answer} → begin_fault M cap o l e r ≡ some a → fault_of M cap o l e r ≡ some a
  refused_before q = sym same_fault ∙ or_some (begin_fault M cap o l e r) _ q

  -- once the structure stands and the order is legal, the pivots decide
  module _ {x : Findings} {permutation firsts starts groups tasks words nine : List ℕ} (d : Laid M cap r x permutation firsts starts groups tasks words nine) (legal : order_test M o l e ≡ none) (least : Factored) (low : least ≡ (ran M o l e).least) where
    begun : begin_fault M cap o l e r ≡ none
    unfolding begin_fault
    begun = or_none (structure_fault M cap r) (order_test M o l e) d.calm ∙ legal

    pivots : test (ltb least.0 M.n) (WrongPivot (to_original permutation least)) none ≡ fault_of M cap o l e r
    unfolding pivot_test analysis
    pivots = same_named M r.permutation d.one least (ltb least.0 M.n) refl ∙ rw low (sym (or_none (begin_fault M cap o l e r) (pivot_test M o l e) begun) ∙ same_fault)

    pub refused_pivot : {a : Answer} → Err a ≡ passed (test (ltb least.0 M.n) (WrongPivot (to_original permutation least)) none) → fault_of M cap o l e r ≡ some a
    refused_pivot q = sym pivots ∙ passed_some _ q

    pub passed_pivot : {u : Unit {0}} → Ok u ≡ passed (test (ltb least.0 M.n) (WrongPivot (to_original permutation least)) none) → fault_of M cap o l e r ≡ none
    passed_pivot q = sym pivots ∙ passed_none _ q

  -- ---- a refusal: the areas are cleared once more

  module _ {a : Answer} (c : fault_of M cap o l e r ≡ some a) where
    gone : Areas
    gone = areas_of r (analysis M) (ran M o l e).values

    kept : Record
    kept = record_of (cond (ltb (stop_of (analysis M).shape e) (supernodes (analysis M).shape)) Partial Full) M (analysis M)

    pub settles_refused : (x₀ v₀ : List Float) {x : Outcome} {p₀ f₀ s₀ g₀ t₀ o₀ w₀ n₀ : List ℕ} {p f s g t u w n : List ℕ} {floats values : List Float} → x.answer ≡ a → x.«record» ≡ empty_record
        → Zeroed p₀ f₀ s₀ g₀ t₀ o₀ w₀ n₀ p f s g t u w n → (floats ≡ zero_floats (length x₀)) × (values ≡ zero_floats (length v₀)) → Lengths r p₀ f₀ s₀ g₀ t₀ o₀ w₀ n₀ → length x₀ ≡ r.floats → length v₀ ≡ r.values
        → FactorSettlesPlain (factor M cap o l e r) x p f s g t u w floats n values
    unfolding factor cleared kept gone
    settles_refused x₀ v₀ q m z y k lx lv =
        let b = blank_of r z.lists k in
        let d = refused_areas r (fault_of M cap o l e r) kept gone c in
        record {
          structure = record {
            out = refused_out r (fault_of M cap o l e r) kept gone c q m;
            one = b.one ∙ sym (ap (λ a. a.permutation) d);
            two = b.two ∙ sym (ap (λ a. a.firsts) d);
            three = b.three ∙ sym (ap (λ a. a.starts) d);
            four = b.four ∙ sym (ap (λ a. a.groups) d);
            five = b.five ∙ sym (ap (λ a. a.tasks) d);
            six = b.six ∙ sym (ap (λ a. a.top) d);
            seven = z.seven ∙ ap (λ m. replicate m 0) k.seven ∙ sym (ap (λ a. a.words) d);
            nine_holds = z.nine ∙ ap (λ m. replicate m 0) k.nine_long ∙ sym (ap (λ a. a.rows) d);
          };
          eight = y.0 ∙ ap (λ m. zero_floats m) lx ∙ sym (ap (λ a. a.floats) d);
          eleven = y.1 ∙ ap (λ m. zero_floats m) lv ∙ sym (ap (λ a. a.values) d);
        }

    pub ten_refused : {m : ℕ} → m ≡ r.updates → replicate m no_update ≡ (factor M cap o l e r).areas.updates
    unfolding factor cleared kept gone
    ten_refused long = ap (λ m. replicate m no_update) long ∙ sym (ap (λ a. a.updates) (refused_areas r (fault_of M cap o l e r) kept gone c))

  -- ---- acceptance

  pub said : fault_of M cap o l e r ≡ none → factor M cap o l e r ≡ record { returned = record { answer = Accepted; «record» = record_of (cond (ltb (stop_of (analysis M).shape e) (supernodes (analysis M).shape)) Partial Full) M (analysis M) }; areas = areas_of r (analysis M) (ran M o l e).values }
  unfolding factor settled
  said q = rw q

  module _ (s : Findings) {least : Factored} {permutation firsts starts groups tasks₁ nine : List ℕ} {values : List Float} (d : Over M cap o l e r s least permutation firsts starts groups tasks₁ nine values) {top₁ tasks top : List ℕ} {t u : ℕ}
      (p : Parts (split_of (shape_for M)) tasks₁ top₁ tasks top t u) (lt : length tasks₁ ≡ r.tasks) (lo : length top₁ ≡ r.top)
      (st : Stage) (Stage_is : st ≡ cond (ltb (stop_of (shape_for M) e) s.supernodes) Partial Full) where
    record_is : record { state = st; n = M.n; supernodes = s.supernodes; rows = s.rows; updates = s.updates; tasks = t; top = u; entries = s.entries; work = s.work } ≡ record_of (cond (ltb (stop_of (analysis M).shape e) (supernodes (analysis M).shape)) Partial Full) M (analysis M)
    unfolding record_of analysis
    record_is =
        let state_is = Stage_is ∙ ap (λ k. cond (ltb (stop_of (shape_for M) e) k) Partial Full) d.laid.many_supernodes in
        λ i. record {
          state = state_is i;
          n = M.n;
          supernodes = d.laid.many_supernodes i;
          rows = d.laid.many_rows i;
          updates = d.laid.many_updates i;
          tasks = p.many_tasks i;
          top = p.many_top i;
          entries = d.laid.entries_are i;
          work = d.laid.work_is i;
        }

    pub settles_accepted : (x : Outcome) {words : List ℕ} {floats : List Float} → fault_of M cap o l e r ≡ none → x ≡ record { answer = Accepted; «record» = record { state = st; n = M.n; supernodes = s.supernodes; rows = s.rows; updates = s.updates; tasks = t; top = u; entries = s.entries; work = s.work } }
        → words ≡ replicate r.words 0 → floats ≡ zero_floats r.floats → FactorSettlesPlain (factor M cap o l e r) x permutation firsts starts groups tasks top words floats nine values
    unfolding areas_of analysis
    settles_accepted x c is w f =
        let q = said c in
        record {
          structure = record {
            out = is ∙ ap (λ R. record { answer = Accepted; «record» = R }) record_is ∙ sym (ap (λ z. z.returned) q);
            one = d.laid.one ∙ sym (ap (λ z. z.areas.permutation) q);
            two = d.laid.two ∙ sym (ap (λ z. z.areas.firsts) q);
            three = d.laid.three ∙ sym (ap (λ z. z.areas.starts) q);
            four = d.laid.four ∙ sym (ap (λ z. z.areas.groups) q);
            five = p.in_tasks ∙ ap (λ m. held m 0 (flat (split_of (shape_for M)).tasks)) lt ∙ sym (ap (λ z. z.areas.tasks) q);
            six = p.in_top ∙ ap (λ m. held m 0 (split_of (shape_for M)).top) lo ∙ sym (ap (λ z. z.areas.top) q);
            seven = w ∙ sym (ap (λ z. z.areas.words) q);
            nine_holds = d.laid.nine_holds ∙ sym (ap (λ z. z.areas.rows) q);
          };
          eight = f ∙ sym (ap (λ z. z.areas.floats) q);
          eleven = d.filled ∙ sym (ap (λ z. z.areas.values) q);
        }

  -- ---- the updates

  -- of no supernodes no updates
  no_updates : (S : Shape) (m : ℕ) → supernodes S ≡ 0 → held m no_update (updates S) ≡ replicate m no_update
  unfolding held updates joined
  no_updates S m z = rw z (let k : m - 0 ≡ m = omega arith in rw k)

  module _ {x : Findings} {permutation firsts starts groups tasks words nine : List ℕ} (b : Laid M cap r x permutation firsts starts groups tasks words nine) {words' : List ℕ} {us us' : List Update}
      (d : LaidOut M.n x.supernodes M.starts M.rows words words' us us') (long : length us ≡ r.updates) (c : fault_of M cap o l e r ≡ none) where
    laid_out : us' ≡ held r.updates no_update (updates (shape_for M))
    laid_out = go x.supernodes refl
      where
        go : (m : ℕ) → x.supernodes ≡ m → us' ≡ held r.updates no_update (updates (shape_for M))
        go zero z = d.none z ∙ ap (λ m. replicate m no_update) long ∙ sym (no_updates (shape_for M) r.updates (sym b.many_supernodes ∙ z))
        go (suc m) z = d.all (omega (arith, z)) ∙ ap (λ m. held m no_update (updates (shape_for M))) long

    pub ten_accepted : us' ≡ (factor M cap o l e r).areas.updates
    unfolding areas_of analysis
    ten_accepted = laid_out ∙ sym (ap (λ z. z.areas.updates) (said c))
