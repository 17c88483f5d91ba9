-- Demand 3, of the calls. Assumes nothing.
use mathlib.Core.Path.{◌≡◌, refl, sym, ap, ◌∙◌}
use mathlib.Core.Logic.{◌⊎◌, inl, inr, ⊎_elim, ◌≢◌, ◌↔◌}
use mathlib.Core.Bool.{Bool, true, false, cond}
use mathlib.Core.List.{List, []}
use mathlib.Core.Option.{none}
use Prim.Native.Nat.{ℕ, suc, ◌≤◌, ◌<◌}
use native.Mathlib.Omega.{arith}
use native.Mathlib.Nat.{le_refl}
use native.Mathlib.Decide.{le_ind}
use lib.Dec.{ltb}
use lib.ListN.{length, get_or, take}
use lib.Seq.{take_all}
use borrow.Author.Tests.{lt-ltb, le-ltb}
use lib.Ieee.{Float}
use Rattle.statement.specs.Lists.{has}
use Rattle.statement.specs.Input.{Matrix, pattern}
use Rattle.statement.specs.Fill.{entries}
use Rattle.statement.specs.Postorder.{permutation, to_original}
use Rattle.statement.specs.Shape.{Shape, supernodes, width, offset, stretch, put}
use Rattle.statement.specs.Rules.{Out, made, broke, and_then, step}
use Rattle.statement.specs.Run.{State, Fate, failed, start, fate, run, pass, plain, first_bad}
use Rattle.statement.specs.Answers.{number, test, or_else}
use Rattle.statement.specs.Calls.{analysis, Settled, settled, record_of, areas_of, order_of, stop_of, wrong_position, state_after, factor_fault, factor}
use Rattle.statement.specs.Demands.{Such, Names, Obeys, Breaks}
use Rattle.statement.specs.declared.Factored.{Factored}
use Rattle.statement.specs.declared.Original.{Original}
use Rattle.statement.specs.declared.Answer.{Answer}
use Rattle.statement.specs.declared.Answer.TheVariants.{Accepted, WrongPivot}
use Rattle.statement.specs.declared.Order.{Order}
use Rattle.statement.specs.declared.Order.TheVariants.{Plain, Listed}
use Rattle.statement.specs.declared.Room.{Room}
use Rattle.statement.specs.declared.Stage.TheVariants.{Partial, Full}
use Rattle.statement.specs.declared.Stop.{Stop}
use Rattle.statement.specs.declared.Stop.TheVariants.{End, After}
use Rattle.laws.specs.Built.{Sound}
use Rattle.laws.specs.Numbered.{factored, shape}
use Rattle.laws.proofs.Analysed as analysed
use Rattle.laws.proofs.Bools.{lt_or_le}
use Rattle.laws.proofs.Demand as demand
use Rattle.laws.proofs.Fails.{breaks_step}
use Rattle.laws.proofs.Faults.{no_fault}
use Rattle.laws.proofs.Listed.{order_exactly}
use Rattle.laws.proofs.Names.{names_good, in_order, plain_in_order, length_rising}
use Rattle.laws.proofs.Order.{least_of_le, named}
use Rattle.laws.proofs.Sizes.{never_differs}
use Rattle.laws.proofs.Skip.{stopped_done}
use Rattle.promises.specs.Third.{X, S, N, A, Meets, Completed, Refused, Calm, Least, Stopped, Turns, Demand3, DemandThree}
use Rattle.promises.specs.Third as third
use Rattle.promises.proofs.Places.{places}
use Rattle.promises.proofs.Turning.{has_at, at_has}
use Rattle.promises.proofs.Turning as turning
use Rattle.promises.proofs.Ending.{Either}
use Rattle.promises.proofs.Ending as ending

-- ---- one call told as another

module _ (M : Matrix) (cap : ℕ) (r : Room) where
  stop_as : (o : Order) (l : List ℕ) (d e : Stop) → stop_of (analysis M).shape d ≡ stop_of (analysis M).shape e → factor M cap o l d r ≡ factor M cap o l e r
  unfolding factor
  stop_as o l d e q = ap (λ t. settled r (factor_fault M cap o l t r (analysis M) (state_after M (analysis M) o l t)) (record_of (cond (ltb t (supernodes (analysis M).shape)) Partial Full) M (analysis M)) (areas_of r (analysis M) (state_after M (analysis M) o l t).values)) q

  listed_as : (o : Order) (l : List ℕ) (e : Stop) → factor M cap o l e r ≡ factor M cap Listed (order_of (analysis M).shape o l) e r
  unfolding factor factor_fault state_after order_of
  listed_as Plain l e = refl
  listed_as Listed l e = refl

  beside_as : (l : List ℕ) (e : Stop) → factor M cap Plain l e r ≡ factor M cap Plain [] e r
  unfolding factor factor_fault state_after order_of
  beside_as l e = refl

-- a pivot that breaks the rule ends the pass
pass_broke : (S : Shape) (A : ℕ → ℕ → Float) (J : ℕ) (c : Factored) (N : ℕ) (v : List Float) → J < N → pass S A J ≡ made v → Breaks S A v J c → pass S A N ≡ broke c
unfolding pass and_then
pass_broke S A J c N v h e b = le_ind (λ x. pass S A x ≡ broke c) first (λ x _ u. ap (λ o. and_then o (λ v. and_then (step S A v x) (λ f. made (put S v x f)))) u) N h
  where
    first : pass S A (suc J) ≡ broke c
    first = ap (λ o. and_then o (λ v. and_then (step S A v J) (λ f. made (put S v J f)))) e ∙ ap (λ o. and_then o (λ f. made (put S v J f))) (breaks_step S A v J c b)

module _ (M : Matrix) (cap : ℕ) (r : Room) (such : Such M cap r) (o : Order) (l : List ℕ) (m : Names (S M) (order_of (S M) o l)) where
  abbrev n : ℕ
  n = M.n

  abbrev q : List ℕ
  q = order_of (S M) o l

  abbrev call : Stop → Settled
  call e = factor M cap o l e r

  abbrev name : Factored → Original
  name c = to_original (X M).permutation c

  ok : Sound (S M)
  unfolding analysis
  ok = analysed.ok M such.well

  shape_n : (S M).n ≡ n
  unfolding analysis
  shape_n = analysed.shape_n M

  size : offset (S M) (N M) ≡ entries (pattern M) n
  unfolding analysis
  size = analysed.size M such.well

  good : first_bad (S M) [] q 0 ≡ none
  good = names_good (S M) ok.up q m

  whole_as : (e : Stop) → stop_of (S M) e ≡ N M → call e ≡ factor M cap Listed q End r
  whole_as e w = stop_as M cap r o l e End w ∙ listed_as M cap r o l End

  -- ---- at the end

  ended_as : (e : Stop) → stop_of (S M) e ≡ N M → Either M r (call e) (pass (S M) (A M) (N M))
  ended_as e w = rw (whole_as e w) ended
    where
      ended : Either M r (factor M cap Listed q End r) (pass (S M) (A M) (N M))
      ended = unfold analysis in ending.ended_either M cap r such q (unfold analysis in m)

  either : (e : Stop) → stop_of (S M) e ≡ N M → ((v : List Float) × Completed M r (call e) v) ⊎ ((k : Original) × Refused M r (call e) k)
  either e w = go (pass (S M) (A M) (N M)) (ended_as e w)
    where
      go : (p : Out) → Either M r (call e) p → ((v : List Float) × Completed M r (call e) v) ⊎ ((k : Original) × Refused M r (call e) k)
      go (made v) h = inl (v, h)
      go (broke c) h = inr (to_original (X M).permutation c, h)

  ruled : (e : Stop) → stop_of (S M) e ≡ N M → (v : List Float) → length v ≡ entries (pattern M) n → ((K c : ℕ) → K < N M → c < width (S M) K → Obeys (S M) (A M) v K c) → Completed M r (call e) v
  ruled e w v k h =
      let p : pass (S M) (A M) (N M) ≡ made v = unfold analysis in ending.ruled M cap r such q (unfold analysis in m) v k (unfold analysis in h) in
      let c : Either M r (call e) (made v) = rw p at (ended_as e w) in
      c

  not_both : (a : Answer) (k : Original) → a ≡ Accepted → a ≡ WrongPivot k → ⊥
  not_both a k e f = omega (arith, ap number (sym e ∙ f))

  one_name : (a : Answer) (i k : Original) → a ≡ WrongPivot i → a ≡ WrongPivot k → i ≡ k
  one_name a i k e f = cc

  meets_refused : (e : Stop) (k : Original) → stop_of (S M) e ≡ N M → Meets M k → (call e).returned.answer ≡ WrongPivot k
  meets_refused e k w z = go (pass (S M) (A M) (N M)) (pass_broke (S M) (A M) z.J z.c (N M) z.v z.inside z.before z.breaks) (ended_as e w) ∙ ap WrongPivot (sym z.names)
    where
      go : (p : Out) → p ≡ broke z.c → Either M r (call e) p → (call e).returned.answer ≡ WrongPivot (name z.c)
      go (made v) f h = absurd (let y : ◌≡◌ {A = ℕ} 0 1 = cc in omega arith)
      go (broke c) f h = h.answer ∙ ap (λ c. WrongPivot (name c)) (let y : c ≡ z.c = cc in y)

  accepts : (e : Stop) → stop_of (S M) e ≡ N M → ((call e).returned.answer ≡ Accepted) ↔ ((k : Original) → Meets M k → ⊥)
  accepts e w = (
    (λ a k z. not_both _ k a (meets_refused e k w z)),
    (λ f. ⊎_elim (λ z. z.1.answer) (λ z. absurd (f z.0 z.1.meets)) (either e w)),
  )

  refuses : (e : Stop) (k : Original) → stop_of (S M) e ≡ N M → ((call e).returned.answer ≡ WrongPivot k) ↔ Meets M k
  refuses e k w = (
    (λ a. ⊎_elim (λ z. absurd (not_both _ k z.1.answer a)) (λ z. rw (one_name _ k z.0 a z.1.answer) z.1.meets) (either e w)),
    meets_refused e k w,
  )

  -- ---- stopped after t

  module _ (t : ℕ) (h : t ≤ N M) where
    abbrev Go : ℕ → State
    Go y = third.before M q y

    abbrev s : State
    s = Go t

    fault : factor_fault M cap o l t r (analysis M) (state_after M (analysis M) o l t) ≡ test (ltb s.least.0 n) (WrongPivot (name s.least)) none
    unfolding factor_fault or_else test wrong_position state_after
    fault = rw (
      no_fault M such.well,
      such.room,
      le-ltb cap (X M).entries (unfold analysis in such.capped),
      such.more,
      differs,
      in_order (S M) ok.up q t m.all h good,
    )
      where
        differs : (X M).differs ≡ false
        differs = unfold analysis in never_differs (factored (pattern M) n) n (analysed.up M such.well)

    comes : call (After t) ≡ settled r (test (ltb s.least.0 n) (WrongPivot (name s.least)) none) (record_of (cond (ltb t (N M)) Partial Full) M (X M)) (areas_of r (X M) s.values)
    unfolding factor
    comes = rw fault (unfold state_after in refl)

    low : s.least.0 ≤ n
    low = rw (demand.inv (S M) (A M) ok q good t).low (omega (arith, shape_n, least_of_le (S M).n (fate (S M) (A M) s) (named [] (take t q))))

    calm_accepted : n ≤ s.least.0 → call (After t) ≡ record { returned = record { answer = Accepted; «record» = record_of (cond (ltb t (N M)) Partial Full) M (X M) }; areas = areas_of r (X M) s.values }
    calm_accepted u = comes ∙ (unfold settled test in rw (le-ltb s.least.0 n u))

    wild_refused : s.least.0 < n → (call (After t)).returned.answer ≡ WrongPivot (name s.least)
    wild_refused u = ap (λ x. x.returned.answer) comes ∙ (unfold settled test in rw (lt-ltb s.least.0 n u))

    turns : Turns M q t
    turns = record {
      fails = λ y c _ e. turning.breaks (S M) (A M) ok q m t h y c e;
      skips = turning.skips (S M) (A M) ok q m t h;
      makes = turning.makes (S M) (A M) ok q m t h;
      clears = turning.clears (S M) (A M) ok q m t h;
    }

    abbrev turn : ℕ → Fate
    turn y = third.turn M q y

    least : s.least.0 < n → Least M q t s.least
    least u =
        let z = turning.least (S M) (A M) ok q m t h (omega (arith, shape_n)) in
        record { y = z.0; inside = z.1; fails = z.2; lowest = lowest }
      where
        lowest : (z : ℕ) (d : Factored) → z < t → turn z ≡ failed d → s.least.0 ≤ d.0
        lowest = turning.lowest (S M) (A M) ok q m t h

    below : (y : ℕ) (c : Factored) → y < t → turn y ≡ failed c → c.0 < n
    below y c u e = omega (arith, shape_n, turning.low (S M) (A M) ok q m t h y c u e)

    lowest : (y : ℕ) (c : Factored) → y < t → turn y ≡ failed c → s.least.0 ≤ c.0
    lowest = turning.lowest (S M) (A M) ok q m t h

    calm_least : Calm M q t → n ≤ s.least.0
    calm_least f = ⊎_elim (λ (u : s.least.0 < n). let z = least u in absurd (f z.y s.least z.inside z.fails)) (λ (u : n ≤ s.least.0). u) (lt_or_le s.least.0 n)

    accepted_least : (call (After t)).returned.answer ≡ Accepted → n ≤ s.least.0
    accepted_least a = ⊎_elim (λ (u : s.least.0 < n). absurd (not_both _ (name s.least) a (wild_refused u))) (λ (u : n ≤ s.least.0). u) (lt_or_le s.least.0 n)

    calm : ((call (After t)).returned.answer ≡ Accepted) ↔ Calm M q t
    calm = (
      (λ a y c u e. absurd (omega (arith, accepted_least a, below y c u e, lowest y c u e))),
      (λ f. ap (λ x. x.returned.answer) (calm_accepted (calm_least f))),
    )

    wild : (k : Original) → ((call (After t)).returned.answer ≡ WrongPivot k) ↔ ((c : Factored) × Least M q t c × (k ≡ name c))
    wild k = (to, from)
      where
        to : (call (After t)).returned.answer ≡ WrongPivot k → (c : Factored) × Least M q t c × (k ≡ name c)
        to a = ⊎_elim
            (λ (u : s.least.0 < n). (s.least, least u, one_name _ k (name s.least) a (wild_refused u)))
            (λ (u : n ≤ s.least.0). absurd (not_both _ k (ap (λ x. x.returned.answer) (calm_accepted u)) a)) (lt_or_le s.least.0 n)

        from : (c : Factored) × Least M q t c × (k ≡ name c) → (call (After t)).returned.answer ≡ WrongPivot k
        from z =
            let c = z.0 in
            let y = z.1 in
            let u : s.least.0 < n = omega (arith, lowest y.y c y.inside y.fails, below y.y c y.inside y.fails) in
            let x = least u in
            let e : s.least.0 ≡ c.0 = omega (arith, lowest y.y c y.inside y.fails, y.lowest x.y s.least x.inside x.fails) in
            wild_refused u ∙ ap (λ d. WrongPivot (name (record { 0 = d }))) e ∙ ap WrongPivot (sym z.2)

    named_in : (y : ℕ) → y < t → has (get_or q y 0) (take t q) ≡ true
    named_in y u = has_at q y t u (omega (arith, m.all))

    whole_plain : (state_after M (X M) Plain [] (N M)).values ≡ (run (S M) (A M) (start (S M)) (plain (S M))).values
    unfolding state_after order_of
    whole_plain = ap (λ l. (run (S M) (A M) (start (S M)) l).values) (take_all (N M) (plain (S M)) (omega (arith, length_rising 0 (N M))))

    stops : Calm M q t → Stopped M q r t (call (After t)) s.values
    stops f =
        let e = calm_accepted (calm_least f) in
        record {
          answer = ap (λ x. x.returned.answer) e;
          partial = λ u. ap (λ x. x.returned.«record») e ∙ ap (λ g. record_of g M (X M)) (rw (lt-ltb t (N M) u));
          full = λ u. ap (λ x. x.returned.«record») e ∙ ap (λ g. record_of g M (X M)) (rw (le-ltb t (N M) (omega arith)));
          areas = ap (λ x. x.areas) e;
          filled = (demand.inv (S M) (A M) ok q good t).wide ∙ size;
          named = λ y u. (demand.stopped_named (S M) (A M) ok q good t (get_or q y 0) (named_in y u)).0 ∙ sym (ap (λ v. stretch (S M) v (get_or q y 0)) whole_plain);
          final = λ y u. stopped_done (S M) (A M) ok q good t (omega (arith, calm_least f, low, shape_n)) (get_or q y 0) (named_in y u);
          unnamed = λ K k g. (demand.stopped_unnamed (S M) (A M) ok q good t K k (missing K g (has K (take t q)) refl)).0;
        }
      where
        missing : (K : ℕ) → ((y : ℕ) → y < t → get_or q y 0 ≢ K) → (b : Bool) → has K (take t q) ≡ b → has K (take t q) ≡ false
        missing K g true e = let z = at_has q t K e in absurd (g z.0 z.1 z.2)
        missing K g false e = e

  pub third_kept : Demand3 M cap r o l
  third_kept = record {
    same = λ d e beside x y w u f g. f ∙ whole_as d w ∙ same ∙ sym (g ∙ stop_as M cap r Plain beside e End u ∙ beside_as M cap r beside End);
    either = λ e x w f. rw f (either e w);
    places = places M such.well;
    accepts = λ e x w f. rw f (accepts e w);
    exactly = λ e x w f v. rw f ((λ c. (c.filled, c.rules)), (λ h. ruled e w v h.0 h.1));
    refuses = λ e x w f k. rw f (refuses e k w);
    calm = λ t x h f. rw f (calm t h);
    stops = λ t x h f c. rw f (stops t h c);
    turns = turns;
    wild = λ t x h f k. rw f (wild t h k);
  }
    where
      same : factor M cap Listed q End r ≡ factor M cap Plain [] End r
      same = unfold analysis in ending.same M cap r such q (unfold analysis in m)

-- the plain order names each supernode once, children before parents
pub plain_names : (M : Matrix) (cap : ℕ) (r : Room) → Such M cap r → (l : List ℕ) → Names (S M) (order_of (S M) Plain l)
unfolding order_of
plain_names M cap r such l =
    let ok : Sound (S M) = unfold analysis in analysed.ok M such.well in
    ((order_exactly (S M) ok.up (plain (S M)) (N M)).0 (plain_in_order (S M) ok.up (A M) ok (N M) (le_refl _))).0

-- demand 3
pub demand_three : DemandThree
unfolding order_of
demand_three = record {
  listed = λ M cap r such l m. third_kept M cap r such Listed l m;
  plain = λ M cap r such beside. third_kept M cap r such Plain beside (plain_names M cap r such beside);
}
