-- What laying the updates and the run ask, from what begin leaves, and what they leave in turn. Assumes nothing.
use mathlib.Core.Path.{◌≡◌, refl, sym, ap, ◌∙◌}
use mathlib.Core.List.{List, ◌∷◌, ◌++◌}
use Prim.Native.Nat.{ℕ, zero, suc, ◌+◌, ◌-◌, ◌≤◌, ◌<◌}
use native.Mathlib.Omega.{arith}
use lib.ListN.{length, get_or, take, drop, replicate, length-take, length-replicate, take-append-drop}
use lib.Seq.{get_or-take, get_or-drop, drop-drop, length-take-le}
use lib.Ieee.{Float}
use Rattle.statement.specs.Lists.{list}
use Rattle.statement.specs.Input.{Matrix, WellFormed, pattern, +0}
use Rattle.statement.specs.Postorder as postorder
use Rattle.statement.specs.Shape.{Shape, supernodes, parent_of}
use Rattle.statement.specs.Supernodes.{shape_of, updates}
use Rattle.statement.specs.Run.{blank, start, run}
use Rattle.statement.specs.Areas.{held, no_update}
use Rattle.statement.specs.Calls.{analysis, entry_a, order_of, stop_of, state_after}
use Rattle.statement.specs.Demands.{Names}
use Rattle.statement.specs.declared.Factored.{Factored}
use Rattle.statement.specs.declared.Order.{Order}
use Rattle.statement.specs.declared.Room.{Room}
use Rattle.statement.specs.declared.Stop.{Stop}
use Rattle.statement.specs.declared.Update.{Update}
use Rattle.laws.specs.Lower.{lower_value}
use Rattle.laws.specs.Numbered.{factored, shape_for}
use Rattle.laws.proofs.Analysed.{up, built, size}
use Rattle.laws.proofs.Agree.{run_entries}
use Rattle.laws.proofs.Listing.{Spans, shape_spans}
use Rattle.laws.proofs.Ranks.{list_length, list_at}
use Rattle.areas.proofs.Lists.{is_list}
use Rattle.areas.proofs.Held.{held_over}
use Rattle.updates.specs.Layout.{owners_at, parents_at, names_at, starts_at, rows_at}
use Rattle.updates.specs.Laying.{LaidOut}
use Rattle.step.specs.Laid as step
use Rattle.turn.specs.Turn.{Due}
use Rattle.turn.specs.Run.{fresh, Ran, RunReady, RunLeft}
use Rattle.turn.proofs.Whole.{due_of, ready_of, ran_of}
use Rattle.order.proofs.Shaped.{shape_above}
use Rattle.order.proofs.Shaped as parents
use Rattle.ready.specs.Known.{Structured, Laid}
use Rattle.survey.specs.declared.Findings.{Findings}
use Rattle.survey.proofs.Reading.{fewer}
use Rattle.begin.specs.Begun.{Prepared}
use Rattle.begin.proofs.Handing.{structured, enough, entries_fit}
use Rattle.begin.proofs.Ordering.{ordered_by}
use Rattle.finish.specs.Filled.{ran, Over}

-- ---- lists

take-replicate : {A : Type 0} (k m : ℕ) (z : A) → k ≤ m → take k (replicate m z) ≡ replicate k z
take-replicate zero m z h = refl
take-replicate (suc k) zero z h = absurd (omega arith)
take-replicate (suc k) (suc m) z h = ap (λ l. z ∷ l) (take-replicate k m z (omega arith))

-- what stands from d on is the same
same_from : (d : ℕ) (w w' : List ℕ) → drop d w' ≡ drop d w → (i : ℕ) → d ≤ i → (get_or w' i 0 ≡ get_or w i 0) × (drop i w' ≡ drop i w)
same_from d w w' e i h =
    let q : d + (i - d) ≡ i = omega arith in (
      ap (λ j. get_or w' j 0) (sym q) ∙ sym (get_or-drop d w' (i - d) 0) ∙ ap (λ z. get_or z (i - d) 0) e ∙ get_or-drop d w (i - d) 0 ∙ ap (λ j. get_or w j 0) q,
      ap (λ j. drop j w') (sym q) ∙ sym (drop-drop (i - d) d w') ∙ ap (drop (i - d)) e ∙ drop-drop (i - d) d w ∙ ap (λ j. drop j w) q,
    )

same_before : (m : ℕ) (w w' : List ℕ) → take m w' ≡ take m w → (i : ℕ) → i < m → get_or w' i 0 ≡ get_or w i 0
same_before m w w' e i h = sym (get_or-take m w' i 0 h) ∙ ap (λ z. get_or z i 0) e ∙ get_or-take m w i 0 h

module _ {M : Matrix} {cap : ℕ} {o : Order} {l : List ℕ} {e : Stop} {r : Room} {x : Findings} {permutation firsts starts groups tasks words : List ℕ} {floats : List Float} {nine : List ℕ} {values : List Float} where
  module _ (p : Prepared M cap o l e r x permutation firsts starts groups tasks words floats nine values) where
    abbrev S : Shape
    S = shape_for M

    well : WellFormed M
    well = p.laid.well

    st : Structured M x.supernodes x.entries permutation firsts starts groups tasks nine
    st = structured p.laid

    spans : Spans S
    spans = shape_spans (factored (pattern M) M.n) M.n

    few : supernodes S ≤ M.n
    few = fewer M well

    within : (K : ℕ) → K < supernodes S → K < x.supernodes
    within K h = omega (arith, p.laid.many_supernodes)

    order_of_lem : Names S (order_of S o l) × (stop_of S e ≤ supernodes S)
    order_of_lem = ordered_by M st.known o l e p.ordered.legal

    parents_low : (K : ℕ) → K < supernodes S → parent_of S K ≤ M.n
    parents_low K h = omega (arith, few, (shape_above (factored (pattern M) M.n) M.n (up M well) (S.parents ++ p.laid.rest) p.laid.rest refl).to K h, (parents.shape_of_lem (factored (pattern M) M.n) M.n (up M well) (S.parents ++ p.laid.rest) p.laid.rest refl).parents K h)

    -- ---- after that

    module _ {words' : List ℕ} {us us' : List Update} (d : LaidOut M.n x.supernodes M.starts M.rows words words' us us') (same : length words' ≡ length words) where
      kept : (i : ℕ) → owners_at M.n ≤ i → (get_or words' i 0 ≡ get_or words i 0) × (drop i words' ≡ drop i words)
      kept = same_from (owners_at M.n) words words' d.rest

      scratch : Laid M x.supernodes words' floats
      scratch = record {
        flags = λ J h. same_before (M.n + 1) words words' d.flags J (omega (arith, few, p.laid.many_supernodes)) ∙ p.ordered.scratch.flags J h;
        offsets = λ K h. (kept _ (omega arith)).0 ∙ p.ordered.scratch.offsets K h;
        parents = λ K h. (kept _ (omega arith)).0 ∙ p.ordered.scratch.parents K h;
        lower = rw ((kept (starts_at M.n) (omega arith)).1, (kept (rows_at M.n) (omega arith)).1) p.ordered.scratch.lower;
      }

      laid : 0 < x.supernodes → step.Laid S firsts starts nine groups us'
      laid h = record {
        firsts_rest = st.known.firsts_rest;
        starts_rest = st.known.starts_rest;
        rows_rest = st.nine_rest;
        groups_rest = st.groups_rest;
        upd_rest = replicate (length us - length (updates S)) no_update;
        firsts_are = st.known.firsts_are;
        starts_are = st.known.starts_are;
        rows_are = st.nine_is;
        groups_are = st.groups_are;
        upd_are = d.all h ∙ unfold held in refl;
      }

      -- the stop count, and a run of at least one
      module _ (t : ℕ) (et : t ≡ stop_of S e) where
        some_there : 0 < t → 0 < x.supernodes
        some_there h = omega (arith, et, order_of_lem.1, p.laid.many_supernodes)

        name : (q : ℕ) → q < t → get_or words' (names_at M.n + q) 0 ≡ get_or (order_of S o l) q 0
        name q h = (kept _ (omega arith)).0 ∙ p.ordered.names q (omega (arith, et))

        inside : (q : ℕ) → q < t → get_or words' (names_at M.n + q) 0 < supernodes S
        inside q h = rw (name q h) (order_of_lem.0.inside q (omega (arith, et, order_of_lem.0.all, order_of_lem.1)))

        due : 0 < t → Due M.n firsts starts nine (supernodes S) groups words' (take (length M.rows) floats) x.entries (length floats - length M.rows)
        unfolding shape_of
        due h =
            let q = enough p.laid (replicate r.top 0) words floats (length-replicate r.top 0) p.words_long p.floats_long in
            due_of S (built M well) spans firsts starts nine groups us' (laid (some_there h)) (length M.rows) words' floats x.entries well.small few (omega (arith, q.1, same))
            (λ K k. scratch.offsets K (within K k)) (λ K k. scratch.parents K (within K k)) parents_low scratch.lower.columns (λ J k. scratch.lower.pattern J k) (omega (arith, size M well, p.laid.entries_are)) q.2

        pub run_ready : 0 < t → RunReady t x.supernodes M.n (length M.rows) x.entries firsts starts nine groups us' words' floats values
        unfolding shape_of
        run_ready h =
            rw p.laid.many_supernodes (ready_of S (built M well) spans firsts starts nine groups us' (laid (some_there h)) t (length M.rows) x.entries words' floats values (due h) few (omega (arith, et, order_of_lem.1)) inside
            (λ J k. scratch.flags J (within J k)) (omega (arith, entries_fit p.laid, ap length p.zero, length-replicate r.values +0)))

        -- ---- what the run leaves

        abbrev A : ℕ → ℕ → Float
        A = lower_value (drop (starts_at M.n) words') (drop (rows_at M.n) words') (take (length M.rows) floats)

        abbrev names : List ℕ
        names = list (λ q. get_or words' (names_at M.n + q) 0) t

        names_are : names ≡ take (stop_of S e) (order_of S o l)
        names_are =
            sym (is_list (take t (order_of S o l)) (λ q. get_or words' (names_at M.n + q) 0) t (length-take t (order_of S o l) ∙ omega (arith, et, order_of_lem.0.all, order_of_lem.1)) (λ j h. get_or-take t (order_of S o l) j 0 h ∙ sym (name j h)))
            ∙ ap (λ k. take k (order_of S o l)) et

        same_run : run S A (fresh S (blank S)) names ≡ ran M o l e
        unfolding state_after analysis
        same_run =
            run_entries S (built M well) A (entry_a M (postorder.permutation (pattern M) M.n)) (λ i j h k. scratch.lower.entries i j k (unfold shape_of in h)) (start S) names
            ∙ ap (run S (entry_a M (postorder.permutation (pattern M) M.n)) (start S)) names_are

        module _ {values' : List Float} {least : Factored} (y : RunLeft t M.n (length M.rows) x.entries firsts starts nine words' floats values values' least) where
          -- of the whole structure, also where nothing is run
          whole : (k : ℕ) → t ≡ k → Ran S A names (take x.entries values) (take x.entries values') least
          whole zero z = record {
            held = ap (take x.entries) (y.idle z).0 ∙ unfold run list in rw z;
            low = (y.idle z).1 ∙ unfold run list shape_of in rw z;
          }
          whole (suc k) z =
              ran_of S (built M well) spans firsts starts nine groups us' (laid (some_there (omega arith))) A (drop (parents_at M.n) words') names (take x.entries values) (take x.entries values') least
              (λ K h. get_or-drop (parents_at M.n) words' K 0 ∙ scratch.parents K (within K h))
              (λ q h. let h' : q < t = omega (arith, list_length (λ q. get_or words' (names_at M.n + q) 0) t) in rw (list_at (λ q. get_or words' (names_at M.n + q) 0) t q 0 h') (inside q h'))
              (unfold shape_of in y.ran (omega arith))

          total : x.entries ≤ length values
          total = omega (arith, entries_fit p.laid, ap length p.zero, length-replicate r.values +0)

          blank_is : take x.entries values ≡ blank S
          blank_is = ap (take x.entries) p.zero ∙ take-replicate x.entries r.values +0 (entries_fit p.laid) ∙ unfold blank in ap (λ m. replicate m +0) (p.laid.entries_are ∙ sym (size M well))

          to_ran : run S A (fresh S (take x.entries values)) names ≡ ran M o l e
          to_ran = ap (λ v. run S A (fresh S v) names) blank_is ∙ same_run

          low : least ≡ (ran M o l e).least
          low = (whole t refl).low ∙ ap (λ s. s.least) to_ran

          part : take x.entries values' ≡ (ran M o l e).values
          part = (whole t refl).held ∙ ap (λ s. s.values) to_ran

          pub filled : length values' ≡ length values → values' ≡ held r.values +0 (ran M o l e).values
          filled h =
              held_over r.values +0 (ran M o l e).values x.entries (sym (length-take-le x.entries values' (omega (arith, total))) ∙ ap length part) p.zero
              (sym (take-append-drop x.entries values') ∙ ap (λ z. take x.entries values' ++ z) y.rest ∙ ap (λ z. z ++ drop x.entries values) part)

          -- all of it
          pub over : length values' ≡ length values → Over M cap o l e r x least permutation firsts starts groups tasks nine values'
          over h = record { words = words; laid = p.laid; legal = p.ordered.legal; filled = filled h; low = low }
