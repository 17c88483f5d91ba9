-- From what the survey, the split and the laying leave to what the statement says of analyse. Assumes nothing.
use mathlib.Core.Path.{◌≡◌, refl, sym, ap, ◌∙◌}
use mathlib.Core.List.{List, []}
use mathlib.Core.Option.{Option, none, some}
use Prim.Native.Nat.{ℕ, zero, suc, ◌-◌}
use native.Mathlib.Omega.{arith}
use lib.ListN.{length, replicate}
use Rattle.laws.specs.Numbered.{shape_for}
use Rattle.statement.specs.Input.{Matrix}
use Rattle.statement.specs.Tasks.{split_of}
use Rattle.statement.specs.Lists.{joined}
use Rattle.statement.specs.Shape.{supernodes}
use Rattle.statement.specs.Supernodes.{updates}
use Rattle.statement.specs.Record.{empty_record}
use Rattle.statement.specs.Areas.{needs, held, no_update, flat}
use Rattle.statement.specs.Calls.{analysis, settled, record_of, areas_of, cleared, structure_room, later, analyse_fault, analyse, Analyses}
use Rattle.statement.specs.declared.Answer.{Answer}
use Rattle.statement.specs.declared.Answer.TheVariants.{Accepted}
use Rattle.statement.specs.declared.Outcome.{Outcome}
use Rattle.statement.specs.declared.Room.{Room}
use Rattle.statement.specs.declared.Update.{Update}
use Rattle.statement.specs.declared.Stage.TheVariants.{Analysed}
use Rattle.tasks.specs.Given.{Parts}
use Rattle.updates.specs.Laying.{LaidOut}
use Rattle.clearing.specs.Zeroed.{Zeroed}
use Rattle.survey.specs.Laid.{structure_fault, Laid}
use Rattle.survey.specs.Settles.{SettlesPlain, Settles}
use Rattle.survey.proofs.Clearing.{Lengths, blank_of}
use Rattle.survey.proofs.Settling.{refused_out, refused_areas}
use Rattle.survey.specs.declared.Findings.{Findings}
use Rattle.analyse.specs.Lent.{ample}
use Rattle.analyse.proofs.Boundless.{same_fault}

module _ (M : Matrix) (cap : ℕ) (r : Room) (f : r.floats ≡ ample) (v : r.values ≡ ample) where
  -- ---- a refusal: the areas are cleared once more

  module _ {a : Answer} (q : structure_fault M cap r ≡ some a) where
    fault : analyse_fault M cap r (analysis M) ≡ some a
    fault = sym (same_fault M cap r f v) ∙ q

    pub plain_refused : {p₀ f₀ s₀ g₀ t₀ o₀ w₀ n₀ p f s g t o w n : List ℕ} {x : Outcome} → x.answer ≡ a → x.«record» ≡ empty_record
        → Zeroed p₀ f₀ s₀ g₀ t₀ o₀ w₀ n₀ p f s g t o w n → Lengths r p₀ f₀ s₀ g₀ t₀ o₀ w₀ n₀ → SettlesPlain (analyse M cap r) x p f s g t o w n
    unfolding analyse structure_room cleared
    plain_refused e k z l =
        let b = blank_of r z.lists l in
        let c = refused_areas (structure_room r) (analyse_fault M cap r (analysis M)) (record_of Analysed M (analysis M)) (areas_of (structure_room r) (analysis M) []) fault in
        record {
          out = refused_out (structure_room r) (analyse_fault M cap r (analysis M)) (record_of Analysed M (analysis M)) (areas_of (structure_room r) (analysis M) []) fault e k;
          one = b.one ∙ sym (ap (λ a. a.permutation) c);
          two = b.two ∙ sym (ap (λ a. a.firsts) c);
          three = b.three ∙ sym (ap (λ a. a.starts) c);
          four = b.four ∙ sym (ap (λ a. a.groups) c);
          five = b.five ∙ sym (ap (λ a. a.tasks) c);
          six = b.six ∙ sym (ap (λ a. a.top) c);
          seven = z.seven ∙ ap (λ m. replicate m 0) l.seven ∙ sym (ap (λ a. a.words) c);
          nine_holds = z.nine ∙ ap (λ m. replicate m 0) l.nine_long ∙ sym (ap (λ a. a.rows) c);
        }

    pub ten_refused : {m : ℕ} → m ≡ r.updates → replicate m no_update ≡ (analyse M cap r).areas.updates
    unfolding analyse structure_room cleared
    ten_refused long = ap (λ m. replicate m no_update) long ∙ sym (ap (λ a. a.updates) (refused_areas (structure_room r) (analyse_fault M cap r (analysis M)) (record_of Analysed M (analysis M)) (areas_of (structure_room r) (analysis M) []) fault))

  -- ---- acceptance

  said : structure_fault M cap r ≡ none → analyse M cap r ≡ record { returned = record { answer = Accepted; «record» = record_of Analysed M (analysis M) }; areas = areas_of (structure_room r) (analysis M) [] }
  unfolding analyse settled
  said e = rw (sym (same_fault M cap r f v) ∙ e)

  module _ (s : Findings) {permutation firsts starts groups tasks₁ words₁ nine : List ℕ} (l : Laid M cap r s permutation firsts starts groups tasks₁ words₁ nine) {tasks₂ top₂ tasks top : List ℕ} {t o : ℕ}
      (p : Parts (split_of (shape_for M)) tasks₂ top₂ tasks top t o) (lt : length tasks₂ ≡ r.tasks) (lo : length top₂ ≡ r.top) where
    record_is : record { state = Analysed; n = M.n; supernodes = s.supernodes; rows = s.rows; updates = s.updates; tasks = t; top = o; entries = s.entries; work = s.work } ≡ record_of Analysed M (analysis M)
    unfolding record_of analysis
    record_is = λ i. record {
      state = Analysed;
      n = M.n;
      supernodes = l.many_supernodes i;
      rows = l.many_rows i;
      updates = l.many_updates i;
      tasks = p.many_tasks i;
      top = p.many_top i;
      entries = l.entries_are i;
      work = l.work_is i;
    }

    -- the scratch words, w of them, are cleared
    pub plain_accepted : {words : List ℕ} (x : Outcome) (w : ℕ) → x ≡ record { answer = Accepted; «record» = record { state = Analysed; n = M.n; supernodes = s.supernodes; rows = s.rows; updates = s.updates; tasks = t; top = o; entries = s.entries; work = s.work } }
        → words ≡ replicate w 0 → w ≡ r.words → SettlesPlain (analyse M cap r) x permutation firsts starts groups tasks top words nine
    unfolding areas_of analysis structure_room
    plain_accepted x w e z k =
        let q = said l.calm in
        record {
          out = e ∙ ap (λ R. record { answer = Accepted; «record» = R }) record_is ∙ sym (ap (λ z. z.returned) q);
          one = l.one ∙ sym (ap (λ z. z.areas.permutation) q);
          two = l.two ∙ sym (ap (λ z. z.areas.firsts) q);
          three = l.three ∙ sym (ap (λ z. z.areas.starts) q);
          four = l.four ∙ sym (ap (λ z. z.areas.groups) q);
          five = p.in_tasks ∙ ap (λ m. held m 0 (flat (split_of (shape_for M)).tasks)) lt ∙ sym (ap (λ z. z.areas.tasks) q);
          six = p.in_top ∙ ap (λ m. held m 0 (split_of (shape_for M)).top) lo ∙ sym (ap (λ z. z.areas.top) q);
          seven = z ∙ ap (λ m. replicate m 0) k ∙ sym (ap (λ z. z.areas.words) q);
          nine_holds = l.nine_holds ∙ sym (ap (λ z. z.areas.rows) q);
        }

  -- ---- the updates

  module _ {x : Findings} {p₁ f₁ s₁ g₁ t₁ w₁ n₁ : List ℕ} (l : Laid M cap r x p₁ f₁ s₁ g₁ t₁ w₁ n₁) {w₂ : List ℕ} {us us₂ : List Update}
      (laid : LaidOut M.n x.supernodes M.starts M.rows w₁ w₂ us us₂) (long : length us ≡ r.updates) where
    -- no supernodes, no updates
    none_of : supernodes (shape_for M) ≡ 0 → held (length us) no_update (updates (shape_for M)) ≡ replicate (length us) no_update
    unfolding held updates joined
    none_of e = rw e (ap (λ m. replicate m no_update) (let q : length us - 0 ≡ length us = omega arith in q))

    laid_all : us₂ ≡ held r.updates no_update (updates (shape_for M))
    laid_all = go x.supernodes refl ∙ ap (λ m. held m no_update (updates (shape_for M))) long
      where
        go : (m : ℕ) → x.supernodes ≡ m → us₂ ≡ held (length us) no_update (updates (shape_for M))
        go zero e = laid.none e ∙ sym (none_of (sym l.many_supernodes ∙ e))
        go (suc m) e = laid.all (omega (arith, e))

    pub ten_accepted : us₂ ≡ (analyse M cap r).areas.updates
    unfolding areas_of analysis structure_room
    ten_accepted = laid_all ∙ sym (ap (λ z. z.areas.updates) (said l.calm))

-- ---- the promise: areas 8 and 11 are not lent, and their room is never read

module _ (M : Matrix) (cap : ℕ) (r : Room) where
  abbrev as_lent : Room
  as_lent = record { permutation = r.permutation; firsts = r.firsts; starts = r.starts; groups = r.groups; tasks = r.tasks; top = r.top; words = r.words; floats = 0; rows = r.rows; updates = r.updates; values = 0 }

  unread : analyse M cap r ≡ analyse M cap as_lent
  unfolding analyse analyse_fault structure_room needs later
  unread = refl

  not_lent : ((analyse M cap r).areas.floats ≡ []) × ((analyse M cap r).areas.values ≡ [])
  unfolding analyse structure_room
  not_lent = go (analyse_fault M cap r (analysis M))
    where
      go : (o : Option Answer) → ((settled (structure_room r) o (record_of Analysed M (analysis M)) (areas_of (structure_room r) (analysis M) [])).areas.floats ≡ []) × ((settled (structure_room r) o (record_of Analysed M (analysis M)) (areas_of (structure_room r) (analysis M) [])).areas.values ≡ [])
      go none = unfold settled areas_of held in (refl, refl)
      go (some a) = unfold settled cleared in (refl, refl)

  pub analyses : {p f s g t o w n : List ℕ} {y : Outcome} {us : List Update} → Settles (analyse M cap r) y p f s g t o w n us
      → Analyses M cap as_lent (record { returned = y; areas = record { permutation = p; firsts = f; starts = s; groups = g; tasks = t; top = o; words = w; floats = []; rows = n; updates = us; values = [] } })
  analyses h = (λ i. record {
    returned = h.plain.out i;
    areas = record {
      permutation = h.plain.one i;
      firsts = h.plain.two i;
      starts = h.plain.three i;
      groups = h.plain.four i;
      tasks = h.plain.five i;
      top = h.plain.six i;
      words = h.plain.seven i;
      floats = sym not_lent.0 i;
      rows = h.plain.nine_holds i;
      updates = h.ten_holds i;
      values = sym not_lent.1 i;
    };
  }) ∙ unread
