-- Number 8 from the structure's areas, and what stands in the words once it passes. Assumes nothing.
use mathlib.Core.Path.{◌≡◌, refl, sym, ap, ◌∙◌}
use mathlib.Core.List.{List, ◌++◌}
use mathlib.Core.Option.{Option, none, some}
use Prim.Native.Nat.{ℕ, ◌+◌, ◌*◌, ◌-◌, ◌≤◌}
use native.Mathlib.Omega.{arith}
use lib.ListN.{length, take, drop, length-append, length-drop, length-take}
use lib.Seq.{drop_at, get_or-take, length-take-le}
use lib.Ieee.{Float}
use borrow.Rule.Slice.PartMut.{put_mid}
use Rattle.statement.specs.Lists.{list}
use Rattle.statement.specs.Input.{Matrix, pattern}
use Rattle.statement.specs.Fill.{parent}
use Rattle.statement.specs.Shape.{supernodes}
use Rattle.statement.specs.Supernodes.{shape_of}
use Rattle.statement.specs.Run.{order_fault}
use Rattle.std.specs.Prelude.{Ok, Err}
use Rattle.laws.specs.Answered.{passed}
use Rattle.laws.proofs.Passed.{passed_none, passed_some}
use Rattle.statement.specs.Calls.{analysis, order_of, stop_of, wrong_position}
use Rattle.statement.specs.Demands.{Names}
use Rattle.statement.specs.declared.Answer.{Answer}
use Rattle.statement.specs.declared.Order.{Order}
use Rattle.statement.specs.declared.Order.TheVariants.{Listed}
use Rattle.statement.specs.declared.Stop.{Stop}
use Rattle.laws.specs.Numbered.{factored, shape_for}
use Rattle.laws.proofs.Analysed.{up, ok}
use Rattle.laws.proofs.Listed.{order_exactly}
use Rattle.laws.proofs.Postorder.{pos}
use Rattle.laws.proofs.Ranks.{list_length}
use Rattle.areas.proofs.Tail.{tail_lent}
use Rattle.updates.specs.Layout.{names_at, starts_at, rows_at}
use Rattle.order.specs.Waiting.{Above, Of}
use Rattle.order.proofs.Shaped.{shape_above, shape_of_lem}
use Rattle.ready.specs.Known.{Known, Laid, Kept}
use Rattle.ready.proofs.Wrote.{Wrote, wrote, wrote_part, wrote_above}
use Rattle.ready.proofs.Laying.{fewer, room}
use Rattle.begin.specs.Ordered.{order_test, Ordered}

no_position : (f : Option ℕ) → wrong_position f ≡ none → f ≡ none
unfolding wrong_position
no_position none e = refl
no_position (some p) e = absurd (let z : ◌≡◌ {A = ℕ} 0 1 = cc in omega arith)

-- the first m words, lent and given back at x
pub front_length : (m : ℕ) (w x : List ℕ) → m ≤ length w → length x ≡ length (take m w) → length (x ++ drop m w) ≡ length w
front_length m w x h e = length-append x (drop m w) ∙ omega (arith, length-drop m w, e, length-take-le m w h)

module _ (M : Matrix) {ns : ℕ} {permutation firsts starts tasks : List ℕ} (k : Known M ns permutation firsts starts tasks) where
  past : drop M.n tasks ≡ (shape_for M).parents ++ k.tasks_rest
  past = ap (drop M.n) k.tasks_are ∙ drop_at (list (pos (parent (pattern M) M.n) M.n) M.n) _ M.n (list_length _ M.n)

  many : length (shape_for M).parents ≡ ns
  unfolding shape_of
  many = list_length _ _ ∙ sym k.number

  pub places_long : M.n + ns ≤ length tasks
  places_long = omega (arith, ap length k.tasks_are, length-append (list (pos (parent (pattern M) M.n) M.n) M.n) ((shape_for M).parents ++ k.tasks_rest), list_length (pos (parent (pattern M) M.n) M.n) M.n, length-append (shape_for M).parents k.tasks_rest, many)

  -- the parents as they are lent
  abbrev lent_parents : List ℕ
  lent_parents = take (length tasks - M.n) (drop M.n tasks)

  pub above : Above lent_parents ns
  above = rw (tail_lent M.n tasks, k.number) (shape_above (factored (pattern M) M.n) M.n (up M k.well) (drop M.n tasks) k.tasks_rest past)

  pub of : Of (shape_for M) lent_parents ns
  of = rw (tail_lent M.n tasks, k.number) (shape_of_lem (factored (pattern M) M.n) M.n (up M k.well) (drop M.n tasks) k.tasks_rest past)

  -- the order that passes number 8
  pub ordered_by : (o : Order) (l : List ℕ) (e : Stop) → order_test M o l e ≡ none → Names (shape_for M) (order_of (shape_for M) o l) × (stop_of (shape_for M) e ≤ supernodes (shape_for M))
  unfolding order_test analysis
  ordered_by o l e legal = (order_exactly (shape_for M) (ok M k.well).up (order_of (shape_for M) o l) (stop_of (shape_for M) e)).0 (no_position _ legal)

  module _ (o : Order) (l : List ℕ) (e : Stop) where
    pub refused_order : {a : Answer} → Err a ≡ passed (wrong_position (order_fault (shape_for M) (order_of (shape_for M) o l) (stop_of (shape_for M) e))) → order_test M o l e ≡ some a
    unfolding order_test analysis
    refused_order q = passed_some _ q

    module _ {u : Unit {0}} (q : Ok u ≡ passed (wrong_position (order_fault (shape_for M) (order_of (shape_for M) o l) (stop_of (shape_for M) e)))) where
      legal : order_test M o l e ≡ none
      unfolding order_test analysis
      legal = passed_none _ q

      ordered : Names (shape_for M) (order_of (shape_for M) o l) × (stop_of (shape_for M) e ≤ supernodes (shape_for M))
      ordered = ordered_by o l e legal

      long_list : o ≡ Listed → stop_of (shape_for M) e ≤ length l
      unfolding order_of
      long_list z = omega (arith, ordered.1, (let y : length l ≡ supernodes (shape_for M) = ap (λ o. length (order_of (shape_for M) o l)) (sym z) ∙ ordered.0.all in y))

      -- t is the stop count: what the names ask, over words of this length
      module _ (t : ℕ) (et : t ≡ stop_of (shape_for M) e) where
        few : t ≤ M.n
        few = omega (arith, et, ordered.1, k.number, fewer k)

        pub names_asked : (w : List ℕ) → 24 * M.n + 24 ≤ length w → (t ≤ length (take (length w - names_at M.n) (drop (names_at M.n) w))) × (o ≡ Listed → t ≤ length l)
        names_asked w long = (room (names_at M.n) t w (omega (arith, few)), λ z. omega (arith, et, long_list z))

        -- x is what number 8 leaves in the flags' place, w₂ what ready leaves, y what the names leave in their part
        module _ (w x w₂ y : List ℕ) (floats : List Float) (long : 24 * M.n + 24 ≤ length w) (lx : length x ≡ M.n + 1) (l₂ : length w₂ ≡ length w)
            (z : Laid M ns w₂ floats) (kept : Kept M.n (x ++ drop (M.n + 1) w) w₂)
            (named : t ≤ supernodes (shape_for M) → y ≡ take t (order_of (shape_for M) o l) ++ drop t (take (length w₂ - names_at M.n) (drop (names_at M.n) w₂))) where
          abbrev w₃ : List ℕ
          w₃ = put_mid (names_at M.n) (length w₂ - names_at M.n) w₂ y

          abbrev part : List ℕ
          part = take t (order_of (shape_for M) o l)

          part_long : length part ≡ t
          part_long = length-take t (order_of (shape_for M) o l) ∙ omega (arith, ordered.0.all, ordered.1, et)

          third : Wrote (names_at M.n) part w₂ w₃
          third = wrote_part (names_at M.n) t part w₂ y (omega (arith, few, l₂)) part_long (named (omega (arith, ordered.1, et)))

          first : Wrote 0 x w (x ++ drop (M.n + 1) w)
          first = wrote 0 (M.n + 1) x w (x ++ drop (M.n + 1) w) (omega arith) lx refl

          after : (d : ℕ) → starts_at M.n ≤ d → drop d w₃ ≡ drop d w₂
          after d h = third.past d (omega (arith, part_long, few))

          scratch : Laid M ns w₃ floats
          scratch = record {
            flags = λ J h. third.below J (omega (arith, fewer k)) ∙ z.flags J h;
            offsets = λ K h. third.below _ (omega (arith, fewer k)) ∙ z.offsets K h;
            parents = λ K h. third.below _ (omega (arith, fewer k)) ∙ z.parents K h;
            lower = rw (after (starts_at M.n) (omega arith), after (rows_at M.n) (omega arith)) z.lower;
          }

          pub prepared : Ordered M o l e ns w₃ floats × Kept M.n w w₃
          prepared = (
            record {
              legal = legal;
              scratch = scratch;
              names = λ p h. third.at p (omega (arith, part_long, et)) ∙ get_or-take t (order_of (shape_for M) o l) p 0 (omega (arith, et));
            },
            λ i b h. third.below i (omega arith) ∙ kept i b h ∙ wrote_above first i (omega (arith, lx)),
          )
