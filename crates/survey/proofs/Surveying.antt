-- From the tests and lists of each phase to those of the survey. Assumes nothing.
use mathlib.Core.Path.{◌≡◌, refl, sym, ap, ◌∙◌}
use mathlib.Core.Bool.{Bool}
use mathlib.Core.List.{List, ◌++◌}
use mathlib.Core.Option.{none, some}
use Prim.Native.Nat.{ℕ, suc, ◌+◌, ◌-◌, ◌*◌, ◌≤◌}
use native.Mathlib.Omega.{arith}
use lib.ListN.{length, take, drop, replicate, length-append}
use Rattle.statement.specs.Lists.{list}
use Rattle.statement.specs.Input.{Matrix, WellFormed, pattern}
use Rattle.statement.specs.Fill.{parent, count, entries}
use Rattle.statement.specs.Postorder as postorder
use Rattle.statement.specs.Supernodes.{shape_of, updates, update_starts}
use Rattle.statement.specs.Answers.{test, or_else}
use Rattle.statement.specs.Areas.{short, needs}
use Rattle.statement.specs.Calls.{analysis, factor_needs, factor_later, later}
use Rattle.statement.specs.declared.Answer.{Answer}
use Rattle.statement.specs.declared.Answer.TheVariants.{WrongStructure}
use Rattle.statement.specs.declared.Room.{Room}
use Rattle.laws.specs.Numbered.{factored, shape, shape_for}
use Rattle.laws.proofs.Exactly.{structure_never}
use Rattle.laws.proofs.Stages.{short_passed}
use Rattle.laws.proofs.Input.{upper}
use Rattle.laws.proofs.FactorTree.{upper'}
use Rattle.laws.proofs.Fill.{parent_above, parent_to}
use Rattle.laws.proofs.Postorder.{length_postorder}
use Rattle.laws.proofs.Shapes.{firsts_length}
use Rattle.laws.proofs.Ranks.{list_length}
use Rattle.areas.proofs.Lists.{front_take}
use Rattle.areas.proofs.Held.{held_over}
use Rattle.measure.specs.Sized.{measure_fault, Sized}
use Rattle.laws.proofs.Passed.{or_none, or_some}
use Rattle.analysis.specs.Phases.{Enough, Numbered, Analysed, later_needs}
use Rattle.updates.specs.Layout.{places_at, owners_at}
use Rattle.survey.specs.Laid.{structure_fault, Laid, Blank}
use Rattle.survey.specs.declared.Findings.{Findings}
use Rattle.survey.proofs.Zeros.{zeros_over, zeros_length, zeros_after}
use Rattle.survey.proofs.Laying.{to_lay}

module _ (M : Matrix) (cap : ℕ) (r : Room) where
  pub at_measure : {a : Answer} → measure_fault M cap r ≡ some a → structure_fault M cap r ≡ some a
  unfolding structure_fault
  at_measure e = or_some (measure_fault M cap r) _ e

  -- what areas 9 to 11 need, by the entries counted
  same_needs : (e : ℕ) → e ≡ entries (pattern M) M.n → later_needs (pattern M) M.n e r ≡ factor_later (analysis M) r
  unfolding factor_later later analysis
  same_needs e q = rw q

  module _ (calm : measure_fault M cap r ≡ none) (e : ℕ) (q : e ≡ entries (pattern M) M.n) where
    pub at_later : {a : Answer} → short (later_needs (pattern M) M.n e r) ≡ some a → structure_fault M cap r ≡ some a
    unfolding structure_fault
    at_later h = or_none (measure_fault M cap r) _ calm ∙ or_some (short (factor_later (analysis M) r)) _ (sym (ap short (same_needs e q)) ∙ h)

    module _ (well : WellFormed M) (b : short (later_needs (pattern M) M.n e r) ≡ none) where
      pub enough_later : short (factor_later (analysis M) r) ≡ none
      enough_later = sym (ap short (same_needs e q)) ∙ b

      pub past_later : structure_fault M cap r ≡ none
      unfolding structure_fault test
      past_later = or_none (measure_fault M cap r) _ calm ∙ or_none (short (factor_later (analysis M) r)) _ enough_later ∙ rw (structure_never M well)

-- how long the areas are once the needs are met
pub record Long (n : ℕ) (r : Room) : Type 0 where
  pub one : n ≤ r.permutation
  pub two : n + 1 ≤ r.firsts
  pub three : n + 1 ≤ r.starts
  pub four : n + 1 ≤ r.groups
  pub five : n + n ≤ r.tasks
  pub six : n ≤ r.top
  pub seven : 24 * n + 24 ≤ r.words

pub long : (M : Matrix) (r : Room) → short (factor_needs M r) ≡ none → Long M.n r
unfolding factor_needs needs
long M r e = let m = (short_passed _).0 e in record {
  one = m 0 (omega arith);
  two = m 1 (omega arith);
  three = m 2 (omega arith);
  four = m 3 (omega arith);
  five = omega (arith, m 4 (omega arith));
  six = m 5 (omega arith);
  seven = omega (arith, m 6 (omega arith));
}

module _ (M : Matrix) (cap : ℕ) (r : Room) {permutation₀ firsts₀ starts₀ groups₀ tasks₀ top₀ words₀ nine₀ : List ℕ} (blank : Blank r permutation₀ firsts₀ starts₀ groups₀ tasks₀ top₀ words₀ nine₀)
    (many work' : ℕ) (groups₁ tasks₁ top₁ : List ℕ) (sized : Sized M cap r many work' groups₀ tasks₀ top₀ groups₁ tasks₁ top₁) where
  n : ℕ
  n = M.n

  l : Long M.n r
  l = long M r sized.room

  -- ---- what the building asks

  pub words_long : 24 * M.n + 24 ≤ length words₀
  words_long = omega (arith, l.seven, blank.seven)

  pub groups_long : M.n + 1 ≤ length groups₀
  groups_long = omega (arith, l.four, zeros_length 0 {m = r.groups} blank.four)

  pub parents_there : take M.n top₁ ≡ list (parent (pattern M) M.n) M.n
  parents_there = ap (take M.n) sized.six ∙ front_take (list (parent (pattern M) M.n) M.n) top₀ M.n (list_length _ M.n)

  pub counts_there : take M.n groups₁ ≡ list (count (pattern M) M.n) M.n
  counts_there = ap (take M.n) sized.four ∙ front_take (list (count (pattern M) M.n) M.n) groups₀ M.n (list_length _ M.n)

  module _ (g : length groups₁ ≡ length groups₀) (k : length tasks₁ ≡ length tasks₀) (o : length top₁ ≡ length top₀) where
    pub enough : (owners : List ℕ) → M.n ≤ length owners → Enough M.n permutation₀ firsts₀ starts₀ groups₁ tasks₁ top₁ owners
    enough owners h = record {
      one = omega (arith, l.one, zeros_length 0 {m = r.permutation} blank.one);
      two = omega (arith, l.two, zeros_length 0 {m = r.firsts} blank.two);
      three = omega (arith, l.three, zeros_length 0 {m = r.starts} blank.three);
      four = omega (arith, l.four, g, zeros_length 0 {m = r.groups} blank.four);
      five = omega (arith, l.five, k, zeros_length 0 {m = r.tasks} blank.five);
      six = omega (arith, l.six, o, zeros_length 0 {m = r.top} blank.six);
      seven = h;
    }

    -- ---- what it leaves

    module _ (x : Findings) (ns : ℕ) {permutation firsts starts groups tasks owners nine : List ℕ}
        (z : Analysed (pattern M) M.n many r ns x.rows x.updates permutation₀ firsts₀ starts₀ groups₁ tasks₁ (replicate r.rows 0) permutation firsts starts groups tasks owners nine)
        (xs : x.supernodes ≡ ns) (xe : x.entries ≡ many) (xw : x.work ≡ work') where
      h : Numbered (pattern M) M.n ns x.rows permutation₀ firsts₀ starts₀ tasks₁ permutation firsts starts tasks owners
      h = z.numbered

      firsts_many : suc ns ≡ length (shape_for M).firsts
      unfolding shape_of
      firsts_many = ap suc h.number ∙ sym (firsts_length (factored (pattern M) M.n) M.n (upper' (pattern M) M.n (upper M.n M.starts M.rows sized.well.columns)))

      starts_many : suc ns ≡ length (shape_for M).starts
      unfolding shape_of
      starts_many = ap suc h.number ∙ sym (list_length _ _)

      groups_many : suc ns ≡ length (update_starts (shape_for M))
      unfolding update_starts
      groups_many = ap suc h.number ∙ sym (list_length _ _)

      order_many : M.n ≡ length (postorder.permutation (pattern M) M.n)
      unfolding postorder.permutation
      order_many = sym (length_postorder (parent (pattern M) M.n) M.n (parent_above (pattern M) M.n) (parent_to (pattern M) M.n))

      groups_length : length groups₁ ≡ r.groups
      groups_length = g ∙ sym (zeros_length 0 {m = r.groups} blank.four)

      pub laid : (words d : List ℕ) → M.n ≤ length owners → drop (owners_at M.n) words ≡ owners → drop (places_at M.n) words ≡ take ns groups ++ d → length words ≡ length words₀ → Laid M cap r x permutation firsts starts groups tasks words nine
      laid words d long o g k = record {
        calm = past_later M cap r sized.calm many sized.entries sized.well z.calm;
        well = sized.well;
        room = sized.room;
        later = enough_later M cap r sized.calm many sized.entries sized.well z.calm;
        many_supernodes = xs ∙ h.number;
        many_rows = h.many;
        many_updates = z.count;
        entries_are = xe ∙ sized.entries;
        work_is = xw ∙ sized.work;
        one = held_over r.permutation 0 _ M.n order_many blank.one h.one;
        two = held_over r.firsts 0 _ (suc ns) firsts_many (zeros_over (suc M.n) (M.n + 1) r.firsts firsts₀ (omega arith) (omega (arith, l.two)) blank.two) h.two;
        three = held_over r.starts 0 _ (suc ns) starts_many (zeros_over (suc M.n) (M.n + 1) r.starts starts₀ (omega arith) (omega (arith, l.three)) blank.three) h.three;
        four = held_over r.groups 0 _ (suc ns) groups_many (ap (λ m. replicate m 0) groups_length) z.four;
        rest = drop ns (drop M.n tasks₁);
        five = h.five;
        nine_holds = held_over r.rows 0 _ _ refl refl z.area_nine;
        laying = rw xs (to_lay words d sized.well.columns sized.well.small z long o g (omega (arith, k, words_long)));
      }

-- ---- zeros behind the rows: as if area 9 had been zero before

module _ {s : ℕ → ℕ → Bool} {n e : ℕ} {r : Room} {ns rows updates : ℕ} {permutation₀ firsts₀ starts₀ groups₀ tasks₀ nine₀ permutation firsts starts groups tasks words nine : List ℕ}
    (z : Analysed s n e r ns rows updates permutation₀ firsts₀ starts₀ groups₀ tasks₀ nine₀ permutation firsts starts groups tasks words nine) where
  pub rows_there : rows ≤ length nine
  rows_there = omega (arith, z.numbered.many, ap length z.area_nine, length-append (shape s n).rows (drop (length (shape s n).rows) nine₀))

  pub zeros_behind : {nine' : List ℕ} → length nine ≡ r.rows → nine' ≡ take rows nine ++ replicate (length nine - rows) 0
      → Analysed s n e r ns rows updates permutation₀ firsts₀ starts₀ groups₀ tasks₀ (replicate r.rows 0) permutation firsts starts groups tasks words nine'
  zeros_behind k q = record {
    calm = z.calm;
    numbered = z.numbered;
    count = z.count;
    four = z.four;
    area_nine = zeros_after (shape s n).rows _ r.rows z.numbered.many z.area_nine k q;
  }
