-- Which answer the tests of areas 9 to 11 and of number 12 come to. Assumes nothing.
use mathlib.Core.Path.{◌≡◌, refl, sym, ◌∙◌}
use mathlib.Core.Bool.{Bool, false}
use mathlib.Core.List.{List, [], ◌∷◌, ◌++◌}
use mathlib.Core.Option.{Option, none, some}
use Prim.Native.Nat.{ℕ, ◌≤◌, ◌<◌}
use native.Mathlib.Omega.{arith}
use lib.ListN.{length}
use borrow.Author.Tests.{lt-ltb}
use Rattle.std.specs.Prelude.{Ok, Err}
use Rattle.statement.specs.Supernodes as supernodal
use Rattle.statement.specs.Areas.{Need, rows_need, updates_need, values_need, short}
use Rattle.statement.specs.Answers.{or_else, test}
use Rattle.laws.specs.Answered.{passed}
use Rattle.laws.proofs.Passed.{passed_none, passed_some}
use Rattle.laws.proofs.Stages.{short_passed}
use Rattle.statement.specs.declared.Answer.{Answer}
use Rattle.statement.specs.declared.Answer.TheVariants.{ShortArea, WrongStructure}
use Rattle.statement.specs.declared.Room.{Room}
use Rattle.laws.specs.Numbered.{shape}
use Rattle.analysis.specs.Phases.{later_needs}

module _ (s : ℕ → ℕ → Bool) (n entries : ℕ) (r : Room) where
  -- area 9 is short
  pub nine_short : {need : ℕ} → need ≡ length (shape s n).rows → r.rows < need → short (later_needs s n entries r) ≡ some (ShortArea 9 need)
  unfolding short
  nine_short e h = rw (← e, lt-ltb _ _ h)

  -- number 12 never comes up
  same_faults : {rows updates : ℕ} {differs : Bool} → rows ≡ length (shape s n).rows → updates ≡ length (supernodal.updates (shape s n)) → differs ≡ false
      → or_else (short ((rows_need rows r ∷ updates_need updates r ∷ []) ++ (values_need entries r ∷ []))) (test differs WrongStructure none) ≡ short (later_needs s n entries r)
  unfolding test or_else
  same_faults e1 e2 e3 = rw (e1, e2, e3) (go (short (later_needs s n entries r)))
    where
      go : (o : Option Answer) → or_else o none ≡ o
      go none = refl
      go (some a) = refl

  module _ {rows updates : ℕ} {differs : Bool} (e1 : rows ≡ length (shape s n).rows) (e2 : updates ≡ length (supernodal.updates (shape s n))) (e3 : differs ≡ false) where
    pub verdict_none : {u : Unit {0}} → Ok u ≡ passed (or_else (short ((rows_need rows r ∷ updates_need updates r ∷ []) ++ (values_need entries r ∷ []))) (test differs WrongStructure none)) → short (later_needs s n entries r) ≡ none
    verdict_none e = sym (same_faults e1 e2 e3) ∙ passed_none _ e

    pub verdict_some : {a : Answer} → Err a ≡ passed (or_else (short ((rows_need rows r ∷ updates_need updates r ∷ []) ++ (values_need entries r ∷ []))) (test differs WrongStructure none)) → short (later_needs s n entries r) ≡ some a
    verdict_some e = sym (same_faults e1 e2 e3) ∙ passed_some _ e

  -- the updates fit
  pub ten_fits : short (later_needs s n entries r) ≡ none → length (supernodal.updates (shape s n)) ≤ r.updates
  ten_fits e = (short_passed _).0 e 1 (omega arith)
