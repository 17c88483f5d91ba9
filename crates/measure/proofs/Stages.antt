-- The tests one after another: the first that fails is answered. Assumes nothing.
use mathlib.Core.Path.{◌≡◌, ◌∙◌}
use mathlib.Core.List.{List}
use mathlib.Core.Option.{none, some}
use Prim.Native.Nat.{ℕ, ◌+◌, ◌*◌, ◌≤◌, ◌<◌}
use native.Mathlib.Omega.{arith}
use lib.Dec.{ltb}
use borrow.Author.Tests.{lt-ltb, le-ltb}
use Rattle.statement.specs.Input.{Matrix, WellFormed, pattern}
use Rattle.statement.specs.Fill.{entries}
use Rattle.statement.specs.Answers.{test}
use Rattle.statement.specs.Areas.{needs, short}
use Rattle.statement.specs.Calls.{input_fault, factor_needs}
use Rattle.laws.proofs.Faults.{no_fault}
use Rattle.laws.proofs.Passed.{or_none, or_some}
use Rattle.laws.proofs.Stages.{short_passed}
use Rattle.statement.specs.declared.Answer.{Answer}
use Rattle.statement.specs.declared.Answer.TheVariants.{OverCap}
use Rattle.statement.specs.declared.Room.{Room}
use Rattle.measure.specs.Sized.{measure_fault}

module _ (M : Matrix) (cap : ℕ) (r : Room) where
  pub at_input : {a : Answer} → input_fault M ≡ some a → measure_fault M cap r ≡ some a
  unfolding measure_fault
  at_input e = or_some (input_fault M) _ e

  module _ (well : WellFormed M) where
    no_input : input_fault M ≡ none
    no_input = no_fault M well

    pub at_room : {a : Answer} → short (factor_needs M r) ≡ some a → measure_fault M cap r ≡ some a
    unfolding measure_fault
    at_room e = or_none (input_fault M) _ no_input ∙ or_some (short (factor_needs M r)) _ e

    module _ (enough : short (factor_needs M r) ≡ none) where
      to_cap : measure_fault M cap r ≡ test (ltb cap (entries (pattern M) M.n)) (OverCap (entries (pattern M) M.n) cap) none
      unfolding measure_fault
      to_cap = or_none (input_fault M) _ no_input ∙ or_none (short (factor_needs M r)) _ enough

      pub at_cap : (e : ℕ) → e ≡ entries (pattern M) M.n → cap < e → measure_fault M cap r ≡ some (OverCap e cap)
      unfolding test
      at_cap e q h = rw (to_cap, ← q, lt-ltb cap e h)

      pub past_cap : (e : ℕ) → e ≡ entries (pattern M) M.n → e ≤ cap → measure_fault M cap r ≡ none
      unfolding test
      past_cap e q h = rw (to_cap, ← q, le-ltb cap e h)

      pub long : (M.n + 1 ≤ r.groups) × (2 * M.n ≤ r.tasks) × (M.n ≤ r.top)
      unfolding factor_needs needs
      long = let m = (short_passed _).0 enough in (m 3 (omega arith), m 4 (omega arith), m 5 (omega arith))
