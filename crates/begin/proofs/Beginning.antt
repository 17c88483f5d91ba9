-- From what the survey and number 8 leave to where the run can start. Assumes nothing.
use mathlib.Core.Path.{◌≡◌, ◌∙◌}
use mathlib.Core.List.{List}
use mathlib.Core.Option.{some}
use Prim.Native.Nat.{ℕ}
use Rattle.statement.specs.Input.{Matrix}
use Rattle.statement.specs.declared.Answer.{Answer}
use Rattle.statement.specs.declared.Order.{Order}
use Rattle.statement.specs.declared.Room.{Room}
use Rattle.statement.specs.declared.Stop.{Stop}
use Rattle.laws.proofs.Passed.{or_none, or_some}
use Rattle.survey.specs.Laid.{structure_fault, Laid}
use Rattle.survey.specs.declared.Findings.{Findings}
use Rattle.begin.specs.Begun.{begin_fault}
use Rattle.begin.specs.Ordered.{order_test}

module _ (M : Matrix) (cap : ℕ) (o : Order) (l : List ℕ) (e : Stop) (r : Room) where
  pub refused_early : {a : Answer} → structure_fault M cap r ≡ some a → begin_fault M cap o l e r ≡ some a
  unfolding begin_fault
  refused_early q = or_some (structure_fault M cap r) _ q

  pub refused_late : {s : Findings} {permutation firsts starts groups tasks words nine : List ℕ} → Laid M cap r s permutation firsts starts groups tasks words nine
      → {a : Answer} → order_test M o l e ≡ some a → begin_fault M cap o l e r ≡ some a
  unfolding begin_fault
  refused_late d q = or_none (structure_fault M cap r) _ d.calm ∙ q
