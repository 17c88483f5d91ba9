-- The run over, number 9, and what factor leaves. Definitions only.
use Rattle.std.specs.Prelude.{◌≡◌, List, ℕ, ltb, Float}
use Rattle.std.proofs.Math.Option.{Option, none}
use Rattle.statement.specs.Input.{Matrix, +0}
use Rattle.statement.specs.Postorder.{to_original}
use Rattle.statement.specs.Run.{State}
use Rattle.statement.specs.Answers.{test}
use Rattle.statement.specs.Areas.{held}
use Rattle.statement.specs.Calls.{Settled, analysis, stop_of, state_after, factor_fault}
use Rattle.statement.specs.declared.Answer.{Answer}
use Rattle.statement.specs.declared.Answer.TheVariants.{WrongPivot}
use Rattle.statement.specs.declared.Factored.{Factored}
use Rattle.statement.specs.declared.Order.{Order}
use Rattle.statement.specs.declared.Outcome.{Outcome}
use Rattle.statement.specs.declared.Room.{Room}
use Rattle.statement.specs.declared.Stop.{Stop}
use Rattle.statement.specs.declared.Update.{Update}
use Rattle.survey.specs.Laid.{Laid}
use Rattle.survey.specs.Settles.{SettlesPlain}
use Rattle.survey.specs.declared.Findings.{Findings}
use Rattle.begin.specs.Ordered.{order_test}

-- the state after the first t
abbrev pub ran : Matrix → Order → List ℕ → Stop → State
ran M o l e = state_after M (analysis M) o l (stop_of (analysis M).shape e)

-- 9
unfoldable pub pivot_test : Matrix → Order → List ℕ → Stop → Option Answer
pivot_test M o l e = test (ltb (ran M o l e).least.0 M.n) (WrongPivot (to_original (analysis M).permutation (ran M o l e).least)) none

-- all of factor's tests
abbrev pub fault_of : Matrix → ℕ → Order → List ℕ → Stop → Room → Option Answer
fault_of M cap o l e r = factor_fault M cap o l (stop_of (analysis M).shape e) r (analysis M) (ran M o l e)

-- the structure, a legal order, and what its run leaves; the words as they were before the updates were laid
pub record Over (M : Matrix) (cap : ℕ) (o : Order) (l : List ℕ) (e : Stop) (r : Room) (x : Findings) (least : Factored) (permutation firsts starts groups tasks nine : List ℕ) (values : List Float) : Type 0 where
  pub words : List ℕ
  pub laid : Laid M cap r x permutation firsts starts groups tasks words nine
  pub legal : order_test M o l e ≡ none
  pub filled : values ≡ held r.values +0 (ran M o l e).values
  pub low : least ≡ (ran M o l e).least

-- what factor leaves in all areas but the updates
pub record FactorSettlesPlain (said : Settled) (x : Outcome) (permutation firsts starts groups tasks top words : List ℕ) (floats : List Float) (nine : List ℕ) (values : List Float) : Type 0 where
  pub structure : SettlesPlain said x permutation firsts starts groups tasks top words nine
  pub eight : floats ≡ said.areas.floats
  pub eleven : values ≡ said.areas.values

-- and in the updates
pub record FactorSettles (said : Settled) (x : Outcome) (permutation firsts starts groups tasks top words : List ℕ) (floats : List Float) (nine : List ℕ) (ten : List Update) (values : List Float) : Type 0 where
  pub plain : FactorSettlesPlain said x permutation firsts starts groups tasks top words floats nine values
  pub ten_holds : ten ≡ said.areas.updates
