-- From what is factored and solved to what the statement writes. Assumes nothing.
use mathlib.Core.Path.{◌≡◌, refl, ap, ◌∙◌}
use mathlib.Core.Logic.{◌≢◌}
use mathlib.Core.Bool.{true, false, cond}
use mathlib.Core.List.{List, ◌++◌}
use Prim.Native.Nat.{ℕ}
use native.Mathlib.Nat.{zero-add}
use lib.ListN.{length, drop}
use lib.Ieee.{Float}
use Rattle.statement.specs.Solve.{FactorAreas, Solved, solve}
use Rattle.statement.specs.Job.{Frames, whole, refusal, success, is_accepted, written, Printed, answer_in}
use Rattle.statement.specs.declared.Answer.{Answer}
use Rattle.statement.specs.declared.Answer.TheVariants.{Accepted, OverLimit, WrongLengths, WrongStarts, WrongColumn, ShortArea, OverCap, WrongOrder, WrongPivot, WrongSide, NoFactor, WrongStructure, WrongFrame, ManySides}
use Rattle.statement.specs.declared.Outcome.{Outcome}
use Rattle.lines.specs.Placed.{placed}
use Rattle.reply.specs.Made.{Made}

refused : (a : Answer) → a ≢ Accepted → is_accepted a ≡ false
unfolding is_accepted
refused Accepted h = absurd (h refl)
refused OverLimit h = refl
refused (WrongLengths which) h = refl
refused (WrongStarts position) h = refl
refused (WrongColumn k) h = refl
refused (ShortArea area need) h = refl
refused (OverCap entries cap) h = refl
refused (WrongOrder position) h = refl
refused (WrongPivot k) h = refl
refused (WrongSide length) h = refl
refused NoFactor h = refl
refused WrongStructure h = refl
refused (WrongFrame line) h = refl
refused ManySides h = refl

-- an outcome and a solution, written
told : Outcome → List Float → List ℕ
told x s = cond (is_accepted x.answer) (success x.«record».entries x.«record».supernodes s) (refusal x.answer)

told_no : (x : Outcome) (s : List Float) → x.answer ≢ Accepted → refusal x.answer ≡ told x s
unfolding told
told_no x s h = rw (refused x.answer h)

told_yes : (x : Outcome) (s : List Float) → x.answer ≡ Accepted → success x.«record».entries x.«record».supernodes s ≡ told x s
unfolding told is_accepted
told_yes x s h = let e : is_accepted x.answer ≡ true = ap is_accepted h in rw e

module _ (j : Frames) {x : Outcome} {f : FactorAreas} {b : List Float} {words floats : ℕ} (m : Made j x f b words floats) where
  told_is : told x (solve x.«record» f 1 b words floats).b ≡ written (whole j)
  unfolding written told
  told_is = λ i. told (m.out i) (solve (m.out i).«record» (m.factor_areas i) 1 (m.right i) (m.seven i) (m.eight i)).b

  pub refused_is : x.answer ≢ Accepted → refusal x.answer ≡ written (whole j)
  refused_is h = told_no x _ h ∙ told_is

  pub accepted_is : (s : Solved) → x.answer ≡ Accepted → s ≡ solve x.«record» f 1 b words floats → success x.«record».entries x.«record».supernodes s.b ≡ written (whole j)
  accepted_is s h z = told_yes x s.b h ∙ ap (λ t. told x t.b) z ∙ told_is

-- ---- the buffer

-- placed at the start, as the statement says it
at_start : (out₀ s : List ℕ) → placed out₀ 0 s ≡ s ++ drop (length s) out₀
unfolding placed
at_start out₀ s = ap (λ k. s ++ drop k out₀) (zero-add (length s))

pub placed_is : (out₀ : List ℕ) {s t out : List ℕ} {r : ℕ} → s ≡ t → (out ≡ placed out₀ 0 s) × (r ≡ length s) → record { out = out; bytes = r } ≡ answer_in t out₀
unfolding answer_in
placed_is out₀ {s} e w = (λ i. record { out = (w.0 ∙ at_start out₀ s) i; bytes = w.1 i }) ∙ ap (λ a. answer_in a out₀) e

-- another name of the answer
pub answer_as : (out₀ : List ℕ) {s t : List ℕ} {x : Printed} → s ≡ t → x ≡ answer_in s out₀ → x ≡ answer_in t out₀
answer_as out₀ e w = w ∙ ap (λ a. answer_in a out₀) e
