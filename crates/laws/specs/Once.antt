-- 01, "Nothing left to choose": over the promises that the `ensures` of the calls cite, one outcome alone keeps each. Definitions only.
use Rattle.std.specs.Prelude.{◌≡◌, List, ℕ, Float}
use Rattle.statement.specs.Input.{Matrix}
use Rattle.statement.specs.Calls.{analyse, Analyses, factor, Factors}
use Rattle.statement.specs.Solve.{FactorAreas, solve, Solves, view, Views}
use Rattle.statement.specs.Job.{job, answer_in, Works}
use Rattle.statement.specs.declared.Factored.{Factored}
use Rattle.statement.specs.declared.Record.{Record}
use Rattle.statement.specs.declared.Order.{Order}
use Rattle.statement.specs.declared.Stop.{Stop}
use Rattle.statement.specs.declared.Room.{Room}

-- a keeps the promise P, and no second does
pub record Once {A : Type 0} (P : A → Type 0) (a : A) : Type 0 where
  pub kept : P a
  pub only : (x : A) → P x → x ≡ a

-- of the four calls, and of a job
pub record NothingLeft : Type 0 where
  pub analyses : (M : Matrix) (cap : ℕ) (r : Room) → Once (Analyses M cap r) (analyse M cap r)
  pub factors : (M : Matrix) (cap : ℕ) (o : Order) (l : List ℕ) (e : Stop) (r : Room) → Once (Factors M cap o l e r) (factor M cap o l e r)
  pub solves : (R : Record) (f : FactorAreas) (k : ℕ) (b : List Float) (words floats : ℕ) → Once (Solves R f k b words floats) (solve R f k b words floats)
  pub views : (R : Record) (f : FactorAreas) (q : Factored) → Once (Views R f q) (view R f q)
  pub works : (text buffer : List ℕ) → Once (Works text buffer) (answer_in (job text) buffer)
