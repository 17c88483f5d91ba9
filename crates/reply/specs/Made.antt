-- What is known of a job's factor where its answer is written. Definitions only.
use Rattle.std.specs.Prelude.{◌≡◌, List, ℕ, Float}
use Rattle.statement.specs.Solve.{FactorAreas}
use Rattle.statement.specs.Job.{Frames, job_room}
use Rattle.statement.specs.declared.Outcome.{Outcome}
use Rattle.laws.specs.Jobs.{factored, areas}

-- an outcome, areas and a right side are the job's, and the scratch is as long as a job's
pub record Made (j : Frames) (x : Outcome) (f : FactorAreas) (b : List Float) (words floats : ℕ) : Type 0 where
  pub out : x ≡ (factored j).returned
  pub factor_areas : f ≡ areas j
  pub right : b ≡ j.b
  pub seven : words ≡ job_room.words
  pub eight : floats ≡ job_room.floats
