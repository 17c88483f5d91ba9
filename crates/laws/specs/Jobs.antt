-- 01, "Job frames": "Values area: 8,192; the others suffice", and so does the scratch of the solve. Definitions only.
use Rattle.std.specs.Prelude.{◌≡◌, List, [], ℕ}
use Rattle.statement.specs.Calls.{Settled, factor}
use Rattle.statement.specs.Solve.{FactorAreas, factored_in, shape_in, solution, Solved, solve}
use Rattle.statement.specs.Job.{Frames, no_frames, whole, read, matrix_of, job_room}
use Rattle.statement.specs.declared.Answer.TheVariants.{Accepted, ShortArea}
use Rattle.statement.specs.declared.Order.TheVariants.{Plain}
use Rattle.statement.specs.declared.Record.{Record}
use Rattle.statement.specs.declared.Stop.TheVariants.{End}

module _ (j : Frames) where
  -- what factor and then solve leave of a job, as `written` calls them
  abbrev pub factored : Settled
  factored = factor (matrix_of j) j.cap Plain [] End job_room

  abbrev pub summary : Record
  summary = factored.returned.«record»

  abbrev pub areas : FactorAreas
  areas = factored_in factored.areas

  abbrev pub solved : Solved
  solved = solve summary areas 1 j.b job_room.words job_room.floats

  pub record Suffices : Type 0 where
    -- number 5 can only name area 11
    pub eleven : (a d : ℕ) → factored.returned.answer ≡ ShortArea a d → a ≡ 11
    -- where factor accepts, solve does, and what is printed is the solution, not b handed back
    pub accepted : factored.returned.answer ≡ Accepted → solved.answer ≡ Accepted
    pub printed : factored.returned.answer ≡ Accepted → solved.b ≡ solution summary.n areas.permutation (shape_in summary areas) areas.values j.b

-- of every text that reads as a whole job
abbrev pub JobsSuffice : Type 0
JobsSuffice = (text : List ℕ) (j : Frames) → read text no_frames 1 [] ≡ whole j → Suffices j
