-- 02, A2: of the right sides of one call each is solved as it is alone, and none has a say in another's solution. Definitions only.
use Rattle.std.specs.Prelude.{◌≡◌, ◌≢◌, List, ℕ, ◌<◌, length, Float}
use Rattle.statement.specs.Solve.{FactorAreas, side_in, Solved, solve}
use Rattle.statement.specs.declared.Answer.TheVariants.{Accepted}
use Rattle.statement.specs.declared.Record.{Record}

module _ (R : Record) (f : FactorAreas) (k : ℕ) (b : List Float) (words floats : ℕ) where
  abbrev pub solved : Solved
  solved = solve R f k b words floats

  abbrev pub alone : ℕ → Solved
  alone j = solve R f 1 (side_in R.n b j) words floats

  pub record Apart : Type 0 where
    -- the buffer keeps its length; a refused call leaves all of it as it was, and one of no right sides does so too
    pub long : length solved.b ≡ length b
    pub refused : solved.answer ≢ Accepted → solved.b ≡ b
    pub nothing : k ≡ 0 → solved.b ≡ b
    -- where the call is accepted, each of its right sides would be alone, and at j stands what that leaves
    pub accepted : (j : ℕ) → j < k → solved.answer ≡ Accepted → (alone j).answer ≡ Accepted
    pub same : (j : ℕ) → j < k → solved.answer ≡ Accepted → side_in R.n solved.b j ≡ (alone j).b
    -- another buffer as long is answered alike, and where it has the same at j it gets the same there, whatever the others hold
    pub alike : (c : List Float) → length c ≡ length b → (solve R f k c words floats).answer ≡ solved.answer
    pub others : (c : List Float) (j : ℕ) → length c ≡ length b → j < k → side_in R.n c j ≡ side_in R.n b j → side_in R.n (solve R f k c words floats).b j ≡ side_in R.n solved.b j

-- of every record, areas, buffer and scratch
abbrev pub SidesApart : Type 0
SidesApart = (R : Record) (f : FactorAreas) (k : ℕ) (b : List Float) (words floats : ℕ) → Apart R f k b words floats
