-- How the code's progress and the lent areas hold the frames so far. Assumes nothing.
use Rattle.std.specs.Prelude.{◌≡◌, Bool, cond, ◌&&◌, List, [], ◌∷◌, ℕ, suc, ◌+◌, ◌-◌, ◌≤◌, ◌<◌, eqb, leb, ltb, length, get_or, replicate, Float, Option, None, Some, Result, Ok, Err}
use Rattle.std.proofs.Math.Option as math
use Rattle.statement.specs.Lists.{list}
use Rattle.statement.specs.Input.{+0}
use Rattle.statement.specs.Supernodes.{below}
use Rattle.statement.specs.Areas.{held}
use Rattle.statement.specs.Job.{Phase, unbegun, storing, siding, ended, Frames, no_frames, Reading, whole, fault, read, matrix_of}
use Rattle.statement.specs.declared.Original.{Original}
use Rattle.frames.specs.declared.Progress.{Progress}
use Rattle.frames.specs.declared.Phase as code
use Rattle.frames.specs.declared.Phase.TheVariants.{Unbegun, Storing, Siding, Ended}
use Rattle.frames.specs.declared.Whole.{Whole}
use Rattle.frames.specs.declared.Fault.{Fault}

-- ---- the frames so far

-- the phases by their order, the statement's and the code's
abbrev pub stage_of : Phase → ℕ
stage_of unbegun = 0
stage_of storing = 1
stage_of siding = 2
stage_of ended = 3

abbrev pub rank : code.Phase → ℕ
rank Unbegun = 0
rank Storing = 1
rank Siding = 2
rank Ended = 3

-- the last stored column, 0 if there is none
abbrev pub last_column : List ℕ → Original
last_column columns = record { 0 = get_or columns (length columns - 1) 0 }

-- what lines that can stand leave
pub record Form (j : Frames) : Type 0 where
  pub small : j.n ≤ 128
  pub few : length j.columns ≤ 4096
  pub many : length j.rows ≡ length j.columns
  pub beside : length j.values ≡ length j.columns
  pub sides : length j.b ≤ j.n
  pub fresh : stage_of j.phase ≡ 0 → j ≡ no_frames
  pub bare : stage_of j.phase ≡ 1 → length j.b ≡ 0
  pub full : stage_of j.phase ≡ 3 → length j.b ≡ j.n
  -- no column above the last, none from n on
  pub last : (k : ℕ) → (last_column j.columns).0 < k → below k j.columns ≡ length j.columns
  pub under : (k : ℕ) → j.n ≤ k → below k j.columns ≡ length j.columns

-- ---- the tests, over the code's fields

abbrev pub begin_ok : ℕ → ℕ → Bool
begin_ok stage n = eqb stage 0 && leb n 128

abbrev pub stored_ok : ℕ → ℕ → Original → ℕ → Original → Bool
stored_ok stage n known count column = eqb stage 1 && (ltb column.0 n && (leb known.0 column.0 && ltb count 4096))

abbrev pub is_open : ℕ → Bool
is_open stage = leb 1 stage && leb stage 2

abbrev pub side_ok : ℕ → ℕ → ℕ → Original → Bool
side_ok stage n given position = is_open stage && (ltb position.0 n && eqb position.0 given)

abbrev pub end_ok : ℕ → ℕ → ℕ → Bool
end_ok stage n given = is_open stage && eqb given n

-- ---- progress and areas

-- what the code knows of its own progress
pub record Small (p : Progress) : Type 0 where
  pub n : p.n ≤ 128
  pub known : p.known.0 ≤ p.n

-- the starts of the columns to `known` are in their area
pub record Holds (p : Progress) (st ro : List ℕ) (va ri : List Float) (j : Frames) : Type 0 where
  pub form : Form j
  pub stage : rank p.phase ≡ stage_of j.phase
  pub n : p.n ≡ j.n
  pub cap : p.cap ≡ j.cap
  pub count : p.count ≡ length j.columns
  pub given : p.given ≡ length j.b
  pub last : rank p.phase < 3 → p.known ≡ last_column j.columns
  pub closed : rank p.phase ≡ 3 → p.known.0 ≡ j.n
  pub starts : st ≡ held (length st) 0 (list (λ k. below k j.columns) (suc p.known.0))
  pub rows : ro ≡ held (length ro) 0 j.rows
  pub values : va ≡ held (length va) +0 j.values
  pub right : ri ≡ held (length ri) +0 j.b

-- after one line more: the frames with it, or none
abbrev pub After : Option Progress → List ℕ → List ℕ → List Float → List Float → math.Option Frames → Type 0
After None st ro va ri math.none = Unit {0}
After (Some p) st ro va ri (math.some j) = Holds p st ro va ri j
After None st ro va ri (math.some j) = ⊥
After (Some p) st ro va ri math.none = ⊥

-- the areas' lengths suffice
pub record Enough (st ro : List ℕ) (va ri : List Float) : Type 0 where
  pub starts : 129 ≤ length st
  pub rows : 4096 ≤ length ro
  pub values : 4096 ≤ length va
  pub right : 128 ≤ length ri

-- every area is zero over the length that it had
pub record Cleared (st₀ ro₀ : List ℕ) (va₀ ri₀ : List Float) (st ro : List ℕ) (va ri : List Float) : Type 0 where
  pub starts : st ≡ replicate (length st₀) 0
  pub rows : ro ≡ replicate (length ro₀) 0
  pub values : va ≡ replicate (length va₀) +0
  pub right : ri ≡ replicate (length ri₀) +0

-- ---- a whole text

abbrev pub reading_of : List ℕ → Reading
reading_of text = read text no_frames 1 []

abbrev pub answer_of : Reading → Result Whole Fault
answer_of (whole j) = Ok (record { n = j.n; cap = j.cap; entries = length j.columns })
answer_of (fault k) = Err (record { line = k })

-- the job's lists, none on a fault
abbrev pub starts_in : Reading → List ℕ
starts_in (whole j) = (matrix_of j).starts
starts_in (fault k) = []

abbrev pub rows_in : Reading → List ℕ
rows_in (whole j) = j.rows
rows_in (fault k) = []

abbrev pub values_in : Reading → List Float
values_in (whole j) = j.values
values_in (fault k) = []

abbrev pub right_in : Reading → List Float
right_in (whole j) = j.b
right_in (fault k) = []

-- areas as long as those before hold the job's lists from the start, and zeros after them
pub record Kept (st₀ ro₀ : List ℕ) (va₀ ri₀ : List Float) (g : Reading) (st ro : List ℕ) (va ri : List Float) : Type 0 where
  pub starts : st ≡ held (length st₀) 0 (starts_in g)
  pub rows : ro ≡ held (length ro₀) 0 (rows_in g)
  pub values : va ≡ held (length va₀) +0 (values_in g)
  pub right : ri ≡ held (length ri₀) +0 (right_in g)

-- what a scan of a text leaves: its answer, and the areas of a job
pub record Scanned (g : Reading) (r : Result Whole Fault) (st ro : List ℕ) (va ri : List Float) : Type 0 where
  pub answer : r ≡ answer_of g
  pub kept : (j : Frames) → g ≡ whole j → Kept st ro va ri (whole j) st ro va ri

-- what reading a job leaves: its answer, and the areas
pub record Done (g : Reading) (r : Result Whole Fault) (st₀ ro₀ : List ℕ) (va₀ ri₀ : List Float) (st ro : List ℕ) (va ri : List Float) : Type 0 where
  pub answer : r ≡ answer_of g
  pub kept : Kept st₀ ro₀ va₀ ri₀ g st ro va ri

-- how many bytes stand before the first LF, or in all where there is none
unfoldable pub line_len : List ℕ → ℕ
line_len [] = 0
line_len (b ∷ s) = cond (eqb b 10) 0 (line_len s + 1)
