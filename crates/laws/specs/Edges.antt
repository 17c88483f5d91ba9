-- 01, "Sizes at the edges": the rows marked *, as cases and what 01 says of each, and rows for 02, A2. Definitions only.
use Rattle.std.specs.Prelude.{Bool, true, false, List, [], ◌∷◌, ◌++◌, map, ℕ, zero, suc, ◌+◌, ◌*◌, Float}
use Rattle.std.specs.Float.{binary64}
use Rattle.std.specs.Float.Ieee.{add, sub, neg, mul, div, lt, of_bits, to_bits, round, span, climb, odd, units}
use Rattle.std.specs.Float.Ieee as ieee
use Rattle.std.specs.Int.Count.{count_trailing_zeros}
use Rattle.statement.specs.Lists.{has, place, list, joined, rising, every, select, least, tally, sum}
use Rattle.statement.specs.Input.{Matrix, value, wrong_start_at, good_rows, rows_length}
use Rattle.statement.specs.Fill.{after, fill, parent}
use Rattle.statement.specs.Postorder.{forest, postorder, permutation, renumbered}
use Rattle.statement.specs.Shape.{rows_of, trapezoid, offset, stretch, put, zeros}
use Rattle.statement.specs.Shape as shape
use Rattle.statement.specs.Supernodes.{joins, begins, first_columns, owner, shape_of, below, update, updates_of, updates, update_starts}
use Rattle.statement.specs.Tasks.{weight, load, subtree_start, share, fitting, climbed, with_top, with_task, split, split_of}
use Rattle.statement.specs.Tasks as tasks
use Rattle.statement.specs.Root.{finite, abs, magnitude, root_from, whole_root, near_root, root_of_units, root}
use Rattle.statement.specs.Rules.{tolerance, passes, dot, singly, look, and_then, earlier, within, entry, pivot_column, extend, grow, step}
use Rattle.statement.specs.Run.{blank, blocked, fate_of, settle, fate, run, ready, first_bad, order_fault}
use Rattle.statement.specs.Answers.{test, or_else}
use Rattle.statement.specs.Areas.{needs, short, held, flat}
use Rattle.statement.specs.Solve.{Solved, factored_in, shape_in, full_record, permutes, rising_columns, good_supernode, rising_rows, sized, viewable, solvable, rows_in, start_in, values_in, less_below, less_above, forward_at, forward, backward_at, backward, solution, side_in, solutions, sides_fault, solve_fault, settled_solve, solve}
use Rattle.statement.specs.Job.{hex_digit, hex_value, hex, value_from, frame, frame_of, no_frames, begun, with_stored, with_side, finished, takes, next, at_end, read, matrix_of, job_room, refusal, success, is_accepted, written}
use Rattle.statement.specs.Job as jobs
use Rattle.statement.specs.Calls.{Analysis, analyse, analyse_fault, structure_room, input_fault, analysis, entry_a, Settled, record_of, areas_of, cleared, settled, later, factor_needs, factor_later, order_of, wrong_position, state_after, factor_fault, factor}
use Rattle.statement.specs.declared.Original.{Original}
use Rattle.statement.specs.declared.Answer.{Answer}
use Rattle.statement.specs.declared.Answer.TheVariants.{Accepted, OverCap, WrongOrder, WrongPivot, WrongSide, ManySides}
use Rattle.statement.specs.declared.Record.{Record}
use Rattle.statement.specs.declared.Stage.TheVariants.{Empty, Analysed, Full}
use Rattle.statement.specs.declared.Order.{Order}
use Rattle.statement.specs.declared.Order.TheVariants.{Plain, Listed}
use Rattle.statement.specs.declared.Stop.{Stop}
use Rattle.statement.specs.declared.Stop.TheVariants.{End}
use Rattle.statement.specs.declared.Room.{Room}

-- ---- the cases

pub data Case : Type 0 where
  analysing : Matrix → (cap : ℕ) → Case
  factoring : Matrix → (cap : ℕ) → Order → (list : List ℕ) → Stop → Case
  solving : Matrix → (cap : ℕ) → (sides : ℕ) → (b : List Float) → Case
  rooting : Float → Case
  weighing : Matrix → (supernode : ℕ) → Case
  running : (input : List ℕ) → Case

-- the answer, the record, the permutation, and the bits of the values and of the unknowns; of a column the bits of its pivot, of the
-- threshold 1e-10·|A(j,j)| and of the pivot's root, and whether it passes
pub data Result : Type 0 where
  called : Answer → Record → (permutation : List ℕ) → (values : List ℕ) → Result
  solution# : Answer → (unknowns : List ℕ) → Result
  rooted : ℕ → Result
  weighed : (pivot threshold : ℕ) → (passed : Bool) → («root» : ℕ) → Result
  wrote : (output : List ℕ) → Result

-- areas as long as a matrix needs whose L has `cap` entries
abbrev room : Matrix → ℕ → Room
room M cap = record {
  permutation = M.n;
  firsts = M.n + 1;
  starts = M.n + 1;
  groups = M.n + 1;
  tasks = 2 * M.n;
  top = M.n;
  words = 24 * M.n + rows_length M + 24;
  floats = rows_length M + M.n;
  rows = cap;
  updates = cap;
  values = cap;
}

unfoldable bits_of : List Float → List ℕ
bits_of = map (to_bits binary64)

unfoldable read_of : Settled → Result
unfolding bits_of
read_of o = called o.returned.answer o.returned.«record» o.areas.permutation (bits_of o.areas.values)

unfoldable solved_of : Solved → Result
unfolding bits_of
solved_of s = solution# s.answer (bits_of s.b)

-- the first column of supernode K, once the supernodes before it have run
unfoldable weighed_of : Matrix → ℕ → Result
weighed_of M K =
    let X : Analysis = analysis M in
    let A : ℕ → ℕ → Float = entry_a M X.permutation in
    let j : ℕ = shape.first X.shape K in
    let d : Float = entry X.shape A (state_after M X Plain [] K).values [] K j 0 in
    weighed (to_bits binary64 d) (to_bits binary64 (mul binary64 tolerance (abs (A j j)))) (passes (A j j) d) (to_bits binary64 (root d))

unfoldable pub result_of : Case → Result
unfolding read_of factored_in solved_of bits_of weighed_of
    jobs.job written is_accepted success refusal job_room matrix_of read at_end next takes finished with_side with_stored begun no_frames frame_of frame value_from hex hex_value hex_digit
    solve settled_solve solve_fault sides_fault solutions side_in solution backward backward_at forward forward_at less_above less_below values_in start_in rows_in solvable viewable sized rising_rows good_supernode rising_columns permutes full_record shape_in
    analyse analyse_fault structure_room input_fault analysis entry_a record_of areas_of cleared settled later factor_needs factor_later order_of wrong_position state_after factor_fault factor
    needs short held flat test or_else
    blank blocked fate_of settle fate run ready first_bad order_fault
    tolerance passes dot singly look and_then earlier within entry pivot_column extend grow step
    finite abs magnitude root_from whole_root near_root root_of_units root
    weight load subtree_start share fitting climbed with_top with_task split split_of tasks.in_subtree
    joins begins first_columns owner shape_of below update updates_of updates update_starts
    rows_of trapezoid offset stretch put zeros shape.size
    forest postorder permutation renumbered after fill parent value wrong_start_at good_rows
    has place list joined rising every select least tally sum
    add sub neg mul div lt of_bits to_bits round span climb odd units count_trailing_zeros ieee.size
result_of (analysing M cap) = read_of (analyse M cap (room M cap))
result_of (factoring M cap o l e) = read_of (factor M cap o l e (room M 11))
result_of (solving M cap k b) =
    let o : Settled = factor M cap Plain [] End (room M cap) in
    solved_of (solve o.returned.«record» (factored_in o.areas) k b M.n M.n)
result_of (rooting x) = rooted (to_bits binary64 (root x))
result_of (weighing M K) = weighed_of M K
result_of (running i) = wrote (jobs.job i)

-- ---- the matrices

abbrev num : ℕ → Float
num k = round binary64 false k 1

unfoldable pub none' : Matrix
none' = record { n = 0; starts = 0 ∷ []; rows = []; values = [] }

-- n = 1, A = 4, and nothing stored
unfoldable pub single : Matrix
single = record { n = 1; starts = 0 ∷ 1 ∷ []; rows = 0 ∷ []; values = num 4 ∷ [] }

unfoldable pub bare : Matrix
bare = record { n = 1; starts = 0 ∷ 0 ∷ []; rows = []; values = [] }

unfoldable pub job : Matrix
job = record { n = 2; starts = 0 ∷ 1 ∷ 3 ∷ []; rows = 0 ∷ 0 ∷ 1 ∷ []; values = num 4 ∷ num 2 ∷ num 5 ∷ [] }

unfoldable pub three : Matrix
three = record { n = 3; starts = 0 ∷ 1 ∷ 3 ∷ 5 ∷ []; rows = 0 ∷ 0 ∷ 1 ∷ 0 ∷ 2 ∷ []; values = num 1 ∷ num 1 ∷ num 2 ∷ num 1 ∷ num 3 ∷ [] }

-- n = 6, column 5 above its diagonal 99999, 447, 13, 4, x
unfoldable pub fan : ℕ → Matrix
fan x = record {
  n = 6;
  starts = 0 ∷ 1 ∷ 2 ∷ 3 ∷ 4 ∷ 5 ∷ 11 ∷ [];
  rows = 0 ∷ 1 ∷ 2 ∷ 3 ∷ 4 ∷ 0 ∷ 1 ∷ 2 ∷ 3 ∷ 4 ∷ 5 ∷ [];
  values = num 1 ∷ num 1 ∷ num 1 ∷ num 1 ∷ num 1 ∷ num 99999 ∷ num 447 ∷ num 13 ∷ num 4 ∷ num x ∷ num 10000000000 ∷ [];
}

-- n = 4, stored (0,2), (1,3), (2,3) and diagonals: off-diagonals 0, A(0,0) = A(1,1) = 0, the other diagonals 1
unfoldable pub four : Matrix
four = record { n = 4; starts = 0 ∷ 1 ∷ 2 ∷ 4 ∷ 7 ∷ []; rows = 0 ∷ 1 ∷ 0 ∷ 2 ∷ 1 ∷ 2 ∷ 3 ∷ []; values = num 0 ∷ num 0 ∷ num 0 ∷ num 1 ∷ num 0 ∷ num 0 ∷ num 1 ∷ [] }

-- the job's lines, as 01 prints them
unfoldable line : ℕ → ℕ → List ℕ
unfolding hex hex_digit
line k x = hex k x ++ (10 ∷ [])

unfoldable pub job_in : List ℕ
unfolding line
job_in =
    line 14 0x01_0002_00000003 ++
    line 26 0x02_0000_0000_4010000000000000 ++
    line 26 0x02_0001_0000_4000000000000000 ++
    line 26 0x02_0001_0001_4014000000000000 ++
    line 22 0x03_0000_4020000000000000 ++
    line 22 0x03_0001_4028000000000000 ++
    line 2 0x04

unfoldable pub job_out : List ℕ
unfolding line
job_out = line 14 0x81_00000003_0001 ++ line 22 0x82_0000_3FF0000000000000 ++ line 22 0x82_0001_4000000000000000

abbrev zeros# : ℕ → List ℕ
zeros# zero = []
zeros# (suc k) = 0 ∷ zeros# k

abbrev refused : Answer → ℕ → Result
refused a n = called a (record { state = Empty; n = 0; supernodes = 0; rows = 0; updates = 0; tasks = 0; top = 0; entries = 0; work = 0 }) (zeros# n) (zeros# 11)

abbrev col : ℕ → Original
col k = record { 0 = k }

abbrev one : ℕ
one = 0x3FF0_0000_0000_0000

abbrev two : ℕ
two = 0x4000_0000_0000_0000

abbrev four# : ℕ
four# = 0x4010_0000_0000_0000

abbrev eight : ℕ
eight = 0x4020_0000_0000_0000

abbrev twelve : ℕ
twelve = 0x4028_0000_0000_0000

-- 01 has the first solve, 02 (A2) the others: of two right sides, of none, of a buffer of another length, of too many
unfoldable pub cases : List Case
cases =
    factoring none' 0 Plain [] End ∷
    factoring single 1 Plain [] End ∷
    factoring bare 1 Plain [] End ∷
    factoring job 3 Plain [] End ∷
    solving job 3 1 (num 8 ∷ num 12 ∷ []) ∷
    solving job 3 2 (num 8 ∷ num 12 ∷ num 10 ∷ num 9 ∷ []) ∷
    solving job 3 0 [] ∷
    solving job 3 2 (num 8 ∷ num 12 ∷ []) ∷
    solving job 3 65 (num 8 ∷ num 12 ∷ []) ∷
    solving none' 0 64 [] ∷
    solving none' 0 65 [] ∷
    factoring three 6 Plain [] End ∷
    factoring three 5 Plain [] End ∷
    weighing (fan 2) 5 ∷
    factoring (fan 2) 11 Plain [] End ∷
    weighing (fan 1) 5 ∷
    factoring (fan 1) 11 Plain [] End ∷
    analysing four 7 ∷
    factoring four 7 Plain [] End ∷
    factoring four 7 Listed (0 ∷ 2 ∷ 1 ∷ 3 ∷ []) End ∷
    running job_in ∷
    rooting (num 2) ∷
    rooting (of_bits binary64 1) ∷
    rooting (of_bits binary64 0x7FEF_FFFF_FFFF_FFFF) ∷
    []

unfoldable pub expected : List Result
unfolding to_bits round of_bits
expected =
    called Accepted (record { state = Full; n = 0; supernodes = 0; rows = 0; updates = 0; tasks = 0; top = 0; entries = 0; work = 0 }) [] (zeros# 11) ∷
    called Accepted (record { state = Full; n = 1; supernodes = 1; rows = 1; updates = 0; tasks = 1; top = 0; entries = 1; work = 1 }) (0 ∷ []) (two ∷ zeros# 10) ∷
    refused (WrongPivot (col 0)) 1 ∷
    called Accepted (record { state = Full; n = 2; supernodes = 1; rows = 2; updates = 0; tasks = 1; top = 0; entries = 3; work = 5 }) (0 ∷ 1 ∷ []) (two ∷ one ∷ two ∷ zeros# 8) ∷
    solution# Accepted (one ∷ two ∷ []) ∷
    solution# Accepted (one ∷ two ∷ two ∷ one ∷ []) ∷
    solution# Accepted [] ∷
    solution# (WrongSide 2) (eight ∷ twelve ∷ []) ∷
    solution# ManySides (eight ∷ twelve ∷ []) ∷
    solution# Accepted [] ∷
    solution# ManySides [] ∷
    called Accepted (record { state = Full; n = 3; supernodes = 1; rows = 3; updates = 0; tasks = 1; top = 0; entries = 6; work = 14 }) (0 ∷ 1 ∷ 2 ∷ [])
    (one ∷ one ∷ one ∷ one ∷ 0xBFF0_0000_0000_0000 ∷ one ∷ zeros# 5) ∷
    refused (OverCap 6 5) 3 ∷
    weighed one one false one ∷
    refused (WrongPivot (col 5)) 6 ∷
    weighed four# one true two ∷
    called Accepted (record { state = Full; n = 6; supernodes = 6; rows = 11; updates = 5; tasks = 1; top = 0; entries = 11; work = 21 }) (0 ∷ 1 ∷ 2 ∷ 3 ∷ 4 ∷ 5 ∷ [])
    (one ∷ to_bits binary64 (num 99999) ∷ one ∷ to_bits binary64 (num 447) ∷ one ∷ to_bits binary64 (num 13) ∷ one ∷ to_bits binary64 (num 4) ∷ one ∷ one ∷ two ∷ []) ∷
    called Accepted (record { state = Analysed; n = 4; supernodes = 4; rows = 7; updates = 3; tasks = 1; top = 0; entries = 7; work = 13 }) (1 ∷ 0 ∷ 2 ∷ 3 ∷ []) [] ∷
    refused (WrongPivot (col 1)) 4 ∷
    refused (WrongOrder 1) 4 ∷
    wrote job_out ∷
    rooted 0x3FF6_A09E_667F_3BCD ∷
    rooted 0x1E60_0000_0000_0000 ∷
    rooted 0x5FEF_FFFF_FFFF_FFFF ∷
    []
