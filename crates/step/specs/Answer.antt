-- What the step asks, answers and leaves. Definitions only.
use Rattle.std.specs.Prelude.{◌≡◌, List, ℕ, ⊤, Result, Ok, Err, suc, ◌*◌, ◌≤◌, length, Float}
use Rattle.statement.specs.declared.Factored.{Factored}
use Rattle.assembly.specs.Ready.{Rows, in_words, Listed, Offsets, Placed}
use Rattle.statement.specs.Shape.{Shape, offset, put, zeros}
use Rattle.statement.specs.Rules.{Out, made, broke, step}
use Rattle.laws.specs.Lower.{Pattern}

-- by the rules' outcome: the answer, and the values with J's stretch set, to zeros where a pivot breaks
unfoldable pub answer_of : Out → Result ⊤ Factored
answer_of (made s) = Ok tt
answer_of (broke c) = Err c

unfoldable pub leaves : Shape → List Float → ℕ → Out → List Float
leaves S v J (made s) = put S v J s
leaves S v J (broke c) = put S v J (zeros S J)

pub record Stepped (S : Shape) (A : ℕ → ℕ → Float) (J : ℕ) (old new : List Float) (r : Result ⊤ Factored) : Type 0 where
  pub answer : r ≡ answer_of (step S A old J)
  pub values : new ≡ leaves S old J (step S A old J)

-- what the step asks; n is the number of A's columns, wlen the length of the work space
pub record Ready (S : Shape) (J : ℕ) (offs : List ℕ) (upd : List ℕ) (count n : ℕ) (starts arows : List ℕ) (vlen wlen : ℕ) (pl : List ℕ) : Type 0 where
  pub shape : Rows S (suc J)
  pub updates : Listed S J (in_words upd) count
  pub words : 3 * count ≤ length upd
  pub offsets : Offsets S J offs
  pub columns : n ≡ S.n
  pub pattern : Pattern S J starts arows
  pub values : offset S (suc J) ≤ vlen
  pub work : S.n ≤ wlen
  pub placed : Placed S J pl
  pub places : S.n ≤ length pl
