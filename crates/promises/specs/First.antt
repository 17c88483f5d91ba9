-- Demand 1: what a refusal leaves, and that number and details tell the answers apart. That every call ends with an answer for every
-- input, and needs no test beforehand, is the proof of each function and a contract without `requires` (crates/pinned). Definitions only.
use Rattle.std.specs.Prelude.{◌≡◌, ◌≢◌, ◌↔◌, List, ℕ, Float}
use Rattle.statement.specs.Input.{Matrix}
use Rattle.statement.specs.Answers.{number, details}
use Rattle.statement.specs.Record.{empty_record}
use Rattle.statement.specs.Calls.{Settled, cleared, structure_room, Analyses, Factors}
use Rattle.statement.specs.Solve.{FactorAreas, Solved, Solves}
use Rattle.statement.specs.declared.Original.{Original}
use Rattle.statement.specs.declared.Answer.{Answer}
use Rattle.statement.specs.declared.Answer.TheVariants.{Accepted, OverLimit, WrongLengths, WrongStarts, WrongColumn, ShortArea, OverCap, WrongOrder, WrongPivot, WrongSide, NoFactor, WrongStructure, WrongFrame, ManySides}
use Rattle.statement.specs.declared.Order.{Order}
use Rattle.statement.specs.declared.Record.{Record}
use Rattle.statement.specs.declared.Room.{Room}
use Rattle.statement.specs.declared.Stop.{Stop}

-- two answers of one kind, whatever their details
pub data Alike : Answer → Answer → Type 0 where
  accepted : Alike Accepted Accepted
  over_limit : Alike OverLimit OverLimit
  wrong_lengths : (x y : ℕ) → Alike (WrongLengths x) (WrongLengths y)
  wrong_starts : (x y : ℕ) → Alike (WrongStarts x) (WrongStarts y)
  wrong_column : (x y : Original) → Alike (WrongColumn x) (WrongColumn y)
  short_area : (a x b y : ℕ) → Alike (ShortArea a x) (ShortArea b y)
  over_cap : (a x b y : ℕ) → Alike (OverCap a x) (OverCap b y)
  wrong_order : (x y : ℕ) → Alike (WrongOrder x) (WrongOrder y)
  wrong_pivot : (x y : Original) → Alike (WrongPivot x) (WrongPivot y)
  wrong_side : (x y : ℕ) → Alike (WrongSide x) (WrongSide y)
  no_factor : Alike NoFactor NoFactor
  wrong_structure : Alike WrongStructure WrongStructure
  wrong_frame : (x y : ℕ) → Alike (WrongFrame x) (WrongFrame y)
  many_sides : Alike ManySides ManySides

pub record Demand1 : Type 0 where
  -- a refused analysis or factoring, whatever was lent, leaves an empty record and zeros in every area it writes
  pub analyses : (M : Matrix) (cap : ℕ) (r : Room) (x : Settled) → Analyses M cap r x → x.returned.answer ≢ Accepted → (x.returned.«record» ≡ empty_record) × (x.areas ≡ cleared (structure_room r))
  pub factors : (M : Matrix) (cap : ℕ) (o : Order) (l : List ℕ) (e : Stop) (r : Room) (x : Settled) → Factors M cap o l e r x → x.returned.answer ≢ Accepted → (x.returned.«record» ≡ empty_record) × (x.areas ≡ cleared r)
  -- a refused solve leaves every right side unchanged
  pub solves : (R : Record) (f : FactorAreas) (k : ℕ) (b : List Float) (words floats : ℕ) (x : Solved) → Solves R f k b words floats x → x.answer ≢ Accepted → x.b ≡ b
  -- only an accepted call answers 0; two kinds of fault never share a number; number and details together are the answer
  pub zero : (a : Answer) → (number a ≡ 0) ↔ (a ≡ Accepted)
  pub kinds : (a b : Answer) → (number a ≡ number b) ↔ Alike a b
  pub whole : (a b : Answer) → number a ≡ number b → details a ≡ details b → a ≡ b
