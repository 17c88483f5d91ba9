-- What solve settles: by number 11, by the tests of the right sides, and in the scratch. Assumes nothing.
use mathlib.Core.Path.{◌≡◌, ap, ◌∙◌}
use mathlib.Core.Bool.{true, false}
use mathlib.Core.List.{List}
use mathlib.Core.Option.{Option, none, some}
use Prim.Native.Nat.{ℕ, ◌*◌, ◌≤◌}
use native.Mathlib.Omega.{arith}
use lib.ListN.{length, replicate}
use lib.Ieee.{Float}
use Rattle.statement.specs.Input.{+0}
use Rattle.statement.specs.Answers.{test}
use Rattle.statement.specs.Solve.{FactorAreas, shape_in, solvable, sides_limit, solutions, Solved, sides_fault, solve_fault, settled_solve, solve}
use Rattle.statement.specs.declared.Answer.{Answer}
use Rattle.statement.specs.declared.Answer.TheVariants.{Accepted, NoFactor}
use Rattle.statement.specs.declared.Record.{Record}
use Rattle.std.specs.Prelude.{Result, Ok, Err}
use Rattle.laws.specs.Answered.{passed}
use Rattle.laws.proofs.Passed.{passed_none, passed_some}
use Rattle.laws.proofs.Given.{solve_given}

module _ (R : Record) (f : FactorAreas) (k : ℕ) (b : List Float) (words floats : ℕ) where
  abbrev pub Ends : Answer → List Float → Type 0
  Ends a x = (a ≡ (solve R f k b words floats).answer) × (x ≡ (solve R f k b words floats).b)

  -- as attempt ends: the fault, and what stands in b
  abbrev pub Leaves : Result Unit Answer → List Float → Type 0
  Leaves r x = (r ≡ passed (solve_fault R f k b words floats)) × (x ≡ (solve R f k b words floats).b)

  pub no_factor : solvable R f ≡ false → Leaves (Err NoFactor) b
  unfolding passed solve solve_fault settled_solve test
  no_factor h = (rw h, rw h)

  -- the factor is whole: the tests of the right sides decide
  module _ (h : solvable R f ≡ true) where
    pub refused : {a : Answer} → Err a ≡ passed (sides_fault R.n k (length b) words floats) → Leaves (Err a) b
    unfolding passed solve solve_fault settled_solve test
    refused e = (rw h e, rw (h, passed_some _ e))

    module _ {u : Unit {0}} (e : Ok u ≡ passed (sides_fault R.n k (length b) words floats)) where
      pub roomy : (R.n ≤ floats) × (k ≤ sides_limit) × (length b ≡ R.n * k)
      roomy = let s = (solve_given R f k b words floats).accepted.0 is in (s.1 1 (omega arith), s.0.0.1, s.0.1)
        where
          is : (solve R f k b words floats).answer ≡ Accepted
          is = unfold solve solve_fault settled_solve test in rw (h, passed_none _ e)

      pub accepted : (x : List Float) → x ≡ solutions R.n f.permutation (shape_in R f) f.values k b → Leaves (Ok tt) x
      unfolding passed solve solve_fault settled_solve test
      accepted x z = (rw (h, passed_none _ e), rw (h, passed_none _ e) z)

  -- what solve answers
  pub answers_ok : {u : Unit {0}} → Ok u ≡ passed (solve_fault R f k b words floats) → Accepted ≡ (solve R f k b words floats).answer
  unfolding solve settled_solve
  answers_ok e = rw (passed_none _ e)

  pub answers_err : {a : Answer} → Err a ≡ passed (solve_fault R f k b words floats) → a ≡ (solve R f k b words floats).answer
  unfolding solve settled_solve
  answers_err e = rw (passed_some _ e)

-- over scratch words as long as they were
pub as_lent : (n k buffer words words' floats : ℕ) {r : Result Unit Answer} → words' ≡ words → r ≡ passed (sides_fault n k buffer words' floats) → r ≡ passed (sides_fault n k buffer words floats)
as_lent n k buffer words words' floats e h = h ∙ ap (λ w. passed (sides_fault n k buffer w floats)) e

-- scratch is zero after every call
whole : (o : Option Answer) (b x : List Float) (words floats : ℕ) (a : Answer) (y : List Float) (w : List ℕ) (z : List Float) → a ≡ (settled_solve o b x words floats).answer → y ≡ (settled_solve o b x words floats).b
    → w ≡ replicate words 0 → z ≡ replicate floats +0 → ◌≡◌ {A = Solved} (record { answer = a; b = y; words = w; floats = z }) (settled_solve o b x words floats)
unfolding settled_solve
whole none b x words floats a y w z p q r s = λ i. record { answer = p i; b = q i; words = r i; floats = s i }
whole (some c) b x words floats a y w z p q r s = λ i. record { answer = p i; b = q i; words = r i; floats = s i }

pub settles : (R : Record) (f : FactorAreas) (k : ℕ) (b : List Float) (words floats : ℕ) (a : Answer) (y : List Float) (w : List ℕ) (z : List Float) → Ends R f k b words floats a y
    → w ≡ replicate words 0 → z ≡ replicate floats +0 → ◌≡◌ {A = Solved} (record { answer = a; b = y; words = w; floats = z }) (solve R f k b words floats)
unfolding solve
settles R f k b words floats a y w z e r s = whole _ b _ words floats a y w z e.0 e.1 r s

-- over an area as long as it was
pub cleared : {A : Type 0} (v : A) {w : List A} (m n : ℕ) → m ≡ n → w ≡ replicate m v → w ≡ replicate n v
cleared v m n e h = h ∙ ap (λ i. replicate i v) e
