-- With ample room for areas 8 and 11, the survey's tests are those of analyse. Assumes nothing.
use mathlib.Core.Path.{◌≡◌, refl, sym, ap, ap₂, ◌∙◌}
use mathlib.Core.Bool.{Bool, true, false, cond}
use mathlib.Core.List.{List, [], ◌∷◌, ◌++◌}
use mathlib.Core.Option.{Option, none, some}
use Prim.Native.Nat.{ℕ, ◌≤◌}
use native.Mathlib.Nat.{mul-le-mul}
use native.Mathlib.Omega.{arith}
use lib.Dec.{ltb}
use borrow.Author.Tests.{le-ltb}
use Rattle.statement.specs.Input.{Matrix, WellFormed, rows_length, pattern}
use Rattle.statement.specs.Fill.{entries}
use Rattle.statement.specs.Answers.{test, or_else}
use Rattle.statement.specs.Areas.{Need, needs, floats_need, values_need, short}
use Rattle.statement.specs.Calls.{input_fault, analysis, later, analyse_fault, factor_needs, factor_later}
use Rattle.statement.specs.declared.Answer.{Answer}
use Rattle.statement.specs.declared.Answer.TheVariants.{ShortArea, OverCap, WrongStructure}
use Rattle.statement.specs.declared.Room.{Room}
use Rattle.laws.proofs.Bounds.{entries_most}
use Rattle.laws.proofs.Exactly.{well_of}
use Rattle.measure.specs.Sized.{measure_fault}
use Rattle.survey.specs.Laid.{structure_fault}
use Rattle.analyse.specs.Lent.{ample}

short_end : (l : List Need) (x : Need) → x.need ≤ x.length → short (l ++ (x ∷ [])) ≡ short l
unfolding short
short_end [] x h = rw (le-ltb x.length x.need h)
short_end (y ∷ l) x h = ap (cond (ltb y.length y.need) (some (ShortArea y.area y.need))) (short_end l x h)

-- the last tests, after a first run of tests or in one run with it
in_one_run : (f g : Option Answer) (b : Bool) (x : Answer) (rest : Option Answer) → or_else (or_else f (or_else g (test b x none))) rest ≡ or_else f (or_else g (test b x rest))
unfolding or_else test
in_one_run (some a) g b x rest = refl
in_one_run none (some a) b x rest = refl
in_one_run none none true x rest = refl
in_one_run none none false x rest = refl

module _ (M : Matrix) (cap : ℕ) (r : Room) (f : r.floats ≡ ample) (v : r.values ≡ ample) where
  few : WellFormed M → entries (pattern M) M.n ≤ 1073741824
  few w = let l = w.small in omega (arith, entries_most (pattern M) M.n, mul-le-mul l l)

  first : WellFormed M → short (factor_needs M r) ≡ short (needs M.n (rows_length M) r)
  unfolding factor_needs
  first w = short_end (needs M.n (rows_length M) r) (floats_need M.n (rows_length M) r) (omega (arith, w.small, w.few))

  second : WellFormed M → short (factor_later (analysis M) r) ≡ short (later (analysis M) r)
  unfolding factor_later
  second w = short_end (later (analysis M) r) (values_need (analysis M).entries r) (unfold analysis in omega (arith, few w))

  abbrev run : Option Answer → Option Answer → Option Answer → Option Answer
  run a b c = or_else a (or_else b (test (ltb cap (analysis M).entries) (OverCap (analysis M).entries cap) (or_else c (test (analysis M).differs WrongStructure none))))

  flat : structure_fault M cap r ≡ run (input_fault M) (short (factor_needs M r)) (short (factor_later (analysis M) r))
  unfolding structure_fault measure_fault analysis
  flat = in_one_run (input_fault M) (short (factor_needs M r)) _ _ _

  whole : analyse_fault M cap r (analysis M) ≡ run (input_fault M) (short (needs M.n (rows_length M) r)) (short (later (analysis M) r))
  unfolding analyse_fault
  whole = refl

  early : (a : Answer) → input_fault M ≡ some a → (b c b' c' : Option Answer) → run (input_fault M) b c ≡ run (input_fault M) b' c'
  unfolding or_else
  early a e b c b' c' = rw e

  pub same_fault : structure_fault M cap r ≡ analyse_fault M cap r (analysis M)
  same_fault = flat ∙ go (input_fault M) refl ∙ sym whole
    where
      go : (i : Option Answer) → input_fault M ≡ i → run (input_fault M) (short (factor_needs M r)) (short (factor_later (analysis M) r)) ≡ run (input_fault M) (short (needs M.n (rows_length M) r)) (short (later (analysis M) r))
      go (some a) e = early a e _ _ _ _
      go none e = let w = well_of M e in ap₂ (run (input_fault M)) (first w) (second w)
