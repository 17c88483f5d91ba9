-- Demand 1: each kind of answer has its own number, number and details are the answer, and what a refusal leaves. Assumes nothing.
use mathlib.Core.Path.{◌≡◌, refl, sym, ap, ap₂, ◌∙◌, subst₂}
use mathlib.Core.List.{List}
use Prim.Native.Nat.{ℕ, zero, suc}
use lib.ListN.{get_or}
use Rattle.statement.specs.Answers.{number, details}
use Rattle.statement.specs.declared.Answer.{Answer}
use Rattle.laws.proofs.Exactly.{analyse_refused, factor_refused, solve_refused, zero_accepted}
use Rattle.statement.specs.declared.Answer.TheVariants.{Accepted, OverLimit, WrongLengths, WrongStarts, WrongColumn, ShortArea, OverCap, WrongOrder, WrongPivot, WrongSide, NoFactor, WrongStructure, WrongFrame, ManySides}
use Rattle.promises.specs.First.{Alike, accepted, over_limit, wrong_lengths, wrong_starts, wrong_column, short_area, over_cap, wrong_order, wrong_pivot, wrong_side, no_factor, wrong_structure, wrong_frame, many_sides, Demand1}

-- the answer that a number and details tell
abbrev back : ℕ → List ℕ → Answer
back zero d = Accepted
back (suc zero) d = OverLimit
back (suc (suc zero)) d = WrongLengths (get_or d 0 0)
back (suc (suc (suc zero))) d = WrongStarts (get_or d 0 0)
back (suc (suc (suc (suc zero)))) d = WrongColumn (record { 0 = get_or d 0 0 })
back (suc (suc (suc (suc (suc zero))))) d = ShortArea (get_or d 0 0) (get_or d 1 0)
back (suc (suc (suc (suc (suc (suc zero)))))) d = OverCap (get_or d 0 0) (get_or d 1 0)
back (suc (suc (suc (suc (suc (suc (suc zero))))))) d = Accepted
back (suc (suc (suc (suc (suc (suc (suc (suc zero)))))))) d = WrongOrder (get_or d 0 0)
back (suc (suc (suc (suc (suc (suc (suc (suc (suc zero))))))))) d = WrongPivot (record { 0 = get_or d 0 0 })
back (suc (suc (suc (suc (suc (suc (suc (suc (suc (suc zero)))))))))) d = WrongSide (get_or d 0 0)
back (suc (suc (suc (suc (suc (suc (suc (suc (suc (suc (suc zero))))))))))) d = NoFactor
back (suc (suc (suc (suc (suc (suc (suc (suc (suc (suc (suc (suc zero)))))))))))) d = WrongStructure
back (suc (suc (suc (suc (suc (suc (suc (suc (suc (suc (suc (suc (suc zero))))))))))))) d = WrongFrame (get_or d 0 0)
back (suc (suc (suc (suc (suc (suc (suc (suc (suc (suc (suc (suc (suc (suc zero)))))))))))))) d = ManySides
back (suc (suc (suc (suc (suc (suc (suc (suc (suc (suc (suc (suc (suc (suc (suc n))))))))))))))) d = Accepted

back_is : (a : Answer) → back (number a) (details a) ≡ a
back_is Accepted = refl
back_is OverLimit = refl
back_is (WrongLengths x) = refl
back_is (WrongStarts x) = refl
back_is (WrongColumn x) = refl
back_is (ShortArea x y) = refl
back_is (OverCap x y) = refl
back_is (WrongOrder x) = refl
back_is (WrongPivot x) = refl
back_is (WrongSide x) = refl
back_is NoFactor = refl
back_is WrongStructure = refl
back_is (WrongFrame x) = refl
back_is ManySides = refl

back_alike : (n : ℕ) (d e : List ℕ) → Alike (back n d) (back n e)
back_alike zero d e = accepted
back_alike (suc zero) d e = over_limit
back_alike (suc (suc zero)) d e = wrong_lengths (get_or d 0 0) (get_or e 0 0)
back_alike (suc (suc (suc zero))) d e = wrong_starts (get_or d 0 0) (get_or e 0 0)
back_alike (suc (suc (suc (suc zero)))) d e = wrong_column (record { 0 = get_or d 0 0 }) (record { 0 = get_or e 0 0 })
back_alike (suc (suc (suc (suc (suc zero))))) d e = short_area (get_or d 0 0) (get_or d 1 0) (get_or e 0 0) (get_or e 1 0)
back_alike (suc (suc (suc (suc (suc (suc zero)))))) d e = over_cap (get_or d 0 0) (get_or d 1 0) (get_or e 0 0) (get_or e 1 0)
back_alike (suc (suc (suc (suc (suc (suc (suc zero))))))) d e = accepted
back_alike (suc (suc (suc (suc (suc (suc (suc (suc zero)))))))) d e = wrong_order (get_or d 0 0) (get_or e 0 0)
back_alike (suc (suc (suc (suc (suc (suc (suc (suc (suc zero))))))))) d e = wrong_pivot (record { 0 = get_or d 0 0 }) (record { 0 = get_or e 0 0 })
back_alike (suc (suc (suc (suc (suc (suc (suc (suc (suc (suc zero)))))))))) d e = wrong_side (get_or d 0 0) (get_or e 0 0)
back_alike (suc (suc (suc (suc (suc (suc (suc (suc (suc (suc (suc zero))))))))))) d e = no_factor
back_alike (suc (suc (suc (suc (suc (suc (suc (suc (suc (suc (suc (suc zero)))))))))))) d e = wrong_structure
back_alike (suc (suc (suc (suc (suc (suc (suc (suc (suc (suc (suc (suc (suc zero))))))))))))) d e = wrong_frame (get_or d 0 0) (get_or e 0 0)
back_alike (suc (suc (suc (suc (suc (suc (suc (suc (suc (suc (suc (suc (suc (suc zero)))))))))))))) d e = many_sides
back_alike (suc (suc (suc (suc (suc (suc (suc (suc (suc (suc (suc (suc (suc (suc (suc n))))))))))))))) d e = accepted

alike : (a b : Answer) → number a ≡ number b → Alike a b
alike a b e = subst₂ Alike (back_is a) (ap (λ n. back n (details b)) e ∙ back_is b) (back_alike (number a) (details a) (details b))

same_number : {a b : Answer} → Alike a b → number a ≡ number b
same_number accepted = refl
same_number over_limit = refl
same_number (wrong_lengths x y) = refl
same_number (wrong_starts x y) = refl
same_number (wrong_column x y) = refl
same_number (short_area a x b y) = refl
same_number (over_cap a x b y) = refl
same_number (wrong_order x y) = refl
same_number (wrong_pivot x y) = refl
same_number (wrong_side x y) = refl
same_number no_factor = refl
same_number wrong_structure = refl
same_number (wrong_frame x y) = refl
same_number many_sides = refl

-- demand 1
pub demand_one : Demand1
demand_one = record {
  analyses = λ M cap r x h. rw h (analyse_refused M cap r);
  factors = λ M cap o l e r x h. rw h (factor_refused M cap o l e r);
  solves = λ R f k b words floats x h. rw h (solve_refused R f k b words floats);
  zero = λ a. (zero_accepted a, λ e. ap number e);
  kinds = λ a b. (alike a b, same_number);
  whole = λ a b e d. sym (back_is a) ∙ ap₂ back e d ∙ back_is b;
}
