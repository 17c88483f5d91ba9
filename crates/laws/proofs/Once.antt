-- Nothing left to choose: of each call, one outcome keeps its promise and no second does. Assumes nothing.
use mathlib.Core.Path.{◌≡◌, refl, sym, ◌∙◌}
use Rattle.laws.specs.Once.{Once, NothingLeft}

pub once : NothingLeft
once = record {
  analyses = λ M cap r. record { kept = refl; only = λ x h. h };
  factors = λ M cap o l e r. record { kept = refl; only = λ x h. h };
  solves = λ R f k b words floats. record { kept = refl; only = λ x h. h };
  views = λ R f q. record { kept = refl; only = λ x h. h };
  works = λ text buffer. record { kept = refl; only = λ x h. h };
}

-- two outcomes that keep a promise kept by one alone are equal
pub no_second : {A : Type 0} {P : A → Type 0} {a : A} → Once P a → (x y : A) → P x → P y → x ≡ y
no_second u x y p q = u.only x p ∙ sym (u.only y q)
