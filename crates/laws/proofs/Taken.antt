-- What a function answered, and the branch taken on it. Assumes nothing.
use mathlib.Core.Path.{◌≡◌, sym, ◌∙◌}
use mathlib.Core.Bool.{Bool, true, false, not}
use lib.Dec.{T}
use borrow.Author.Tests.{not-true, not-false}

pub true_T : {b : Bool} → b ≡ true → T b
true_T e = rw e tt

pub no : {r t : Bool} → r ≡ t → r ≡ false → t ≡ false
no e h = sym e ∙ h

pub yes : {r t : Bool} → r ≡ t → r ≡ true → t ≡ true
yes e h = sym e ∙ h
