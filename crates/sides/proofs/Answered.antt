-- What the tests of the right sides come to, one by one. Assumes nothing.
use mathlib.Core.Path.{◌≡◌}
use Rattle.std.specs.Prelude.{Result, Ok, Err}
use Prim.Native.Nat.{ℕ, ◌*◌, ◌≤◌, ◌<◌}
use borrow.Author.Tests.{lt-ltb, le-ltb, eq-eqb, ne_eqb}
use Rattle.statement.specs.Answers.{test}
use Rattle.statement.specs.Solve.{sides_limit, sides_fault}
use Rattle.statement.specs.declared.Answer.{Answer}
use Rattle.statement.specs.declared.Answer.TheVariants.{ManySides, WrongSide, ShortArea}
use Rattle.laws.specs.Answered.{passed}

module _ (n k buffer words floats : ℕ) where
  abbrev Says : Result Unit Answer → Type 0
  Says a = a ≡ passed (sides_fault n k buffer words floats)

  pub many : sides_limit < k → Says (Err ManySides)
  unfolding passed sides_fault test
  many h = rw (lt-ltb sides_limit k h)

  module _ (few : k ≤ sides_limit) where
    pub wrong : (buffer ≡ n * k → ⊥) → Says (Err (WrongSide buffer))
    unfolding passed sides_fault test
    wrong h = rw (le-ltb sides_limit k few, ne_eqb buffer (n * k) h)

    module _ (e : buffer ≡ n * k) where
      pub short_words : words < n → Says (Err (ShortArea 7 n))
      unfolding passed sides_fault test
      short_words h = rw (le-ltb sides_limit k few, eq-eqb buffer (n * k) e, lt-ltb words n h)

      module _ (w : n ≤ words) where
        pub short_floats : floats < n → Says (Err (ShortArea 8 n))
        unfolding passed sides_fault test
        short_floats h = rw (le-ltb sides_limit k few, eq-eqb buffer (n * k) e, le-ltb words n w, lt-ltb floats n h)

        pub enough : n ≤ floats → Says (Ok tt)
        unfolding passed sides_fault test
        enough h = rw (le-ltb sides_limit k few, eq-eqb buffer (n * k) e, le-ltb words n w, le-ltb floats n h)
