-- The first number that passes a test, where there is one. Assumes nothing.
use Rattle.std.specs.Prelude.{Bool, ℕ, ◌≡◌, ◌<◌, ◌≤◌, ltb, cond, Option, Some, None}
use mathlib.Core.Path.{refl, sym, ◌∙◌}
use mathlib.Core.Bool.{true, false}
use native.Mathlib.Omega.{arith}
use borrow.Author.Tests.{lt-ltb, le-ltb, ltb-true, ltb-false}
use Rattle.statement.specs.Lists.{least}
use Rattle.laws.specs.First.{first_below}

module _ (p : ℕ → Bool) (n : ℕ) where
  pub first_is : (k : ℕ) → least p 0 n ≡ k → k < n → Some k ≡ first_below p n
  unfolding first_below
  first_is k e h = rw (e, lt-ltb k n h)

  pub first_none : (k : ℕ) → least p 0 n ≡ k → n ≤ k → None ≡ first_below p n
  unfolding first_below
  first_none k e h = rw (e, le-ltb k n h)

  -- read back
  pub at_first : {k : ℕ} → Some k ≡ first_below p n → (k < n) × (k ≡ least p 0 n)
  unfolding first_below
  at_first {k} e = go (ltb (least p 0 n) n) refl e
    where
      go : (b : Bool) → ltb (least p 0 n) n ≡ b → Some k ≡ cond b (Some (least p 0 n)) None → (k < n) × (k ≡ least p 0 n)
      go true d e = let q : k ≡ least p 0 n = cc in (rw q (ltb-true _ _ d), q)
      go false d e = cc

  pub past_first : None ≡ first_below p n → n ≤ least p 0 n
  unfolding first_below
  past_first e = go (ltb (least p 0 n) n) refl e
    where
      go : (b : Bool) → ltb (least p 0 n) n ≡ b → None ≡ cond b (Some (least p 0 n)) None → n ≤ least p 0 n
      go true d e = cc
      go false d e = ltb-false _ _ d
