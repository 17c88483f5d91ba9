-- The first number that passes a test, where there is one. Definitions only.
use Rattle.std.specs.Prelude.{Bool, cond, ℕ, ltb, Option, Some, None}
use Rattle.statement.specs.Lists.{least}

-- below n
unfoldable pub first_below : (ℕ → Bool) → ℕ → Option ℕ
first_below p n = cond (ltb (least p 0 n) n) (Some (least p 0 n)) None
