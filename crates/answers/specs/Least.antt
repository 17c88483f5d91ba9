-- The least failing column, if any, in the statement's words. Definitions only.
use Rattle.std.specs.Prelude.{ℕ, Option, Some, None}
use Rattle.statement.specs.declared.Factored.{Factored}

-- n, one past the last column, where none fails
abbrev pub least_of : ℕ → Option Factored → Factored
least_of n (Some c) = c
least_of n None = record { 0 = n }
