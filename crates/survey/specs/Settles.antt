-- What a call leaves, held to what the statement says of it. Definitions only.
use Rattle.std.specs.Prelude.{◌≡◌, List, ℕ}
use Rattle.statement.specs.Calls.{Settled}
use Rattle.statement.specs.declared.Outcome.{Outcome}
use Rattle.statement.specs.declared.Update.{Update}

-- what is returned, and areas 1 to 7 and 9
pub record SettlesPlain (said : Settled) (x : Outcome) (permutation firsts starts groups tasks top words nine : List ℕ) : Type 0 where
  pub out : x ≡ said.returned
  pub one : permutation ≡ said.areas.permutation
  pub two : firsts ≡ said.areas.firsts
  pub three : starts ≡ said.areas.starts
  pub four : groups ≡ said.areas.groups
  pub five : tasks ≡ said.areas.tasks
  pub six : top ≡ said.areas.top
  pub seven : words ≡ said.areas.words
  pub nine_holds : nine ≡ said.areas.rows

-- and area 10
pub record Settles (said : Settled) (x : Outcome) (permutation firsts starts groups tasks top words nine : List ℕ) (ten : List Update) : Type 0 where
  pub plain : SettlesPlain said x permutation firsts starts groups tasks top words nine
  pub ten_holds : ten ≡ said.areas.updates
