-- What fetching the updates of a supernode leaves. Definitions only.
use Rattle.std.specs.Prelude.{◌≡◌, List, ℕ, ◌<◌, take, drop}
use Rattle.statement.specs.declared.Update.{Update}
use Rattle.updates.specs.Layout.{updates_at, owners_at}
use Rattle.assembly.specs.Ready.{in_words, from}

-- count updates from lo on are at hand, and the words before and after are as they were
pub record Brought (lo count n : ℕ) (us : List Update) (words words' : List ℕ) : Type 0 where
  pub got : (u : ℕ) → u < count → in_words (drop (updates_at n) words') u ≡ from us lo u
  pub front : take (updates_at n) words' ≡ take (updates_at n) words
  pub rest : drop (owners_at n) words' ≡ drop (owners_at n) words
