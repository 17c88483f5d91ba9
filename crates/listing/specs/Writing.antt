-- What the updates are written from, and what is written. Definitions only.
use Rattle.std.specs.Prelude.{◌≡◌, List, ◌++◌, ℕ, zero, suc, ◌+◌, ◌*◌, ◌≤◌, ◌<◌, length, get_or, take, drop}
use Rattle.statement.specs.Supernodes.{updates}
use Rattle.statement.specs.declared.Update.{Update}
use Rattle.updates.specs.Scan.{shaped}
use Rattle.updates.specs.Layout.{places_at, updates_at, owners_at, offsets_at}

-- c spots, of places in a list so long
pub record ToWrite (n c : ℕ) (words : List ℕ) (long : ℕ) : Type 0 where
  pub few : c ≤ n
  pub room : offsets_at n ≤ length words
  pub inside : (i : ℕ) → i < c → get_or (drop (updates_at n) words) (3 * i) 0 < long

-- where the last of ns targets goes on; 0 of none
abbrev pub last_place : ℕ → ℕ → List ℕ → ℕ
last_place zero n words = 0
last_place (suc J) n words = get_or (drop (places_at n) words) J 0

-- the updates stand first, and the last target goes on behind them; of no supernodes nothing is written
pub record Wrote (n ns : ℕ) (input_starts input_rows words words' : List ℕ) (us us' : List Update) : Type 0 where
  pub none : ns ≡ 0 → us' ≡ us
  pub all : 0 < ns → us' ≡ updates (shaped n input_starts input_rows) ++ drop (length (updates (shaped n input_starts input_rows))) us
  pub behind : 0 < ns → last_place ns n words' ≡ length (updates (shaped n input_starts input_rows))
  pub flags : take (n + 1) words' ≡ take (n + 1) words
  pub rest : drop (owners_at n) words' ≡ drop (owners_at n) words
