-- What the updates are laid from, and what laying them leaves. Definitions only.
use Rattle.std.specs.Prelude.{◌≡◌, List, ℕ, zero, suc, ◌+◌, ◌*◌, ◌≤◌, ◌<◌, length, get_or, set, take, drop, replicate}
use Rattle.statement.specs.Lists.{tally}
use Rattle.statement.specs.Shape.{Shape}
use Rattle.statement.specs.Supernodes.{updates_of, updates, update_starts}
use Rattle.statement.specs.Areas.{no_update, held}
use Rattle.statement.specs.declared.Update.{Update}
use Rattle.areas.specs.Buckets.{start, Holds, Beyond}
use Rattle.updates.specs.Scan.{hits, Laid, shaped, Put}
use Rattle.updates.specs.Layout.{places_at, updates_at, owners_at, offsets_at}

-- n columns in ns supernodes; the words have the supernode of each column and where each target's updates start
pub record ToLay (n ns : ℕ) (input_starts input_rows firsts starts nine words : List ℕ) (long : ℕ) : Type 0 where
  pub laid : Laid n ns input_starts input_rows firsts (drop (owners_at n) words) starts nine
  pub next : Holds (λ J. get_or (update_starts (shaped n input_starts input_rows)) J 0) ns (drop (places_at n) words)
  pub room : offsets_at n ≤ length words
  pub fits : length (updates (shaped n input_starts input_rows)) ≤ long

-- of no supernodes no updates; the flags, and what is only read, as before
pub record LaidOut (n ns : ℕ) (input_starts input_rows words words' : List ℕ) (us us' : List Update) : Type 0 where
  pub none : ns ≡ 0 → us' ≡ replicate (length us) no_update
  pub all : 0 < ns → us' ≡ held (length us) no_update (updates (shaped n input_starts input_rows))
  pub flags : take (n + 1) words' ≡ take (n + 1) words
  pub rest : drop (owners_at n) words' ≡ drop (owners_at n) words

-- ---- one source

-- run i of a source is of target j: its place, which is j's next, and its positions a to b; j's next is one later
abbrev pub spotted : ℕ → ℕ → ℕ → ℕ → ℕ → List ℕ → List ℕ
spotted n j i a b words =
    let place : ℕ = get_or words (places_at n + j) 0 in
    let at : ℕ = updates_at n + 3 * i in
    set (set (set (set words (places_at n + j) (place + 1)) at place) (at + 1) a) (at + 2) b

-- the update that spot i says of source k
abbrev pub said : ℕ → List ℕ → ℕ → Update
said k spots i = record { supernode = k; p1 = get_or spots (3 * i + 1) 0; p2 = get_or spots (3 * i + 2) 0 }

-- us with the first c of them
unfoldable pub written : ℕ → ℕ → List ℕ → List Update → List Update
written k zero spots us = us
written k (suc i) spots us = set (written k i spots us) (get_or spots (3 * i) 0) (said k spots i)

-- the updates by the sources below k are laid; next is where each target's go on
pub record ToScan (n ns : ℕ) (input_starts input_rows firsts starts nine : List ℕ) (k : ℕ) (words : List ℕ) : Type 0 where
  pub inside : k < ns
  pub laid : Laid n ns input_starts input_rows firsts (drop (owners_at n) words) starts nine
  pub room : offsets_at n ≤ length words
  pub next : Holds (λ J. start (updates_of (shaped n input_starts input_rows)) J + tally (λ K. hits (shaped n input_starts input_rows) K J) k) ns (drop (places_at n) words)

-- k's c updates are spotted: written where the spots say, they stand in their places
pub record Scanned (S : Shape) (n k : ℕ) (words words' : List ℕ) (c : ℕ) : Type 0 where
  pub few : c ≤ n
  pub inside : (i : ℕ) → i < c → get_or (drop (updates_at n) words') (3 * i) 0 < length (updates S)
  pub put : (us : List Update) → Put S k (drop (places_at n) words) us → Put S (suc k) (drop (places_at n) words') (written k c (drop (updates_at n) words') us)
  pub beyond : (us : List Update) → Beyond (length (updates S)) us (written k c (drop (updates_at n) words') us)
  pub flags : take (n + 1) words' ≡ take (n + 1) words
  pub rest : drop (owners_at n) words' ≡ drop (owners_at n) words
