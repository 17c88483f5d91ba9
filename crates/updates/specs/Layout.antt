-- Where the scratch words have what, for n columns: before these the flags, n + 1 of them. Definitions only.
use Rattle.std.specs.Prelude.{ℕ, ◌+◌, ◌*◌}

-- a word for each supernode or row: the next place of each target while the updates are laid, the positions of rows in the run
abbrev pub places_at : ℕ → ℕ
places_at n = n + 1

-- three words for each update at hand: those of one source while they are laid, those of one target in the run
abbrev pub updates_at : ℕ → ℕ
updates_at n = 2 * n + 1

-- from here on what is only read: the supernode of each column
abbrev pub owners_at : ℕ → ℕ
owners_at n = 5 * n + 1

-- where the supernodes' stretches of the values begin
abbrev pub offsets_at : ℕ → ℕ
offsets_at n = 6 * n + 1

-- the supernodal parents
abbrev pub parents_at : ℕ → ℕ
parents_at n = 7 * n + 1

-- the supernodes in the order of the run
abbrev pub names_at : ℕ → ℕ
names_at n = 8 * n + 1

-- A's lower columns: their n + 1 starts, and their rows
abbrev pub starts_at : ℕ → ℕ
starts_at n = 9 * n + 1

abbrev pub rows_at : ℕ → ℕ
rows_at n = 10 * n + 2
