-- What a call leaves in a lent buffer, and the pieces of the statement's lines. Assumes nothing.
use Rattle.std.specs.Prelude.{List, [], ◌∷◌, ◌++◌, ℕ, ◌+◌, length, take, drop, Float}
use Rattle.std.specs.Float.{binary64}
use Rattle.std.specs.Float.Ieee.{to_bits}
use Rattle.statement.specs.Job.{hex}
use Rattle.statement.specs.declared.Original.{Original}

-- d with s at the places from a
unfoldable pub placed : List ℕ → ℕ → List ℕ → List ℕ
placed d a s = take a d ++ (s ++ drop (a + length s) d)

-- `81` entries(8) supernodes(4)
abbrev pub sizes_line : ℕ → ℕ → List ℕ
sizes_line entries supernodes = hex 2 0x81 ++ hex 8 entries ++ hex 4 supernodes ++ (10 ∷ [])

-- `82` position(4) bits(16)
abbrev pub unknown_line : Original → Float → List ℕ
unknown_line position x = hex 2 0x82 ++ hex 4 position.0 ++ hex 16 (to_bits binary64 x) ++ (10 ∷ [])

-- `8F` number(2) and two details(8 each)
abbrev pub refusal_line : ℕ → ℕ → ℕ → List ℕ
refusal_line number first second = hex 2 0x8F ++ hex 2 number ++ hex 8 first ++ hex 8 second ++ (10 ∷ [])
