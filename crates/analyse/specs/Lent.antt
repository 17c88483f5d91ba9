-- The room that the lent areas give. Definitions only.
use Rattle.std.specs.Prelude.{ℕ}
use Rattle.statement.specs.declared.Room.{Room}

abbrev pub ample : ℕ
ample = 1099511627776

-- by the lengths of areas 1 to 7, 9 and 10; analyse has no areas 8 and 11, so what stands there for them is never read
abbrev pub lent_structure : ℕ → ℕ → ℕ → ℕ → ℕ → ℕ → ℕ → ℕ → ℕ → Room
lent_structure permutation firsts starts groups tasks top words rows updates = record {
  permutation = permutation;
  firsts = firsts;
  starts = starts;
  groups = groups;
  tasks = tasks;
  top = top;
  words = words;
  floats = ample;
  rows = rows;
  updates = updates;
  values = ample;
}
