-- What the split and the laying ask, from what the survey leaves. Assumes nothing.
use mathlib.Core.Path.{◌≡◌}
use mathlib.Core.List.{List}
use Prim.Native.Nat.{ℕ, ◌+◌, ◌*◌, ◌≤◌, ◌<◌}
use native.Mathlib.Omega.{arith}
use lib.ListN.{length, drop}
use Rattle.laws.specs.Numbered.{shape_for}
use Rattle.statement.specs.Input.{Matrix}
use Rattle.statement.specs.declared.Room.{Room}
use Rattle.tasks.specs.Given.{Sized, Above, Given}
use Rattle.tasks.proofs.Formed.{asked}
use Rattle.survey.specs.Laid.{Laid}
use Rattle.survey.specs.declared.Findings.{Findings}
use Rattle.survey.proofs.Surveying.{long}
use Rattle.survey.proofs.Reading.{held_is, fewer, enough_words, parents_past}

module _ {M : Matrix} {cap : ℕ} {r : Room} {s : Findings} {permutation firsts starts groups tasks words nine : List ℕ} (l : Laid M cap r s permutation firsts starts groups tasks words nine) where
  all : (Sized s.supernodes firsts starts × Above s.supernodes (drop M.n tasks)) × Given (shape_for M) s.supernodes firsts starts (drop M.n tasks)
  all = asked M l.well s.supernodes l.many_supernodes firsts _ starts _ (drop M.n tasks) l.rest (held_is r.firsts (shape_for M).firsts l.two) (held_is r.starts (shape_for M).starts l.three) (parents_past l)

  pub split_given : Given (shape_for M) s.supernodes firsts starts (drop M.n tasks)
  split_given = all.1

  pub split_ready : (top words : List ℕ) → length tasks ≡ r.tasks → length top ≡ r.top → length words ≡ r.words →
      ((M.n ≤ length tasks) × Sized s.supernodes firsts starts × Above s.supernodes (drop M.n tasks)) ×
      (((s.supernodes ≤ 32768) × (3 * s.supernodes + 3 ≤ length words)) × ((2 * s.supernodes ≤ length tasks) × (s.supernodes ≤ length top)))
  split_ready top words a b c =
      let n = long M r l.room in
      let f = fewer M l.well in
      let w = enough_words M r l.room in
      let m = l.many_supernodes in
      ((omega (arith, n.five, a), all.0.0, all.0.1), ((omega (arith, f, m, l.well.small), omega (arith, f, m, w, c)), (omega (arith, f, m, n.five, a), omega (arith, f, m, n.six, b))))
