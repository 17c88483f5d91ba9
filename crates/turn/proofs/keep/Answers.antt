-- `turn::keep` meets its contract. Three words. Assumes nothing.
use native.Mathlib.Omega.{arith}
use lib.ListN.{length-set}
use Rattle.turn.proofs.keep.Goals as goal

pub bounds-words-p-2 : goal.bounds-words-p-2
bounds-words-p-2 c =
    let pre' = c.requires in
    simp length-set (omega (arith, pre'.0, pre'.1, pre'.2))

pub bounds-words-p-3 : goal.bounds-words-p-3
bounds-words-p-3 c =
    let pre' = c.requires in
    simp length-set (omega (arith, pre'.0, pre'.1, pre'.2))
