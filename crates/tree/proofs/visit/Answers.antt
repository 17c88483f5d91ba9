-- `tree::visit` meets its contract. Assumes nothing.
use Rattle.tree.proofs.Steps.{visit_first, visit_again}
use borrow.Author.Rules.{rules}
use mathlib.Core.Path.{refl}
use native.Mathlib.Numerals.{add-one}
use Rattle.tree.proofs.visit.Goals as goal

pub returns-then-parents-i : goal.returns-then-parents-i
returns-then-parents-i c = record { parents_after = visit_first _ _ _ _ _ _ (search rules) c.if-parents-i.true; counts_after = rw add-one; marks_after = refl }

pub returns-else-parents-i : goal.returns-else-parents-i
returns-else-parents-i c = record { parents_after = visit_again _ _ _ _ _ _ (search rules) c.if-parents-i.false; counts_after = rw add-one; marks_after = refl }
