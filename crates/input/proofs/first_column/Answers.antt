use mathlib.Core.Path.{sym, ◌∙◌}
use native.Mathlib.Numerals.{add-one}
use native.Mathlib.Omega.{arith}
use Rattle.areas.proofs.Search.{search_start, search_more, search_hit, search_none}
use Rattle.laws.proofs.First.{first_is, first_none}
use Rattle.input.proofs.first_column.Goals as goal

pub loop-k-init : goal.loop-k-init
loop-k-init c = search_start _ _ _

pub wrong_rows-requires : goal.wrong_rows-requires
wrong_rows-requires c = rw add-one (c.requires.by_index _ c.loop-k-test.true)

pub returns-then-wrong_rows : goal.returns-then-wrong_rows
returns-then-wrong_rows c = first_is _ _ _ (search_hit c.loop-k.invariant (omega arith) (sym (rw add-one at c.wrong_rows.ensures) ∙ c.if-wrong_rows.true)) (omega arith)

pub loop-k-preserved : goal.loop-k-preserved
loop-k-preserved c = search_more c.loop-k.invariant (omega arith) (sym (rw add-one at c.wrong_rows.ensures) ∙ c.if-wrong_rows.false)

pub returns : goal.returns
returns c = first_none _ _ _ (search_none c.loop-k.invariant (omega arith)) (omega arith)
