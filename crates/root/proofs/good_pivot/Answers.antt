-- `root::good_pivot` meets its contract. By cases on finiteness. Assumes nothing.
use Rattle.root.proofs.Pivots.{test_yes, test_no}
use Rattle.root.proofs.good_pivot.Goals as goal

pub returns-then-is_finite : goal.returns-then-is_finite
returns-then-is_finite c = test_yes c.args.a c.args.d _ _ c.abs.ensures c.is_finite.ensures c.if-is_finite.true

pub returns-else-is_finite : goal.returns-else-is_finite
returns-else-is_finite c = test_no c.args.a c.args.d _ c.is_finite.ensures c.if-is_finite.false
