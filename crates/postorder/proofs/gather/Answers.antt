use Rattle.areas.proofs.Front.{front_start, front_more}
use Rattle.postorder.proofs.gather.Goals as goal

pub loop-a-init : goal.loop-a-init
loop-a-init g c = λ f h. front_start _ _ _ c.requires.n_in_bounds.2

pub loop-a-preserved : goal.loop-a-preserved
loop-a-preserved g c = λ f h. front_more (c.loop-a.invariant f h) c.loop-a-test.true (h c.loop-a.a c.value.result c.loop-a-test.true c.value.ensures)
