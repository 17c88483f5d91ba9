-- `jobs::work_in` meets its contract: what factor left is answered. Assumes nothing.
use Rattle.std.proofs.Common.{refl, ◌∙◌}
use Rattle.jobs.proofs.Working.{made, roomed, words_of, floats_of}
use Rattle.jobs.proofs.work_in.Goals as goal

pub returns : goal.returns
returns c = λ j m k r d. c.answer.ensures j (made j m k refl refl refl (roomed refl r) c.factor-x.ensures d (c.factor-x.auto.words ∙ words_of r) (c.factor-x.auto.floats ∙ floats_of r))
