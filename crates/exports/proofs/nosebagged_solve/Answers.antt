-- `exports::nosebagged_solve` meets its contract: the call, and the words of its answer. Assumes nothing.
use Rattle.exports.proofs.Crossing.{solved}
use Rattle.exports.proofs.nosebagged_solve.Goals as goal

pub shape_of-words : goal.shape_of-words
shape_of-words c = c.solve-a.auto.words

pub shape_of-floats : goal.shape_of-floats
shape_of-floats c = c.solve-a.auto.floats

pub shape_of-b : goal.shape_of-b
shape_of-b c = c.solve-a.auto.b

pub returns : goal.returns
returns c = solved _ c.record_of.ensures _ _ _ _ c.solve-a.ensures c.answer_words-w.ensures c.number.ensures
