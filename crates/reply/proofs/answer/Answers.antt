-- `reply::answer` meets its contract: a refusal is written, or the solution. Assumes nothing.
use native.Mathlib.Omega.{arith}
use Rattle.reply.proofs.Telling.{refused_is, accepted_is, placed_is}
use Rattle.reply.proofs.answer.Goals as goal

pub returns-in_default : goal.returns-in_default
returns-in_default c =
    let match' = c.in_default in
    let put-refusal' = c.put_refusal in
    λ j m. placed_is _ (refused_is j m (λ q. match'.not-Accepted q)) put-refusal'.ensures

pub put_success-requires : goal.put_success-requires
put_success-requires c =
    let solve' = c.solve in
    let pre' = c.requires in
    let h = solve'.auto.b in omega (arith, pre')

pub shape_of-words : goal.shape_of-words
shape_of-words c =
    let solve' = c.solve in
    solve'.auto.words

pub shape_of-floats : goal.shape_of-floats
shape_of-floats c =
    let solve' = c.solve in
    solve'.auto.floats

pub shape_of-b : goal.shape_of-b
shape_of-b c =
    let solve' = c.solve in
    solve'.auto.b

pub returns : goal.returns
returns c =
    let enum-told' = c.in-Accepted in
    let solve' = c.solve in
    let put-success' = c.put_success in
    λ j m. placed_is _ (accepted_is j m _ enum-told'.is solve'.ensures) put-success'.ensures
