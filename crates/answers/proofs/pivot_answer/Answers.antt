-- `answers::pivot_answer` meets its contract, by whether a column fails. Assumes nothing.
use mathlib.Core.Path.{refl, ap, subst}
use Prim.Native.Nat.{◌<◌}
use native.Mathlib.Omega.{arith}
use borrow.Author.Tests.{lt-ltb, le-ltb}
use Rattle.std.specs.Prelude.{Err, IfSome}
use Rattle.statement.specs.Answers.{test}
use Rattle.statement.specs.declared.Answer.TheVariants.{WrongPivot}
use Rattle.laws.specs.Answered.{passed}
use Rattle.answers.proofs.pivot_answer.Goals as goal

pub returns-in-Some : goal.returns-in-Some
unfolding passed test
returns-in-Some c = λ n h. rw c.in-Some.is (rw (lt-ltb c.in-Some.c.0 n (subst (λ o. IfSome o (λ x. x.0 < n)) c.in-Some.is h)) (ap (λ k. Err (WrongPivot k)) c.original.ensures))

pub returns-in-None : goal.returns-in-None
unfolding passed test
returns-in-None c = λ n h. rw c.in-None.is (rw (le-ltb n n (omega arith)) refl)
