-- `turn::turn` meets its contract. Skipped, done or failed. Assumes nothing.
use mathlib.Core.Path.{refl, ap}
use native.Mathlib.Omega.{arith}
use lib.Seq.{length-take-le}
use lib.ListN.{take, drop}
use Rattle.answers.specs.Least.{least_of}
use Rattle.updates.specs.Layout.{starts_at, rows_at}
use Rattle.laws.specs.Lower.{lower_value}
use Rattle.turn.proofs.States as states
use Rattle.turn.proofs.turn.Goals as goal

pub returns-then-words-j-ne0-clause-turned : goal.returns-then-words-j-ne0-clause-turned
returns-then-words-j-ne0-clause-turned c =
    let a = c.args in
    let s = a.structure.now in
    let A = lower_value (drop (starts_at s.n) a.words.now) (drop (rows_at s.n) a.words.now) a.matrix.now in
    (states.skipped s.n s.firsts.now s.starts.now s.rows.now a.ns a.groups.now a.words.now a.matrix.now (take a.entries a.values.now) a.entries _ c.requires.due.0 A a.j c.requires.due.1 (least_of s.n a.least) _ refl c.if-words-j-ne0.true, refl)

pub one-requires : goal.one-requires
one-requires c = record { due_at = rw (length-take-le c.args.entries c.args.values.now c.requires.due.3) (c.requires.due.0.at c.args.j c.requires.due.1); fetched = c.requires.due.2 }

pub returns-in-Ok-clause-turned : goal.returns-in-Ok-clause-turned
returns-in-Ok-clause-turned c =
    let a = c.args in
    let s = a.structure.now in
    let A = lower_value (drop (starts_at s.n) a.words.now) (drop (rows_at s.n) a.words.now) a.matrix.now in
    let o = c.one in
    states.over _ _ _ _ _ _ _ _ a.values.now o.new.values a.entries c.requires.due.3 o.auto.values (states.finished s.n s.firsts.now s.starts.now s.rows.now a.ns a.groups.now a.words.now a.matrix.now (take a.entries a.values.now) a.entries _ c.requires.due.0 A a.j c.requires.due.1 (least_of s.n a.least) _ refl c.if-words-j-ne0.false o.new.words o.new.values o.ensures.words_unchanged.0 o.ensures.words_unchanged.1 o.auto.words o.auto.values _ c.in-Ok.is o.ensures.stepped)

pub returns-in-Err-clause-turned : goal.returns-in-Err-clause-turned
returns-in-Err-clause-turned c =
    let a = c.args in
    let s = a.structure.now in
    let A = lower_value (drop (starts_at s.n) a.words.now) (drop (rows_at s.n) a.words.now) a.matrix.now in
    let o = c.one in
    states.over _ _ _ _ _ _ _ _ a.values.now o.new.values a.entries c.requires.due.3 o.auto.values (states.broken s.n s.firsts.now s.starts.now s.rows.now a.ns a.groups.now a.words.now a.matrix.now (take a.entries a.values.now) a.entries _ c.requires.due.0 A a.j c.requires.due.1 (least_of s.n a.least) _ refl c.if-words-j-ne0.false o.new.words o.new.values o.ensures.words_unchanged.0 o.ensures.words_unchanged.1 o.auto.words o.auto.values _ c.in-Err.c _ _ (c.failed.ensures.least s.n c.in-Err.ensures.below) c.failed.ensures.words c.in-Err.is o.ensures.stepped)

pub returns-in-Err-clause-below : goal.returns-in-Err-clause-below
returns-in-Err-clause-below c = λ _.
    let e = c.failed.ensures.least c.args.structure.now.n c.in-Err.ensures.below in
    omega (arith, ap (λ x. x.0) e, c.in-Err.ensures.below)
