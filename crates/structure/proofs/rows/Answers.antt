use mathlib.Core.Path.{ap, ◌∙◌}
use mathlib.Core.List.{◌++◌}
use lib.ListN.{drop, replicate}
use lib.Seq.{length-take-le}
use Rattle.structure.proofs.Climbs.{all_begin, all_over}
use mathlib.Core.Path.{refl}
use Rattle.structure.proofs.rows.Goals as goal

pub loop-r-init : goal.loop-r-init
loop-r-init c = let q = c.requires in (all_begin _ _ _ _ c.args.starts.now _ c.args.marks.now _ c.args.next.now _ q.started.0 q.started.1 q.room.0 q.room.1 q.room.2 (ap (λ l. l ++ drop c.args.ns c.args.marks.now) (c.fill.ensures.after (λ y e. e) ∙ ap (λ k. replicate k c.args.numbering.now.matrix.n) (length-take-le c.args.ns c.args.marks.now q.room.0))) (ap (λ l. l ++ drop c.args.ns c.args.next.now) c.copy.ensures.after), refl, refl)

pub returns : goal.returns
returns c = let rest' = all_over c.loop-r.invariant.0 c.loop-r-test.false c.requires.started.0 in record { to_after = rest'.0; ended = rest'.1 }
