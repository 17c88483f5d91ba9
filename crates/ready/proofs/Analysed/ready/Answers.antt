-- `ready::Analysed::ready` meets its contract: call by call. Assumes nothing.
use Rattle.std.proofs.Common.{◌≡◌, ◌+◌, ◌-◌, ◌*◌, ◌++◌, ap, ◌∙◌, arith}
use lib.ListN.{length, take, drop, replicate}
use lib.Seq.{length-take-le, take_at}
use Rattle.laws.specs.Numbered.{shape_for}
use Rattle.views.specs.Shown.{matrix_of}
use Rattle.ready.proofs.Laying.{w₁, w₃, room, fewer, sited_in, rising, of_shape, tasks_long, long₁, long₂, long₃, laid, kept}
use Rattle.ready.proofs.Analysed.ready.Goals as goal

pub invariant_of-upper : goal.invariant_of-upper
invariant_of-upper c = record { sited = sited_in c.requires.known; beside = c.requires.known.well.beside }

pub offsets-pb-requires : goal.offsets-pb-requires
offsets-pb-requires c =
    let a = c.args.self.now in
    let n = a.matrix.n in
    let w = c.lower.new.words in
    let long = long₁ n c.args.words.now w (omega (arith, c.requires.n_in_bounds)) c.lower.auto.words in
    record { rising = rising c.requires.known; ns_in_bounds = room (6 * n + 1) a.ns (w₁ n c.args.words.now w) (omega (arith, c.requires.n_in_bounds, fewer c.requires.known, long)) }

pub slice_bounds-copy-end : goal.slice_bounds-copy-end
slice_bounds-copy-end c =
    let o = c.offsets-pb in
    omega (arith, c.requires.n_in_bounds, fewer c.requires.known, long₂ c.args.self.now.matrix.n c.args.words.now c.lower.new.words (omega (arith, c.requires.n_in_bounds)) c.lower.auto.words o.new.to o.auto.to)

pub slice_bounds-copy-end-2 : goal.slice_bounds-copy-end-2
slice_bounds-copy-end-2 c = omega (arith, tasks_long c.requires.known)

pub returns : goal.returns
returns c =
    let a = c.args.self.now in
    let n = a.matrix.n in
    let k = c.requires.known in
    let o = c.offsets-pb in
    let p = c.copy.new.to in
    let w = c.args.words.now in
    let w3 = w₃ n a.ns w c.lower.new.words o.new.to p in
    let e2 = o.ensures.to_after (shape_for (matrix_of a.matrix)) (of_shape k) in
    let e3 : p ≡ take a.ns (drop n a.tasks.now) = c.copy.ensures.after ∙ ap (λ x. take x (drop n a.tasks.now)) (let q : n + a.ns - n ≡ a.ns = omega arith in q) in
    let len = long₃ n w c.lower.new.words (omega (arith, c.requires.n_in_bounds)) c.lower.auto.words o.new.to o.auto.to a.ns p (fewer k) (omega (arith, c.copy.auto.to)) in
    let e4 : c.fill.new.self ++ drop (n + 1) w3 ≡ replicate (n + 1) 0 ++ drop (n + 1) w3 = ap (λ x. x ++ drop (n + 1) w3) (c.fill.ensures.after (λ y q. q) ∙ ap (λ m. replicate m 0) (length-take-le (n + 1) w3 (omega (arith, len, c.requires.n_in_bounds)))) in
    record {
      laid = laid k w c.lower.new.words o.new.to p _ (omega (arith, c.requires.n_in_bounds)) c.lower.auto.words e2 e3 e4 _ (rw (take_at c.lower.new.to_values (drop (length a.matrix.rows.now) c.args.floats.now) (length a.matrix.rows.now) (c.lower.auto.to_values ∙ length-take-le _ _ (omega (arith, c.requires.n_in_bounds)))) c.lower.ensures);
      kept = kept k w c.lower.new.words o.new.to p _ (omega (arith, c.requires.n_in_bounds)) c.lower.auto.words e2 e3 e4;
    }
