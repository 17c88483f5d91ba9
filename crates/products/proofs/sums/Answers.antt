-- `products::sums` meets its contract: the first sums, and on from them. Assumes nothing.
use mathlib.Core.Path.{refl, ◌∙◌}
use Prim.Native.Nat.{◌+◌, ◌-◌, ◌≤◌}
use native.Mathlib.Omega.{arith}
use lib.ListN.{length}
use Rattle.products.proofs.Rising as rise
use Rattle.products.proofs.sums.Goals as goal

pub clear-requires : goal.clear-requires
clear-requires c =
    let pre' = c.requires in
    pre'.4

pub shape_of-work-then-kw-eq0 : goal.shape_of-work-then-kw-eq0
shape_of-work-then-kw-eq0 c =
    let clear' = c.clear in
    clear'.ensures.size

pub returns-then-kw-eq0 : goal.returns-then-kw-eq0
returns-then-kw-eq0 c =
    let args' = c.args in
    let clear' = c.clear in
    rise.summed_at _ args'.v.now args'.m args'.q _ _ 0 args'.kw (rise.summed_none _ args'.v.now args'.m args'.q _ _ clear'.ensures) (omega arith) (omega arith)

pub set1-requires : goal.set1-requires
set1-requires c =
    let args' = c.args in
    let pre' = c.requires in
    let h : args'.q + (args'.m - args'.q) ≤ length args'.v.now = rise.at_in args'.m 0 args'.q args'.kw args'.q _ (omega arith) pre'.0 pre'.1 (rise.at_first args'.m args'.q) pre'.3 in
    (omega arith, omega arith, omega arith)

pub by-requires-clause-begun : goal.by-requires-clause-begun
by-requires-clause-begun c =
    let pre' = c.requires in
    let args' = c.args in
    let set1' = c.set1 in
    rise.begun _ 1 pre' (rise.summed_1 _ args'.v.now args'.m args'.q (args'.m - args'.q) _ set1'.ensures) (omega arith)

pub shape_of-work-then-kw-lt4 : goal.shape_of-work-then-kw-lt4
shape_of-work-then-kw-lt4 c = c.by.ensures.sums.size ∙ c.set1.ensures.size

pub returns-then-kw-lt4 : goal.returns-then-kw-lt4
returns-then-kw-lt4 c =
    let a = c.args in
    let n = a.m - a.q in
    let t1 = rise.summed_1 a.work.now a.v.now a.m a.q n _ c.set1.ensures in
    rise.summed_at a.work.now a.v.now a.m a.q n _ _ a.kw (rise.summed_on a.work.now a.v.now a.m a.q n _ _ _ _ t1 c.by.ensures.sums) c.by.ensures.upto.0 (omega (arith, c.by.ensures.upto.1))

pub set4-requires : goal.set4-requires
set4-requires c =
    let args' = c.args in
    let pre' = c.requires in
    let f = rise.four args'.m 0 args'.q args'.kw _ args'.q _ _ _ _ (omega arith) pre'.0 pre'.1 pre'.3 (rise.at_first args'.m args'.q) refl refl refl refl in
    (rise.some _ _ pre'.1, f.in₀, f.in₁, f.in₂, f.in₃, pre'.4)

pub by-k8-requires-clause-begun : goal.by-k8-requires-clause-begun
by-k8-requires-clause-begun c =
    let pre' = c.requires in
    let args' = c.args in
    let if2' = c.if-kw-lt4 in
    let set4' = c.set4 in
    rise.begun _ 4 pre' (rise.summed_4 _ args'.v.now args'.m args'.q (args'.m - args'.q) _ _ _ _ _ _ (omega (arith, pre'.0, if2'.false)) (rise.four args'.m 0 args'.q args'.kw _ args'.q _ _ _ _ (omega arith) pre'.0 pre'.1 pre'.3 (rise.at_first args'.m args'.q) refl refl refl refl) set4'.ensures) (omega arith)

pub shape_of-work : goal.shape_of-work
shape_of-work c = c.by-2.ensures.sums.size ∙ c.by-k4.ensures.sums.size ∙ c.by-k8.ensures.sums.size ∙ c.set4.ensures.size

pub returns : goal.returns
returns c =
    let a = c.args in
    let p = c.requires in
    let old = a.work.now in
    let n = a.m - a.q in
    let t0 = rise.summed_4 old a.v.now a.m a.q n _ _ _ _ _ _ (omega (arith, p.0, c.if-kw-lt4.false)) (rise.four a.m 0 a.q a.kw _ a.q _ _ _ _ (omega arith) p.0 p.1 p.3 (rise.at_first a.m a.q) refl refl refl refl) c.set4.ensures in
    let t8 = rise.summed_on old a.v.now a.m a.q n _ _ _ _ t0 c.by-k8.ensures.sums in
    let t4 = rise.summed_on old a.v.now a.m a.q n _ _ _ _ t8 c.by-k4.ensures.sums in
    rise.summed_at old a.v.now a.m a.q n _ _ a.kw (rise.summed_on old a.v.now a.m a.q n _ _ _ _ t4 c.by-2.ensures.sums) c.by-2.ensures.upto.0 (omega (arith, c.by-2.ensures.upto.1))
