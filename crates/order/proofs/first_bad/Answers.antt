use Rattle.order.proofs.Taking.{taking_start, taking_none, taking_outside, taking_early, taking_more}
use Rattle.order.proofs.Naming.{later, slot, one}
use Rattle.laws.proofs.First.{first_is, first_none}
use mathlib.Core.Path.{sym}
use native.Mathlib.Omega.{arith}
use Rattle.order.proofs.first_bad.Goals as goal

pub loop-p-init : goal.loop-p-init
loop-p-init c = taking_start _ _ _ _ c.children.ensures

pub returns-then-j-ns : goal.returns-then-j-ns
returns-then-j-ns c = first_is _ _ _ (sym (taking_outside c.loop-p.invariant c.loop-p-test.true c.if-j-ns.true)) c.loop-p-test.true

pub returns-then-left-j-ne0 : goal.returns-then-left-j-ne0
returns-then-left-j-ne0 c = first_is _ _ _ (sym (taking_early c.loop-p.invariant c.loop-p-test.true c.requires.above c.if-j-ns.false c.if-left-j-ne0.true)) c.loop-p-test.true

pub name-requires : goal.name-requires
name-requires c = let n = c.loop-p.invariant.naming in
    let a = c.requires.above in
    let i = c.if-j-ns.false in
    let z = c.if-left-j-ne0.false in record { j_in_bounds = (omega arith, omega (arith, n.len), omega (arith, n.len, slot n a _ i z)); ns_in_bounds = (omega (arith, n.len), omega (arith, later n a _ i z), one n a _ i z) }

pub loop-p-preserved : goal.loop-p-preserved
loop-p-preserved c = taking_more c.loop-p.invariant c.loop-p-test.true c.requires.above c.if-j-ns.false c.if-left-j-ne0.false c.name.ensures

pub returns : goal.returns
returns c = first_none _ _ _ (sym (taking_none c.loop-p.invariant c.loop-p-test.false)) c.loop-p-test.false
