use mathlib.Core.Path.{refl, sym}
use Rattle.std.proofs.Common.{arith, add-one}
use Rattle.run.proofs.Runs.{asked, going_none, name_asked, group_asked, fetch_asked, turn_asked, one_more, ended}
use Rattle.run.proofs.run.Goals as goal

pub loop-p-init : goal.loop-p-init
loop-p-init c = (omega arith, going_none (λ h. asked c.split_at_mut-matrix.ensures.front c.split_at_mut-matrix.ensures.back_len refl (c.requires h)), tt)

pub name-j-requires : goal.name-j-requires
name-j-requires c = name_asked (λ h. asked c.split_at_mut-matrix.ensures.front c.split_at_mut-matrix.ensures.back_len c.loop-p.auto.work (c.requires h)) c.loop-p.invariant.1 c.loop-p-test.true

pub group-requires : goal.group-requires
group-requires c = group_asked (λ h. asked c.split_at_mut-matrix.ensures.front c.split_at_mut-matrix.ensures.back_len c.loop-p.auto.work (c.requires h)) c.loop-p.invariant.1 c.loop-p-test.true c.name-j.ensures

pub group_end-requires : goal.group_end-requires
group_end-requires c = group_asked (λ h. asked c.split_at_mut-matrix.ensures.front c.split_at_mut-matrix.ensures.back_len c.loop-p.auto.work (c.requires h)) c.loop-p.invariant.1 c.loop-p-test.true c.name-j.ensures

pub fetch-requires : goal.fetch-requires
fetch-requires c = fetch_asked (λ h. asked c.split_at_mut-matrix.ensures.front c.split_at_mut-matrix.ensures.back_len c.loop-p.auto.work (c.requires h)) c.loop-p.invariant.1 c.loop-p-test.true c.name-j.ensures c.group.ensures c.group_end.ensures

pub turn-least-requires : goal.turn-least-requires
turn-least-requires c = record { due = turn_asked (λ h. asked c.split_at_mut-matrix.ensures.front c.split_at_mut-matrix.ensures.back_len c.loop-p.auto.work (c.requires h)) c.loop-p.invariant.1 c.loop-p-test.true c.name-j.ensures c.group.ensures c.group_end.ensures c.fetch.ensures c.fetch.auto.words }

pub loop-p-preserved : goal.loop-p-preserved
loop-p-preserved c = (omega arith, rw add-one (one_more (λ h. asked c.split_at_mut-matrix.ensures.front c.split_at_mut-matrix.ensures.back_len c.loop-p.auto.work (c.requires h)) c.loop-p.invariant.1 c.loop-p-test.true c.name-j.ensures c.group.ensures c.group_end.ensures c.fetch.ensures c.fetch.auto.words c.turn-least.ensures.turned c.turn-least.auto.words c.turn-least.auto.values), c.turn-least.ensures.below c.loop-p.invariant.2)

pub returns-clause-left : goal.returns-clause-left
returns-clause-left c = ended (λ h. asked c.split_at_mut-matrix.ensures.front c.split_at_mut-matrix.ensures.back_len c.loop-p.auto.work (c.requires h)) c.loop-p.invariant.1 (sym c.split_at_mut-matrix.ensures.front) (omega arith)
