use mathlib.Core.Path.{◌∙◌}
use native.Mathlib.Omega.{arith}
use native.Mathlib.Nat.{le_refl}
use Rattle.views.specs.Shown.{shape_of}
use Rattle.assembly.proofs.Scatters as scat
use Rattle.assembly.proofs.Gather as gather
use Rattle.assembly.proofs.from_a.Goals as goal

pub column_start-requires : goal.column_start-requires
column_start-requires c =
    let pre = c.requires in
    let args = c.args in
    let f = pre.fresh in
    let b = pre.rows in
    let J = args.j in
    let S = shape_of args.structure.now in
    omega (arith, f.w_is, f.m_is, b.tall J (le_refl _), gather.height_le S b J (le_refl _), b.few)

pub clear-requires : goal.clear-requires
clear-requires c =
    let args = c.args in
    let pre = c.requires in
    let column-start = c.column_start in
    let S = shape_of args.structure.now in
    let J = args.j in
    let f = pre.fresh in
    let size = scat.size_code S J args.to.now.height args.to.now.width _ column-start.ensures f.m_is f.w_is in
    omega (arith, size, f.own)

pub loop-c-init : goal.loop-c-init
loop-c-init c =
    let clear = c.clear in
    let args = c.args in
    let pre = c.requires in
    let column-start = c.column_start in
    let S = shape_of args.structure.now in
    let J = args.j in
    let as0 = args.lower.now.starts.now in
    let ar = args.lower.now.rows.now in
    let av = args.lower.now.values.now in
    let f = pre.fresh in
    let size = scat.size_code S J args.to.now.height args.to.now.width _ column-start.ensures f.m_is f.w_is in
    (omega arith, scat.column_none S J as0 ar av _ (λ x l. clear.ensures.inside x (omega (arith, size))))

pub from_a_column-requires : goal.from_a_column-requires
from_a_column-requires c =
    let pre = c.requires in
    let loop = c.loop-c in
    let clear = c.clear in
    let loop-test = c.loop-c-test in
    let b = pre.rows in
    let f = pre.fresh in record { rows = b; pattern = pre.pattern; fresh = scat.fresh_as _ _ _ _ _ _ _ _ (loop.invariant.1.size ∙ clear.ensures.size) f; c_lt_w = loop-test.true }

pub loop-c-preserved : goal.loop-c-preserved
loop-c-preserved c =
    let loop-test = c.loop-c-test in
    let args = c.args in
    let pre = c.requires in
    let loop = c.loop-c in
    let from-a-column = c.from_a_column in
    let S = shape_of args.structure.now in
    let b = pre.rows in
    let J = args.j in
    let f = pre.fresh in
    let as0 = args.lower.now.starts.now in
    let ar = args.lower.now.rows.now in
    let av = args.lower.now.values.now in (
      omega (arith, loop-test.true),
      scat.column_more S b J (le_refl _) args.place.now f.placed f.places as0 ar av (gather.as_lower pre.pattern.0 args.lower.now.valid) pre.pattern.1 loop.c (omega (arith, loop-test.true, f.w_is)) _ _ _ loop.invariant.1 from-a-column.ensures,
    )

pub shape_of-own : goal.shape_of-own
shape_of-own c =
    let loop = c.loop-c in
    let clear = c.clear in
    loop.invariant.1.size ∙ clear.ensures.size

pub returns : goal.returns
returns c =
    let loop = c.loop-c in
    let clear = c.clear in
    let loop-test = c.loop-c-test in
    let args = c.args in
    let pre = c.requires in
    let column-start = c.column_start in
    let S = shape_of args.structure.now in
    let J = args.j in
    let as0 = args.lower.now.starts.now in
    let ar = args.lower.now.rows.now in
    let av = args.lower.now.values.now in
    let f = pre.fresh in
    let size = scat.size_code S J args.to.now.height args.to.now.width _ column-start.ensures f.m_is f.w_is in
    scat.columns_all S J as0 ar av _ _ _ loop.c _ size clear.ensures loop.invariant.1 (omega (arith, loop.invariant.0, f.w_is)) (omega (arith, loop-test.false, f.w_is))
