use Rattle.std.proofs.Common.{◌≡◌, length, ℕ, suc, ◌+◌, ◌<◌, arith, List, ◌++◌, take, drop, ap, ◌∙◌, sym, slice_index_or, slice_set}
use Rattle.std.proofs.Math.ListN.{get_or, set}
use Rattle.std.proofs.Math.Seq.{paste-suc}
use native.Mathlib.Numerals.{add-one}
use Rattle.parts.proofs.copy.Goals as goal

-- a turn of the loop
copied : {A : Type 0} (d s : List A) (j : ℕ) (z : A) → j < length d → j < length s → z ≡ get_or s j z → set (take j s ++ drop j d) j z ≡ take (j + 1) s ++ drop (j + 1) d
copied d s j z h k e =
    let p = paste-suc d 0 s j z (omega (arith, h)) k in
    let here : 0 + j ≡ j = omega arith in
    let next : 0 + suc j ≡ suc j = omega arith in
    rw (add-one j) (ap (λ x. set (take j s ++ drop j d) j x) e ∙ (rw (here, next) at p))

pub loop-i-preserved : goal.loop-i-preserved
loop-i-preserved g c = record {
  reached = omega arith;
  is = rw c.loop-i.invariant.is (copied c.args.to.now c.args.from.now c.loop-i.i _ (omega (arith, c.requires)) (omega arith) c.index-from-i.is);
}
