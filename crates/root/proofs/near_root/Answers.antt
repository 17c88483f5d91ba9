use Rattle.std.proofs.Common.{◌≡◌, ℕ, suc, ◌+◌, ◌-◌, ◌*◌, ◌/◌, ◌^◌, ◌<◌, ◌≤◌, sym, refl, ap, ◌∙◌, subst, subst₂, suc-mul, mul-one, mul-suc, arith}
use Rattle.laws.proofs.RootWhole.{Whole, near_root_up, near_root_down, half_next, half_back, digit_on, digit_off}
use Rattle.root.proofs.near_root.Invariants.{Digits}
use Rattle.root.proofs.near_root.Goals as goal
use Rattle.root.proofs.near_root.Goals.{else-s-z, then-s-z}

digits-on : (v i b q z : ℕ) → Digits v i b q z → i < 52 → 2 * q + b / 2 ≤ 2 * z → Digits v (i + 1) (b / 2) (q + b / 2) (2 * z - (2 * q + b / 2))
digits-on v i b q z d h l =
    let e : b ≡ 2 * (b / 2) = half_back i b h d.place in
    record {
      turns = omega arith;
      place = half_next i b h d.place;
      left = digit_on z b (b / 2) q (v * 2 ^ 52) e d.left l;
      less = omega arith;
      room = omega arith;
    }

digits-off : (v i b q z : ℕ) → Digits v i b q z → i < 52 → 2 * z < 2 * q + b / 2 → Digits v (i + 1) (b / 2) q (2 * z)
digits-off v i b q z d h l =
    let e : b ≡ 2 * (b / 2) = half_back i b h d.place in
    record {
      turns = omega arith;
      place = half_next i b h d.place;
      left = digit_off z b (b / 2) q (v * 2 ^ 52) e d.left;
      less = omega arith;
      room = omega arith;
    }

-- at the last place z is what is left, and q the whole part of the root
last-place : (v i b q z : ℕ) → Digits v i b q z → 52 ≤ i → (z + q * q ≡ v * 2 ^ 52) × Whole (v * 2 ^ 52) q
last-place v i b q z d h =
    let n : i ≡ 52 = omega (arith, d.turns) in
    let e : b ≡ 1 = d.place ∙ ap (λ (k : ℕ). 2 ^ (52 - k)) n in
    let l : z + q * q ≡ v * 2 ^ 52 = subst (λ (k : ℕ). k + q * q ≡ v * 2 ^ 52) (ap (λ (k : ℕ). z * k) e ∙ mul-one z) d.left in
    (l, record { low = omega arith; high = omega (arith, d.less, suc-mul q (suc q), mul-suc q q) })

pub loop-i-init : goal.loop-i-init
loop-i-init c = record { turns = omega arith; place = refl; left = omega arith; less = omega arith; room = omega arith }

pub loop-i-preserved : goal.loop-i-preserved
loop-i-preserved c =
    let v = c.args.v in
    let l = c.loop-i in
    let h = c.loop-i-test.true in
    elim c.if-s-z.branch [ then-s-z w ↦ subst₂ (λ (q z : ℕ). Digits v (l.i + 1) (l.b / 2) q z) (sym w.q-is) (sym w.z-is) (digits-on v l.i l.b l.q l.z l.invariant h w.if-s-z.true) | else-s-z w ↦ subst₂ (λ (q z : ℕ). Digits v (l.i + 1) (l.b / 2) q z) (sym w.q-is) (sym w.z-is) (digits-off v l.i l.b l.q l.z l.invariant h w.if-s-z.false) ]

pub returns-then-q-z : goal.returns-then-q-z
returns-then-q-z c =
    let l = c.loop-i in
    let v = c.args.v in
    let p = last-place v l.i l.b l.q l.z l.invariant c.loop-i-test.false in
    near_root_up (v * 2 ^ 52) l.q l.z p.1 p.0 c.if-q-z.true

pub returns-else-q-z : goal.returns-else-q-z
returns-else-q-z c =
    let l = c.loop-i in
    let v = c.args.v in
    let p = last-place v l.i l.b l.q l.z l.invariant c.loop-i-test.false in
    near_root_down (v * 2 ^ 52) l.q l.z p.1 p.0 c.if-q-z.false
