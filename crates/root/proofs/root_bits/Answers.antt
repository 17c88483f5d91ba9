-- `root::root_bits` meets its contract: by the place of d's leading digit, the call is at the radicand of `Parts`, and the sum is the pattern of its root.
-- Assumes nothing.
use Rattle.std.proofs.Common.{◌≡◌, ℕ, ◌+◌, ◌-◌, ◌*◌, ◌/◌, ◌^◌, ◌<◌, ◌≤◌, false, sym, ap, ◌∙◌, subst, arith}
use lib.Count.{count_leading_zeros}
use lib.Ieee.{binary64, of_bits, odd}
use Rattle.statement.specs.Root.{near_root, root_of_units}
use Rattle.laws.proofs.RootParts.{Lead, lead, shifted, code_places, radicand, places, radicand_lo, radicand_hi, root_is}
use Rattle.laws.proofs.RootPattern.{joined}
use Rattle.laws.proofs.RootWhole.{near_lo, near_hi}
use Rattle.root.proofs.root_bits.Goals as goal
use Rattle.root.proofs.root_bits.Goals.{Start}

at : (c : Start) → Lead c.args.d
at c = lead c.args.d c.requires.0 c.requires.1

module _ (d k : ℕ) (l : Lead d) where
  lo : 2 ^ 52 ≤ radicand d k l.j
  lo = radicand_lo d k l.j l.lo l.hi l.top

  hi : radicand d k l.j + 2 ≤ 2 ^ 54
  hi = radicand_hi d k l.j l.lo l.hi l.top

  asks : (v : ℕ) → v ≡ radicand d k l.j → (2 ^ 52 ≤ v) × (v < 2 ^ 54)
  asks v e = omega (arith, lo, hi)

  -- the pattern, from the callee's result at the radicand
  pattern : (v q z : ℕ) → v ≡ radicand d k l.j → q ≡ near_root (v * 2 ^ 52) → z ≡ places k l.j → k ≤ 2045
      → (of_bits binary64 (z * 2 ^ 52 + q) ≡ root_of_units (d * 2 ^ k)) × (z * 2 ^ 52 + q < 0x7ff0_0000_0000_0000)
  pattern v q z e f g m =
      let q_is : q ≡ near_root (radicand d k l.j * 2 ^ 52) = f ∙ ap (λ (x : ℕ). near_root (x * 2 ^ 52)) e in
      let q_lo : 2 ^ 52 ≤ q = subst (λ (x : ℕ). 2 ^ 52 ≤ x) (sym q_is) (near_lo (radicand d k l.j) lo) in
      let q_hi : q < 2 ^ 53 = subst (λ (x : ℕ). x < 2 ^ 53) (sym q_is) (near_hi (radicand d k l.j) hi) in
      let z-hi : z ≤ 1533 = omega (arith, l.top) in (
        joined z q q_lo q_hi (omega arith) ∙ sym (root_is d k l.j l.lo l.hi l.top ∙ ap (λ (x : ℕ). odd 53 false x (places k l.j) 1074) (sym q_is) ∙ ap (λ (x : ℕ). odd 53 false q x 1074) (sym g)),
        omega arith,
      )

whole-pattern : (c : goal.After-nearest_root-q)
    → (of_bits binary64 (((c.args.k + 63 - count_leading_zeros 64 c.args.d) / 2 + 485) * 2 ^ 52 + c.nearest_root-q.result) ≡ root_of_units (c.args.d * 2 ^ c.args.k))
    × (((c.args.k + 63 - count_leading_zeros 64 c.args.d) / 2 + 485) * 2 ^ 52 + c.nearest_root-q.result < 0x7ff0_0000_0000_0000)
whole-pattern c =
    let d = c.args.d in
    let k = c.args.k in
    pattern d k (at c.before) _ c.nearest_root-q.result _ (shifted d k (at c.before)) c.nearest_root-q.ensures (code_places d k (at c.before)) c.requires.2

pub overflow_cast-z : goal.overflow_cast-z
overflow_cast-z c = omega (arith, (at c).zeros)

pub overflow_sub-w : goal.overflow_sub-w
overflow_sub-w c = omega (arith, (at c).zeros, (at c).top)

pub overflow_shl-w : goal.overflow_shl-w
overflow_shl-w c = omega (arith, (at c).zeros)

pub overflow_sub-a : goal.overflow_sub-a
overflow_sub-a c = omega (arith, (at c).zeros)

pub nearest_root-q-requires : goal.nearest_root-q-requires
nearest_root-q-requires c = asks c.args.d c.args.k (at c) _ (shifted c.args.d c.args.k (at c))

pub overflow_add-result-2 : goal.overflow_add-result-2
overflow_add-result-2 c = omega (arith, (whole-pattern c).1)

pub returns : goal.returns
returns c = whole-pattern c
