-- The assembly: A's entries, then the updates. Assumes nothing.
use mathlib.Core.Path.{◌≡◌, sym, ap, ◌∙◌}
use mathlib.Core.List.{List}
use Prim.Native.Nat.{ℕ, suc, ◌+◌, ◌-◌, ◌≤◌, ◌<◌}
use native.Mathlib.Omega.{arith}
use lib.ListN.{length, get_or, take, drop, length-drop}
use lib.Seq.{ext_get_or, get_or-take, get_or-drop, length-take-le}
use lib.Ieee.{Float, nan}
use Rattle.laws.proofs.Stretches.{offset_suc, offset_mono}
use Rattle.laws.proofs.Agree.{alike_self, earlier_agree}
use Rattle.assembly.specs.Ready.{row, Rows}
use Rattle.assembly.specs.Assembled.{at, Gathered, FromA, Assembled}
use Rattle.areas.proofs.Part as part
use Rattle.statement.specs.Shape.{Shape, first, width, height, trapezoid, size, offset, stretch}
use Rattle.statement.specs.Rules.{earlier}
use Rattle.laws.specs.Lower.{lower_value}

-- values that agree below a bound have the same stretches there
pub stretch_same : (S : Shape) (v v' : List Float) (K o : ℕ) → length v ≡ length v' → o ≤ length v → offset S (suc K) ≤ o → ((x : ℕ) → x < o → get_or v x nan ≡ get_or v' x nan) → stretch S v K ≡ stretch S v' K
unfolding stretch
stretch_same S v v' K o e h l same =
    ext_get_or nan (take (size S K) (drop (offset S K) v)) (take (size S K) (drop (offset S K) v')) (len v h ∙ sym (len v' (omega arith)))
    (λ i q. at_i i (omega (arith, len v h)))
  where
    len : (v : List Float) → o ≤ length v → length (take (size S K) (drop (offset S K) v)) ≡ size S K
    len v h = length-take-le (size S K) (drop (offset S K) v) (omega (arith, length-drop (offset S K) v, offset_suc S K))

    at_i : (i : ℕ) → i < size S K → get_or (take (size S K) (drop (offset S K) v)) i nan ≡ get_or (take (size S K) (drop (offset S K) v')) i nan
    at_i i q =
        get_or-take (size S K) (drop (offset S K) v) i nan q ∙
        get_or-drop (offset S K) v i nan ∙
        same (offset S K + i) (omega (arith, offset_suc S K)) ∙
        sym (get_or-take (size S K) (drop (offset S K) v') i nan q ∙ get_or-drop (offset S K) v' i nan)

module _ (S : Shape) {N : ℕ} (b : Rows S N) (J : ℕ) (h : J < N) (starts rows : List ℕ) (vals : List Float) (old own new : List Float) (off : ℕ) (e : off ≡ offset S J) (room : offset S (suc J) ≤ length old)
    (f : FromA S J starts rows vals (width S J) (part.mid nan old off) own) (g : Gathered S J (part.back nan old off own) new) where
  inside : off ≤ length old
  inside = omega (arith, offset_suc S J)

  mid : List Float
  mid = part.back nan old off own

  long : length (part.back nan old off own) ≡ length old
  long = part.back_length nan old off inside own f.size

  low : (x : ℕ) → x < offset S J → get_or (part.back nan old off own) x nan ≡ get_or old x nan
  low x l = part.back_below nan old off inside own x (omega arith)

  high : (x : ℕ) → offset S (suc J) ≤ x → get_or (part.back nan old off own) x nan ≡ get_or old x nan
  unfolding size
  high x l =
      ap (λ x. get_or (part.back nan old off own) x nan) (sym e₁) ∙
      part.back_at nan old off inside own (x - off) ∙
      f.after (x - off) (omega (arith, offset_suc S J)) ∙
      part.mid_at nan old off (x - off) ∙
      ap (λ x. get_or old x nan) e₁
    where
      e₁ : off + (x - off) ≡ x
      e₁ = omega (arith, offset_suc S J)

  first_cell : (p c : ℕ) → c < width S J → c ≤ p → p < height S J → get_or (part.back nan old off own) (at S J p c) nan ≡ lower_value starts rows vals (row S J p) (first S J + c)
  first_cell p c wc cp pm =
      ap (λ o. get_or (part.back nan old off own) (o + (trapezoid (height S J) c + (p - c))) nan) (sym e) ∙
      part.back_at nan old off inside own (trapezoid (height S J) c + (p - c)) ∙
      f.cells p c wc cp pm

  pub assembled : Assembled S (lower_value starts rows vals) J old new
  assembled =
      record {
        size = g.size ∙ long;
        cells = λ p c wc cp pm.
            g.cells (lower_value starts rows vals) p c wc cp pm ∙
            ap (λ x. earlier S (lower_value starts rows vals) (part.back nan old off own) (row S J p) (first S J + c) x J) (first_cell p c wc cp pm) ∙
            earlier_agree S S J (alike_self S J) (lower_value starts rows vals) (lower_value starts rows vals) (part.back nan old off own) old
            (λ K j l lo hi m. stretch_same S (part.back nan old off own) old K (offset S J) long (omega (arith, long, inside)) (offset_mono S J (suc K) l) low)
            (row S J p) (first S J + c) (lower_value starts rows vals (row S J p) (first S J + c)) (omega arith) (omega (arith, b.rise J h)) J (omega arith);
        before = λ x l. g.before x l ∙ low x l;
        after = λ x l. g.after x l ∙ high x l;
      }
