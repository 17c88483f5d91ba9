-- The step's end: what the dense factor of the assembled stretch is by the rules. Assumes nothing.
use mathlib.Core.Path.{◌≡◌, sym, ap, ap₂, ◌∙◌}
use mathlib.Core.Bool.{true, cond}
use mathlib.Core.List.{List, ◌++◌}
use Prim.Native.Nat.{ℕ, suc, ◌+◌, ◌-◌, ◌≤◌, ◌<◌}
use native.Mathlib.Omega.{arith}
use lib.ListN.{length, get_or, take, drop, replicate, length-drop, length-replicate, get_or-replicate, take-append-drop}
use lib.Seq.{ext_get_or, get_or-take, get_or-drop, length-take-le, take-add}
use lib.Dec.{ltb}
use lib.Ieee.{Float, nan, binary64, sub, div}
use Rattle.laws.proofs.Entry.{place_lt, get_d_place, has_of_place, dot_same, singly_same, Col}
use Rattle.laws.proofs.Stretches.{offset_suc}
use Rattle.laws.proofs.Inplace.{spot_lt}
use Rattle.std.specs.Prelude.{Ok, Err}
use Rattle.assembly.specs.declared.Supernode.{Supernode}
use Rattle.areas.specs.Touch.{Touched}
use Rattle.panel.specs.View.{cell}
use Rattle.panels.specs.Dense.{inner, Dense}
use Rattle.assembly.specs.Ready.{Rows}
use Rattle.step.specs.Answer.{answer_of, leaves, Stepped}
use Rattle.assembly.specs.Assembled.{Assembled}
use Rattle.areas.proofs.Part as part
use Rattle.assembly.proofs.Gather as gather
use Rattle.laws.proofs.Single as rule
use Rattle.statement.specs.Root.{root}
use Rattle.statement.specs.Shape.{Shape, first, width, height, rows_of, trapezoid, size, offset, stretch, put, zeros}
use Rattle.statement.specs.Lists.{has, place}
use Rattle.statement.specs.Input.{+0}
use Rattle.laws.specs.Lower.{lower_value}
use Rattle.statement.specs.Rules.{made, broke, dot, singly, look, earlier, within, entry, panel, passes, step}

-- values that differ from v in J's stretch alone
pub put_ext : (S : Shape) (v v' s : List Float) (J : ℕ) → length v' ≡ length v → offset S (suc J) ≤ length v → ((x : ℕ) → x < offset S J → get_or v' x nan ≡ get_or v x nan) → ((x : ℕ) → offset S (suc J) ≤ x → get_or v' x nan ≡ get_or v x nan) → stretch S v' J ≡ s → v' ≡ put S v J s
unfolding put stretch
put_ext S v v' s J e room low high mid =
    sym (take-append-drop (offset S (suc J)) v') ∙
    ap₂ (λ (x y : List Float). x ++ y) (ap (λ k. take k v') (offset_suc S J) ∙ take-add (offset S J) (size S J) v' ∙ ap₂ (λ (x y : List Float). x ++ y) front mid) back
  where
    front : take (offset S J) v' ≡ take (offset S J) v
    front =
        ext_get_or nan (take (offset S J) v') (take (offset S J) v) (len v' (omega arith) ∙ sym (len v room))
        (λ i q. let l : i < offset S J = omega (arith, len v' (omega arith)) in get_or-take (offset S J) v' i nan l ∙ low i l ∙ sym (get_or-take (offset S J) v i nan l))
      where
        len : (v : List Float) → offset S (suc J) ≤ length v → length (take (offset S J) v) ≡ offset S J
        len v h = length-take-le (offset S J) v (omega (arith, offset_suc S J))

    back : drop (offset S (suc J)) v' ≡ drop (offset S (suc J)) v
    back =
        ext_get_or nan (drop (offset S (suc J)) v') (drop (offset S (suc J)) v) (length-drop (offset S (suc J)) v' ∙ ap (λ k. k - offset S (suc J)) e ∙ sym (length-drop (offset S (suc J)) v))
        (λ i q. get_or-drop (offset S (suc J)) v' i nan ∙ high (offset S (suc J) + i) (omega arith) ∙ sym (get_or-drop (offset S (suc J)) v i nan))

-- J's stretch cleared
cleared : (S : Shape) (v v2 own : List Float) (J off n : ℕ) → off ≡ offset S J → offset S (suc J) ≤ length v → length v2 ≡ length v → ((x : ℕ) → x < offset S J → get_or v2 x nan ≡ get_or v x nan) → ((x : ℕ) → offset S (suc J) ≤ x → get_or v2 x nan ≡ get_or v x nan) →
    n ≡ trapezoid (height S J) (width S J) → Touched nan (part.mid nan v2 off) own n (λ i. i) (λ i. +0) → part.back nan v2 off own ≡ put S v J (zeros S J)
unfolding stretch zeros size
cleared S v v2 own J off n e room long low high en t =
    put_ext S v (part.back nan v2 off own) (zeros S J) J (part.back_length nan v2 off inside own t.size ∙ long) room
    (λ x l. part.back_below nan v2 off inside own x (omega arith) ∙ low x l)
    (λ x l.
    ap (λ x. get_or (part.back nan v2 off own) x nan) (sym (e₁ x l)) ∙
    part.back_at nan v2 off inside own (x - off) ∙
    t.outside (x - off) (λ i q d. omega (arith, offset_suc S J)) ∙
    part.mid_at nan v2 off (x - off) ∙
    ap (λ x. get_or v2 x nan) (e₁ x l) ∙
    high x l)
    (ap (λ o. take (size S J) (drop o (part.back nan v2 off own))) (sym e) ∙ ap (take (size S J)) (part.back_drop nan v2 off inside own) ∙ nought)
  where
    inside : off ≤ length v2
    inside = omega (arith, offset_suc S J)

    e₁ : (x : ℕ) → offset S (suc J) ≤ x → off + (x - off) ≡ x
    e₁ x l = omega (arith, offset_suc S J)

    len : length (take (size S J) own) ≡ size S J
    len = length-take-le (size S J) own (omega (arith, t.size, part.mid_length nan v2 off, offset_suc S J))

    nought : take (size S J) own ≡ replicate (size S J) +0
    nought =
        ext_get_or nan (take (size S J) own) (replicate (size S J) +0) (len ∙ sym (length-replicate (size S J) +0))
        (λ i q. let l : i < size S J = omega (arith, len) in get_or-take (size S J) own i nan l ∙ t.inside i (omega arith) ∙ sym (get_or-replicate (size S J) i +0 nan l))

pub dense_as : (starts rows : List ℕ) (l : List Float) (k k' : Supernode) (old new : List Float) (r : ℕ) → k ≡ k' →
    Dense k.height k.width (λ c. lower_value starts rows l (k.first + c) (k.first + c)) old new r → Dense k'.height k'.width (λ c. lower_value starts rows l (k'.first + c) (k'.first + c)) old new r
dense_as starts rows l k k' old new r e d = rw (← e) d

module _ (S : Shape) {N : ℕ} (b : Rows S N) (J : ℕ) (h : J < N) (A : ℕ → ℕ → Float) (v0 v1 own : List Float) (off : ℕ) (e : off ≡ offset S J) (room : offset S (suc J) ≤ length v0)
    (g : Assembled S A J v0 v1) (r : ℕ) (d : Dense (height S J) (width S J) (λ c. A (first S J + c) (first S J + c)) (part.mid nan v1 off) own r) where
  abbrev m : ℕ
  m = height S J

  abbrev old : List Float
  old = part.mid nan v1 off

  abbrev s : List Float
  s = take (size S J) own

  inside : off ≤ length v1
  inside = omega (arith, offset_suc S J, g.size)

  sized : length (take (size S J) own) ≡ size S J
  sized = length-take-le (size S J) own (omega (arith, d.size, part.mid_length nan v1 off, offset_suc S J, g.size))

  starts : (c : ℕ) → c < width S J → place (first S J + c) (rows_of S J) ≡ c
  starts c l = gather.own_place S b J c h l

  own_has : (c : ℕ) → c < width S J → has (first S J + c) (rows_of S J) ≡ true
  own_has c l = has_of_place (first S J + c) (rows_of S J) (omega (arith, starts c l, b.tall J h))

  look_is : (i k : ℕ) → has i (rows_of S J) ≡ true → k < width S J → look S J (take (size S J) own) i k ≡ cell m own (place i (rows_of S J)) k
  unfolding look size
  look_is i k x l = get_or-take (trapezoid m (width S J)) own (trapezoid m k + (place i (rows_of S J) - k)) nan (spot_lt m (place i (rows_of S J)) k (width S J) (place_lt i (rows_of S J) x) (omega (arith, b.tall J h)) l)

  x-is : (i c : ℕ) → has i (rows_of S J) ≡ true → c < width S J → c ≤ place i (rows_of S J) → earlier S A v0 i (first S J + c) (A i (first S J + c)) J ≡ cell m old (place i (rows_of S J)) c
  x-is i c x l k =
      sym (
      part.mid_at nan v1 off (trapezoid m c + (place i (rows_of S J) - c)) ∙
      ap (λ o. get_or v1 (o + (trapezoid m c + (place i (rows_of S J) - c))) nan) e ∙
      g.cells (place i (rows_of S J)) c l k (place_lt i (rows_of S J) x) ∙
      ap (λ i. earlier S A v0 i (first S J + c) (A i (first S J + c)) J) (get_d_place i (rows_of S J) 0 x)
      )

  entry_is : (i c : ℕ) → has i (rows_of S J) ≡ true → c < width S J → c ≤ place i (rows_of S J) → entry S A v0 (take (size S J) own) J i c ≡ inner m own (place i (rows_of S J)) c (cell m old (place i (rows_of S J)) c)
  unfolding entry within inner
  entry_is i c x l k =
      let j = first S J + c in
      let f = look S J (take (size S J) own) i in
      let q = look S J (take (size S J) own) j in
      let f' = cell m own (place i (rows_of S J)) in
      let q' = cell m own c in
      ap (λ y. singly (cond (ltb c 64) y (sub binary64 y (dot f q (panel c)))) f q (panel c) (c - panel c)) (x-is i c x l k) ∙
      ap (λ z. singly (cond (ltb c 64) (cell m old (place i (rows_of S J)) c) (sub binary64 (cell m old (place i (rows_of S J)) c) z)) f q (panel c) (c - panel c)) (dot_same f q f' q' (panel c) (λ k p. same k (omega arith))) ∙
      singly_same _ f q f' q' (panel c) (c - panel c) (λ k p. same k (omega arith))
    where
      same : (k : ℕ) → k < c → (look S J (take (size S J) own) i k ≡ cell m own (place i (rows_of S J)) k) × (look S J (take (size S J) own) (first S J + c) k ≡ cell m own c k)
      same k p = (look_is i k x (omega arith), look_is (first S J + c) k (own_has c l) (omega arith) ∙ ap (λ p. cell m own p k) (starts c l))

  pivot_is : (c : ℕ) → c < width S J → entry S A v0 (take (size S J) own) J (first S J + c) c ≡ inner m own c c (cell m old c c)
  pivot_is c l = entry_is (first S J + c) c (own_has c l) l (omega (arith, starts c l)) ∙ ap (λ p. inner m own p c (cell m old p c)) (starts c l)

  ruled : (c : ℕ) → c < r → Col S A v0 J (b.tall J h) starts (take (size S J) own) c
  ruled c l =
      record {
        good = ap (passes (A (first S J + c) (first S J + c))) (pivot_is c wc) ∙ (d.cols c l).good;
        diag = look_is (first S J + c) c (own_has c wc) wc ∙ ap (λ p. cell m own p c) (starts c wc) ∙ (d.cols c l).diag ∙ ap root (sym (pivot_is c wc));
        below = λ i x k.
            look_is i c x wc ∙
            (d.cols c l).below (place i (rows_of S J)) k (place_lt i (rows_of S J) x) ∙
            ap₂ (div binary64) (sym (entry_is i c x wc (omega arith))) (ap root (sym (pivot_is c wc)));
      }
    where
      wc : c < width S J
      wc = omega (arith, d.upto)

  module _ (v2 : List Float) (e₂ : v2 ≡ part.back nan v1 off own) where
    long : length (part.back nan v1 off own) ≡ length v0
    long = part.back_length nan v1 off inside own d.size ∙ g.size

    low : (x : ℕ) → x < offset S J → get_or (part.back nan v1 off own) x nan ≡ get_or v0 x nan
    low x l = part.back_below nan v1 off inside own x (omega arith) ∙ g.before x l

    high : (x : ℕ) → offset S (suc J) ≤ x → get_or (part.back nan v1 off own) x nan ≡ get_or v0 x nan
    unfolding size
    high x l =
        ap (λ x. get_or (part.back nan v1 off own) x nan) (sym e₁) ∙
        part.back_at nan v1 off inside own (x - off) ∙
        d.outside (x - off) (omega (arith, offset_suc S J)) ∙
        part.mid_at nan v1 off (x - off) ∙
        ap (λ x. get_or v1 x nan) e₁ ∙
        g.after x l
      where
        e₁ : off + (x - off) ≡ x
        e₁ = omega (arith, offset_suc S J)

    stretch_is : stretch S (part.back nan v1 off own) J ≡ take (size S J) own
    unfolding stretch
    stretch_is = ap (λ o. take (size S J) (drop o (part.back nan v1 off own))) (sym e) ∙ ap (take (size S J)) (part.back_drop nan v1 off inside own)

    put_is : v2 ≡ put S v0 J (take (size S J) own)
    put_is = e₂ ∙ put_ext S v0 (part.back nan v1 off own) (take (size S J) own) J long room low high stretch_is

    pub ended_made : width S J ≤ r → Stepped S A J v0 v2 (Ok tt)
    unfolding answer_of leaves
    ended_made l = record { answer = ap answer_of (sym made_is); values = put_is ∙ ap (leaves S v0 J) (sym made_is) }
      where
        made_is : step S A v0 J ≡ made (take (size S J) own)
        made_is =
            rule.step_made S A v0 J (b.tall J h) starts (λ p k. gather.at_place S b J p h k) (λ c k. b.own J c h k) (take (size S J) own) sized r d.upto ruled (omega (arith, d.upto))

    pub ended_broke : (own' : List Float) (n : ℕ) (x : ℕ) → r < width S J → n ≡ trapezoid (height S J) (width S J) → x ≡ first S J + r →
        Touched nan (part.mid nan v2 off) own' n (λ i. i) (λ i. +0) → Stepped S A J v0 (part.back nan v2 off own') (Err (record { 0 = x }))
    unfolding answer_of leaves
    ended_broke own' n x l en ex t = record { answer = ap (λ c. Err (record { 0 = c })) ex ∙ ap answer_of (sym broke_is); values = zeros_is ∙ ap (leaves S v0 J) (sym broke_is) }
      where
        broke_is : step S A v0 J ≡ broke (record { 0 = first S J + r })
        broke_is =
            rule.step_broke S A v0 J (b.tall J h) starts (λ p k. gather.at_place S b J p h k) (λ c k. b.own J c h k) (take (size S J) own) sized r d.upto ruled l
            (ap (passes (A (first S J + r) (first S J + r))) (pivot_is r l) ∙ d.stop l)

        v2_long : length v2 ≡ length v0
        v2_long = ap length e₂ ∙ long

        in2 : off ≤ length v2
        in2 = omega (arith, offset_suc S J, v2_long)

        zeros_is : part.back nan v2 off own' ≡ put S v0 J (zeros S J)
        zeros_is = cleared S v0 v2 own' J off n e room v2_long (λ x l. ap (λ v. get_or v x nan) e₂ ∙ low x l) (λ x l. ap (λ v. get_or v x nan) e₂ ∙ high x l) en t
