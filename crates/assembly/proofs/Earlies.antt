-- All updates of a supernode, one after the other. Assumes nothing.
use mathlib.Core.Path.{◌≡◌, refl, sym, ap, ap₂, ◌∙◌, subst}
use mathlib.Core.Bool.{Bool, true, false, cond, ◌&&◌}
use mathlib.Core.List.{List}
use Prim.Native.Nat.{ℕ, suc, ◌+◌, ◌-◌, ◌≤◌, ◌<◌}
use native.Mathlib.Omega.{arith}
use native.Mathlib.Nat.{add-sub_of_le}
use native.Mathlib.Decide.{ℕ_discrete, dec_lt}
use lib.ListN.{length, get_or, drop}
use lib.Seq.{get_or-take, get_or-drop}
use lib.Ieee.{Float, nan, binary64, sub}
use Rattle.laws.proofs.Entry.{place_lt, get_d_place, has_of_place, dot_same}
use Rattle.laws.proofs.Stretches.{offset_suc, offset_mono}
use Rattle.laws.proofs.Loops.{earlier_gap}
use Rattle.laws.proofs.Order.{never}
use Rattle.laws.proofs.Inplace.{spot_apart, spot_lt}
use Rattle.panel.specs.View.{cell}
use Rattle.spread.specs.Spread.{pos_of}
use Rattle.assembly.specs.Update.{spot_of, Source}
use Rattle.assembly.specs.Ready.{row, Rows, source, low, high, Listed, Placed}
use Rattle.assembly.specs.Assembled.{Took, Gathered, at}
use Rattle.assembly.proofs.Takes as takes
use Rattle.assembly.proofs.Gather.{at_place, at_has, own_place, pos, sourced}
use Rattle.statement.specs.Shape.{Shape, first, width, height, rows_of, trapezoid, size, offset, stretch}
use Rattle.statement.specs.declared.Update.{Update}
use Rattle.statement.specs.Lists.{has, place}
use Rattle.statement.specs.Rules.{dot, look, earlier}

module _ (S : Shape) (J : ℕ) (upd : ℕ → Update) (count : ℕ) (old : List Float) where
  -- N lies between the updates before u and those from u on
  pub record Between (u N : ℕ) : Type 0 where
    pub most : N ≤ J
    pub less : (v : ℕ) → v < u → source upd v < N
    pub more : (v : ℕ) → u ≤ v → v < count → N ≤ source upd v

  pub record Sofar (new : List Float) (u : ℕ) : Type 0 where
    pub size : length new ≡ length old
    pub cells : (A : ℕ → ℕ → Float) (p c N : ℕ) → Between u N → c < width S J → c ≤ p → p < height S J → get_or new (at S J p c) nan ≡ earlier S A old (row S J p) (first S J + c) (get_or old (at S J p c) nan) N
    pub before : (x : ℕ) → x < offset S J → get_or new x nan ≡ get_or old x nan
    pub after : (x : ℕ) → offset S (suc J) ≤ x → get_or new x nan ≡ get_or old x nan

module _ (S : Shape) {N : ℕ} (b : Rows S N) (J : ℕ) (h : J < N) (pl : List ℕ) (placed : Placed S J pl) (wide : S.n ≤ length pl) (upd : ℕ → Update) (count : ℕ) (t : Listed S J upd count) (old : List Float) where
  col_in : (c : ℕ) → c < width S J → first S J + c < first S (suc J)
  col_in c l = omega (arith, b.rise J h)

  -- no supernode that no update names has a row among J's columns
  none : (K c : ℕ) → K < J → c < width S J → ((u : ℕ) → u < count → source upd u ≡ K → ⊥) → has (first S J + c) (rows_of S K) ≡ false
  none K c l k n = go (has (first S J + c) (rows_of S K)) refl
    where
      go : (x : Bool) → has (first S J + c) (rows_of S K) ≡ x → x ≡ false
      go true e = let z = t.all K (first S J + c) l (omega arith) (col_in c k) e in absurd (n z.0 z.1 z.2)
      go false e = refl

  gap : (A : ℕ → ℕ → Float) (i c : ℕ) (x : Float) (N M : ℕ) → N ≤ M → M ≤ J → c < width S J → ((K : ℕ) → N ≤ K → K < M → (u : ℕ) → u < count → source upd u ≡ K → ⊥) →
      earlier S A old i (first S J + c) x M ≡ earlier S A old i (first S J + c) x N
  gap A i c x N M l k w n =
      ap (earlier S A old i (first S J + c) x) (sym (add-sub_of_le l)) ∙
      earlier_gap S A old i (first S J + c) x N (M - N) (λ K p q. none K c (omega arith) w (n K p (omega arith)))

  first_one : (A : ℕ → ℕ → Float) (i j : ℕ) (x : Float) → earlier S A old i j x 0 ≡ x
  unfolding earlier
  first_one A i j x = refl

  pub start : Sofar S J upd count old old 0
  start =
      record {
        size = refl;
        cells = λ A p c N z w l k.
            sym (gap A (row S J p) c (get_or old (at S J p c) nan) 0 N (omega arith) z.most w (λ K x y u f g. omega (arith, z.more u (omega arith) f)) ∙ first_one A (row S J p) (first S J + c) (get_or old (at S J p c) nan));
        before = λ x l. refl;
        after = λ x l. refl;
      }

  module _ (v v' : List Float) (u : ℕ) (z : u < count) (s : Sofar S J upd count old v u) (k : Took S J upd u pl v v') where
    abbrev K : ℕ
    K = source upd u

    kin : K < N
    kin = omega (arith, t.before u z)

    KJ : K < J
    KJ = t.before u z

    offs : offset S K + size S K ≤ offset S J
    offs = omega (arith, offset_suc S K, offset_mono S J (suc K) KJ)

    src : Source pl S.rows (offset S (suc J)) S.n (offset S J) (height S J) (width S J) (get_or S.starts K 0) (height S K) (width S K) (offset S K) (low upd u) (high upd u)
    src = sourced S b J h pl placed upd count t u z (offset S (suc J)) S.n wide (omega arith) (omega arith)

    spots_in : (q r : ℕ) → low upd u ≤ q → q < high upd u → q ≤ r → r < height S K → offset S J + spot_of pl S.rows (height S J) (get_or S.starts K 0) q r < offset S (suc J)
    unfolding size
    spots_in q r l₁ l₂ l₃ l₄ =
        omega (arith, offset_suc S J, spot_lt (height S J) (pos_of pl S.rows (get_or S.starts K 0) r) (pos_of pl S.rows (get_or S.starts K 0) q) (width S J) (src.inside r (omega arith) l₄) (src.inside q l₁ (omega arith)) (src.columns q l₁ l₂))

    -- K's entries as the rules read them
    look_is : (i x : ℕ) → has i (rows_of S K) ≡ true → x < width S K → cell (height S K) (drop (offset S K) v) (place i (rows_of S K)) x ≡ look S K (stretch S old K) i x
    unfolding look stretch size
    look_is i x m l =
        get_or-drop (offset S K) v (trapezoid (height S K) x + (place i (rows_of S K) - x)) nan ∙
        s.before (offset S K + (trapezoid (height S K) x + (place i (rows_of S K) - x))) (omega (arith, offs, inside)) ∙
        sym (get_or-take (trapezoid (height S K) (width S K)) (drop (offset S K) old) (trapezoid (height S K) x + (place i (rows_of S K) - x)) nan inside ∙ get_or-drop (offset S K) old (trapezoid (height S K) x + (place i (rows_of S K) - x)) nan)
      where
        inside : trapezoid (height S K) x + (place i (rows_of S K) - x) < trapezoid (height S K) (width S K)
        inside = spot_lt (height S K) (place i (rows_of S K)) x (width S K) (place_lt i (rows_of S K) m) (omega (arith, b.tall K kin)) l

    between : Between S J upd count old u K
    between =
        record {
          most = omega (arith, KJ);
          less = λ w y. t.rising w u y z;
          more = λ w x y. from w x y (ℕ_discrete u w);
        }
      where
        from : (w : ℕ) → u ≤ w → w < count → Dec (u ≡ w) → K ≤ source upd w
        from w x y (yes e) = omega (arith, ap (source upd) e)
        from w x y (no e) = omega (arith, t.rising u w (omega arith) y)

    module _ (A : ℕ → ℕ → Float) (p c : ℕ) (wc : c < width S J) (cp : c ≤ p) (pm : p < height S J) where
      abbrev i : ℕ
      i = row S J p

      abbrev j : ℕ
      j = first S J + c

      abbrev y : ℕ → Float
      y = earlier S A old i j (get_or old (at S J p c) nan)

      was : get_or v (at S J p c) nan ≡ y K
      was = s.cells A p c K between wc cp pm

      j_in : has j (rows_of S J) ≡ true
      j_in = has_of_place j (rows_of S J) (omega (arith, own_place S b J c h wc, b.tall J h))

      ji : j ≤ i
      ji = go (ℕ_discrete c p)
        where
          go : Dec (c ≡ p) → j ≤ i
          go (yes e) = omega (arith, b.own J c h wc, ap (row S J) e)
          go (no e) = omega (arith, b.own J c h wc, b.sorted J c p h (omega arith) pm)

      both : has i (rows_of S K) ≡ true → has j (rows_of S K) ≡ true → get_or v' (at S J p c) nan ≡ sub binary64 (y K) (dot (look S K (stretch S old K) i) (look S K (stretch S old K) j) (width S K))
      both mi mj =
          ap (λ x. get_or v' x nan) (sym there) ∙
          k.hit q r run.0 run.1 qr rm ∙
          ap₂ (sub binary64) (ap (λ x. get_or v x nan) there ∙ was) (dot_same _ _ _ _ (width S K) (λ x l. (look_is i x mi l, look_is j x mj l)))
        where
          q : ℕ
          q = place j (rows_of S K)

          r : ℕ
          r = place i (rows_of S K)

          qm : q < height S K
          qm = place_lt j (rows_of S K) mj

          rm : r < height S K
          rm = place_lt i (rows_of S K) mi

          q_is : row S K q ≡ j
          q_is = get_d_place j (rows_of S K) 0 mj

          r_is : row S K r ≡ i
          r_is = get_d_place i (rows_of S K) 0 mi

          qr : q ≤ r
          qr = go (dec_lt r q)
            where
              go : Dec (r < q) → q ≤ r
              go (yes l) = absurd (omega (arith, ji, q_is, r_is, b.sorted K r q kin l qm))
              go (no l) = omega arith

          run : (low upd u ≤ q) × (q < high upd u)
          run = t.only u q z qm (omega (arith, q_is)) (omega (arith, q_is, col_in c wc))

          pos_q : pos_of pl S.rows (get_or S.starts K 0) q ≡ c
          pos_q = pos S b J h pl placed upd count t u z q run.0 qm ∙ ap (λ x. place x (rows_of S J)) q_is ∙ own_place S b J c h wc

          pos_r : pos_of pl S.rows (get_or S.starts K 0) r ≡ p
          pos_r = pos S b J h pl placed upd count t u z r (omega (arith, run.0, qr)) rm ∙ ap (λ x. place x (rows_of S J)) r_is ∙ at_place S b J p h pm

          there : offset S J + spot_of pl S.rows (height S J) (get_or S.starts K 0) q r ≡ at S J p c
          there = ap₂ (λ x y. offset S J + (trapezoid (height S J) x + (y - x))) pos_q pos_r

      -- an entry that the update meets has both rows in K
      met : (q r : ℕ) → low upd u ≤ q → q < high upd u → q ≤ r → r < height S K → offset S J + spot_of pl S.rows (height S J) (get_or S.starts K 0) q r ≡ at S J p c → (has i (rows_of S K) ≡ true) × (has j (rows_of S K) ≡ true)
      met q r l₁ l₂ l₃ l₄ e =
          (subst (λ x. has x (rows_of S K) ≡ true) r_is (at_has S b K r kin l₄), subst (λ x. has x (rows_of S K) ≡ true) q_is (at_has S b K q kin (omega arith)))
        where
          same : (pos_of pl S.rows (get_or S.starts K 0) q ≡ c) × (pos_of pl S.rows (get_or S.starts K 0) r ≡ p)
          same =
              spot_apart (height S J) (pos_of pl S.rows (get_or S.starts K 0) r) (pos_of pl S.rows (get_or S.starts K 0) q) p c
              (takes.in_order _ _ _ _ _ _ _ _ _ _ _ _ _ src q r l₁ l₃ l₄) (src.inside r (omega arith) l₄) cp pm (omega arith)

          r_is : row S K r ≡ i
          r_is =
              sym (get_d_place (row S K r) (rows_of S J) 0 (t.nested u r z (omega arith) l₄)) ∙
              ap (row S J) (sym (pos S b J h pl placed upd count t u z r (omega arith) l₄) ∙ same.1)

          q_is : row S K q ≡ j
          q_is =
              sym (get_d_place (row S K q) (rows_of S J) 0 (t.nested u q z l₁ (omega arith))) ∙
              ap (row S J) (sym (pos S b J h pl placed upd count t u z q l₁ (omega arith)) ∙ same.0) ∙
              b.own J c h wc

      now_is : get_or v' (at S J p c) nan ≡ y (suc K)
      unfolding earlier
      now_is = go (has i (rows_of S K)) refl (has j (rows_of S K)) refl
        where
          missed : (has i (rows_of S K) ≡ true → has j (rows_of S K) ≡ true → ⊥) → get_or v' (at S J p c) nan ≡ y K
          missed n = k.miss (at S J p c) (λ q r l₁ l₂ l₃ l₄ e. let m = met q r l₁ l₂ l₃ l₄ e in n m.0 m.1) ∙ was

          go : (f : Bool) → has i (rows_of S K) ≡ f → (g : Bool) → has j (rows_of S K) ≡ g →
              get_or v' (at S J p c) nan ≡ cond (f && g) (sub binary64 (y K) (dot (look S K (stretch S old K) i) (look S K (stretch S old K) j) (width S K))) (y K)
          go true e true d = both e d
          go true e false d = missed (λ m n. never n d)
          go false e g d = missed (λ m n. never m e)

    pub further : Sofar S J upd count old v' (u + 1)
    further =
        record {
          size = k.size ∙ s.size;
          cells = λ A p c N g wc cp pm.
              now_is A p c wc cp pm ∙
              sym (gap A (row S J p) c (get_or old (at S J p c) nan) (suc K) N (g.less u (omega arith)) g.most wc (λ M x y w f d. between_none N g M x y w f d (dec_lt u w)));
          before = λ x l. k.miss x (λ q r l₁ l₂ l₃ l₄ e. omega arith) ∙ s.before x l;
          after = λ x l. k.miss x (λ q r l₁ l₂ l₃ l₄ e. omega (arith, spots_in q r l₁ l₂ l₃ l₄)) ∙ s.after x l;
        }
      where
        between_none : (N : ℕ) → Between S J upd count old (u + 1) N → (M : ℕ) → suc K ≤ M → M < N → (w : ℕ) → w < count → source upd w ≡ M → Dec (u < w) → ⊥
        between_none N g M x y w f d (yes l) = omega (arith, g.more w (omega arith) f)
        between_none N g M x y w f d (no l) = at_most (ℕ_discrete w u)
          where
            at_most : Dec (w ≡ u) → ⊥
            at_most (yes q) = omega (arith, ap (source upd) q)
            at_most (no q) = omega (arith, t.rising w u (omega arith) z)

  pub all : (new : List Float) (u : ℕ) → u ≤ count → count ≤ u → Sofar S J upd count old new u → Gathered S J old new
  all new u l k s =
      record {
        size = s.size;
        cells = λ A p c wc cp pm. s.cells A p c J (record { most = omega arith; less = λ v y. t.before v (omega arith); more = λ v x y. absurd (omega arith) }) wc cp pm;
        before = s.before;
        after = s.after;
      }
