-- The climb from a supernode. Assumes nothing.
use mathlib.Core.Path.{◌≡◌, refl, sym, ap₂, ◌∙◌}
use mathlib.Core.Logic.{⊎_elim, ◌≢◌}
use mathlib.Core.Bool.{Bool, true, false, ◌&&◌}
use mathlib.Core.List.{List}
use Prim.Native.Nat.{ℕ, zero, suc, ◌+◌, ◌≤◌, ◌<◌}
use native.Mathlib.Omega.{arith}
use native.Mathlib.Nat.{le_refl}
use native.Mathlib.Numerals.{add-one}
use lib.Dec.{T, ltb, eqb, leb, ltb→lt}
use lib.ListN.{get_or}
use Rattle.statement.specs.Shape.{Shape, parent_of}
use Rattle.statement.specs.Tasks.{fitting, climbed}
use Rattle.laws.proofs.Bools.{lt_or_le, and_both, ltb_yes, ltb_no, eqb_yes, eqb_no}
use Rattle.tasks.specs.Given.{Above, Tabled, fits_in}

-- ---- the test

module _ (ns : ℕ) (begins loads : List ℕ) (most s r : ℕ) where
  pub fits_out : ns ≤ r → false ≡ fits_in ns begins loads most s r
  fits_out h = rw (ltb_no h)

  pub fits_not : r < ns → get_or begins r 0 ≢ s → false ≡ fits_in ns begins loads most s r
  fits_not h ne = rw (ltb_yes h, eqb_no ne)

  pub fits_is : r < ns → get_or begins r 0 ≡ s → leb (get_or loads r 0) most ≡ fits_in ns begins loads most s r
  fits_is h q = rw (ltb_yes h, eqb_yes q)

  pub fits_in_lem : {b : Bool} → b ≡ true → b ≡ fits_in ns begins loads most s r → r < ns
  fits_in_lem y e = ltb→lt r ns (and_both (ltb r ns) _ (let t : T (fits_in ns begins loads most s r) = rw (← e, y) tt in t)).0

  fits_same : (S : Shape) (parents : List ℕ) → Tabled S ns parents begins loads → fits_in ns begins loads most s r ≡ fitting S most s r
  unfolding fitting
  fits_same S parents g = rw g.tree.number (⊎_elim
      (λ (h : r < ns). ap₂ (λ x y. ltb r ns && (eqb x s && leb y most)) (g.starting.at r h) (g.loaded.at r h))
      (λ (h : ns ≤ r). rw (ltb_no h)) (lt_or_le r ns))

-- ---- the climb

module _ (S : Shape) (h s : ℕ) where
  climbed_yes : (d r e : ℕ) → fitting S h s r ≡ true → climbed S h s (suc d) r e ≡ climbed S h s d (parent_of S r) (suc r)
  unfolding climbed
  climbed_yes d r e q = rw (q, climbed)

  climbed_no : (d r e : ℕ) → fitting S h s r ≡ false → climbed S h s d r e ≡ e
  unfolding climbed
  climbed_no zero r e q = refl
  climbed_no (suc d) r e q = rw (q, climbed)

-- what is left of the climb
pub record Left (S : Shape) (ns h s e r : ℕ) : Type 0 where
  pub d : ℕ
  pub enough : ns ≤ r + d
  pub same_end : climbed S h s ns s s ≡ climbed S h s d r e

pub record Climbing (ns : ℕ) (parents begins loads : List ℕ) (h s e r : ℕ) : Type 0 where
  pub from : s ≤ r
  pub low : s ≤ e
  pub to : e ≤ ns
  pub is : (S : Shape) → Tabled S ns parents begins loads → Left S ns h s e r

pub climbing_begin : (ns : ℕ) (parents begins loads : List ℕ) (h s : ℕ) → s < ns → Climbing ns parents begins loads h s s s
climbing_begin ns parents begins loads h s l = record { from = le_refl s; low = le_refl s; to = omega arith; is = λ S g. record { d = ns; enough = omega arith; same_end = refl } }

module _ {ns : ℕ} {parents begins loads : List ℕ} {h s e r : ℕ} (w : Climbing ns parents begins loads h s e r) where
  pub climbing_more : Above ns parents → {b : Bool} → b ≡ true → b ≡ fits_in ns begins loads h s r → Climbing ns parents begins loads h s (r + 1) (get_or parents r 0)
  climbing_more a y f = record {
    from = omega (arith, w.from, a.rise r rn);
    low = omega (arith, w.from);
    to = omega (arith, rn);
    is = λ S g. go S g (w.is S g).d (w.is S g).enough (w.is S g).same_end;
  }
    where
      rn : r < ns
      rn = fits_in_lem ns begins loads h s r y f

      go : (S : Shape) → Tabled S ns parents begins loads → (d : ℕ) → ns ≤ r + d → climbed S h s ns s s ≡ climbed S h s d r e → Left S ns h s (r + 1) (get_or parents r 0)
      go S g zero l q = absurd (omega (arith, rn))
      go S g (suc d) l q = record {
        d = d;
        enough = omega (arith, a.rise r rn);
        same_end = q ∙ climbed_yes S h s d r e (sym (f ∙ fits_same ns begins loads h s r S parents g) ∙ y) ∙ ap₂ (λ x y. climbed S h s d x y) (sym (g.tree.are.at r rn)) (sym (add-one r));
      }

  pub climbing_over : {b : Bool} → b ≡ false → b ≡ fits_in ns begins loads h s r → (S : Shape) → Tabled S ns parents begins loads → e ≡ climbed S h s ns s s
  climbing_over y f S g = sym ((w.is S g).same_end ∙ climbed_no S h s (w.is S g).d r e (sym (f ∙ fits_same ns begins loads h s r S parents g) ∙ y))
