-- One column's work in place: single products, the sum before the panel, the two together, and the whole column. Assumes nothing.
use mathlib.Core.Path.{◌≡◌, refl, sym, ap, ap₂, ◌∙◌, subst}
use mathlib.Core.Bool.{Bool, true, false, cond}
use mathlib.Core.List.{List}
use Prim.Native.Nat.{ℕ, zero, suc, ◌+◌, ◌-◌, ◌≤◌, ◌<◌}
use native.Mathlib.Omega.{arith}
use native.Mathlib.Nat.{add-sub_of_le}
use lib.ListN.{length, get_or, set, length-set}
use lib.Seq.{get_or-set_same, get_or-set_other}
use Rattle.laws.proofs.Order.{never}
use lib.Dec.{ltb}
use borrow.Author.Tests.{lt-ltb, le-ltb}
use lib.Ieee.{Float, nan, binary64, sub, mul, div}
use Rattle.laws.proofs.Entry.{trap_suc, trap_mono, singly_same}
use Rattle.areas.specs.Touch.{Touched}
use Rattle.panel.specs.View.{cell}
use Rattle.panels.specs.Dense.{inner, pivot, Column}
use Rattle.products.specs.Products.{less, lesses}
use Rattle.areas.proofs.Touch as touch
use Rattle.products.proofs.Floats.{singly_start, singly_step}
use Rattle.products.proofs.Rising.{Stands}
use Rattle.statement.specs.Shape.{trapezoid}
use Rattle.statement.specs.Root.{root}
use Rattle.statement.specs.Rules.{dot, singly, panel, passes}

-- single products
module _ (old : List Float) (m c c0 dst : ℕ) where
  abbrev pub Singled : List Float → ℕ → Type 0
  Singled w k =
      Touched nan old w (m - c) (λ i. dst + i) (λ i. singly (get_or old (dst + i) nan) (cell m old (c + i)) (cell m old c) c0 (k - c0))

  pub singled_none : Singled old c0
  singled_none =
      record {
        size = refl;
        inside = λ i h. singly_start (get_or old (dst + i) nan) (cell m old (c + i)) (cell m old c) c0 ∙ ap (singly (get_or old (dst + i) nan) (cell m old (c + i)) (cell m old c) c0) (none c0);
        outside = λ p h. refl;
      }
    where
      none : (k : ℕ) → 0 ≡ k - k
      none k = omega arith

  -- one product more, of column j; what stands before dst is as it was
  module _ (w : List Float) (d : dst ≡ trapezoid m c) (h₂ : c < m)
      (kept : (p : ℕ) → ((i : ℕ) → i < m - c → dst + i ≡ p → ⊥) → get_or w p nan ≡ get_or old p nan) where
    one_less : (src i j j' : ℕ) (x : Float) → c0 ≤ j → j < c → i < m - c → src ≡ trapezoid m j + (c - j) → j' ≡ j + 1 →
        x ≡ singly (get_or old (dst + i) nan) (cell m old (c + i)) (cell m old c) c0 (j - c0) →
        less w src i x ≡ singly (get_or old (dst + i) nan) (cell m old (c + i)) (cell m old c) c0 (j' - c0)
    one_less src i j j' x h₀ h₁ p e n s =
        ap₂ (sub binary64) s (ap₂ (mul binary64) (row (src + i) i p there) (row src 0 (omega arith) here ∙ ap (λ p. cell m old p (c0 + (j - c0))) none)) ∙
        singly_step (get_or old (dst + i) nan) (cell m old (c + i)) (cell m old c) c0 (j - c0) ∙
        ap (singly (get_or old (dst + i) nan) (cell m old (c + i)) (cell m old c) c0) next
      where
        next : j - c0 + 1 ≡ j' - c0
        next = omega arith

        none : c + 0 ≡ c
        none = omega arith

        back : j ≡ c0 + (j - c0)
        back = omega arith

        here : src ≡ trapezoid m j + (c + 0 - j)
        here = omega arith

        there : src + i ≡ trapezoid m j + (c + i - j)
        there = omega arith

        row : (x i : ℕ) → i < m - c → x ≡ trapezoid m j + (c + i - j) → get_or w x nan ≡ cell m old (c + i) (c0 + (j - c0))
        row x i p f = kept x (λ k l g. omega (arith, trap_suc m j, trap_mono m (suc j) c h₁)) ∙ ap (λ x. get_or old x nan) f ∙ ap (cell m old (c + i)) back

    -- and of the N columns from k on
    many_less : (at : List ℕ) (N i k : ℕ) (x : Float) → c0 ≤ k → k + N ≤ c → i < m - c → ((j : ℕ) → j < N → Stands m c (k + j) (get_or at j 0)) →
        x ≡ singly (get_or old (dst + i) nan) (cell m old (c + i)) (cell m old c) c0 (k - c0) →
        lesses w at i x N ≡ singly (get_or old (dst + i) nan) (cell m old (c + i)) (cell m old c) c0 (k + N - c0)
    unfolding lesses
    many_less at zero i k x h₀ h₁ p s e = e ∙ ap (singly (get_or old (dst + i) nan) (cell m old (c + i)) (cell m old c) c0) (omega arith)
    many_less at (suc N) i k x h₀ h₁ p s e =
        one_less (get_or at N 0) i (k + N) (k + suc N) _ (omega arith) (omega arith) p (s N (omega arith)) (omega arith)
        (many_less at N i k x h₀ (omega arith) p (λ j l. s j (omega arith)) e)

  pub singled_more : (w w' : List Float) (at : List ℕ) (N k : ℕ) → dst ≡ trapezoid m c → Singled w k → c0 ≤ k → k + N ≤ c → c < m →
      ((j : ℕ) → j < N → Stands m c (k + j) (get_or at j 0)) →
      Touched nan w w' (m - c) (λ i. dst + i) (λ i. lesses w at i (get_or w (dst + i) nan) N) → Singled w' (k + N)
  singled_more w w' at N k d t h₀ h₁ h₂ s u =
      touch.again nan old w (m - c) (λ i. dst + i) (λ i. singly (get_or old (dst + i) nan) (cell m old (c + i)) (cell m old c) c0 (k - c0)) _ w' _ t u
      (λ i p. many_less w d h₂ t.outside at N i k _ h₀ h₁ p s (t.inside i p))

  pub singled_at : (w : List Float) (k : ℕ) → dst ≡ trapezoid m c → Singled w k →
      Touched nan old w (m - c) (λ i. trapezoid m c + i) (λ i. singly (get_or old (trapezoid m c + i) nan) (cell m old (c + i)) (cell m old c) c0 (k - c0))
  singled_at w k d t = subst (λ d. Touched nan old w (m - c) (λ i. d + i) (λ i. singly (get_or old (d + i) nan) (cell m old (c + i)) (cell m old c) c0 (k - c0))) d t

-- the sum before the panel
module _ (old : List Float) (m c : ℕ) where
  abbrev pub Before : List Float → Type 0
  Before w =
      Touched nan old w (m - c) (λ i. trapezoid m c + i)
      (λ i. cond (ltb c 64) (get_or old (trapezoid m c + i) nan) (sub binary64 (get_or old (trapezoid m c + i) nan) (dot (cell m old (c + i)) (cell m old c) (panel c))))

  pub before_none : c < 64 → Before old
  before_none h = record { size = refl; inside = λ i p. rw (lt-ltb c 64 h); outside = λ p q. refl }

  pub before_sum : (w work : List Float) (at c0 : ℕ) → c0 ≡ panel c → 64 ≤ c → at ≡ trapezoid m c → ((i : ℕ) → i < m - c → get_or work i nan ≡ dot (cell m old (c + i)) (cell m old c) c0) →
      Touched nan old w (m - c) (λ i. at + i) (λ i. sub binary64 (get_or old (at + i) nan) (get_or work i nan)) → Before w
  before_sum w work at c0 e₀ h e s t =
      touch.recast nan old w (m - c) (λ i. trapezoid m c + i) _ _
      (subst (λ a. Touched nan old w (m - c) (λ i. a + i) (λ i. sub binary64 (get_or old (a + i) nan) (get_or work i nan))) e t)
      (λ i p. ap (sub binary64 (get_or old (trapezoid m c + i) nan)) (s i p ∙ ap (dot (cell m old (c + i)) (cell m old c)) e₀) ∙ rw (le-ltb c 64 h))

-- columns before c are read alike before and after a change of column c
pub cells_kept : (old w : List Float) (m c : ℕ) (f : ℕ → Float) → Touched nan old w (m - c) (λ i. trapezoid m c + i) f → (p k : ℕ) → k < c → k ≤ p → p < m → cell m w p k ≡ cell m old p k
cells_kept old w m c f t p k h₀ h₁ h₂ =
    t.outside (trapezoid m k + (p - k)) (λ i l e. omega (arith, trap_suc m k, trap_mono m (suc k) c h₀))

-- the columns from a on, and those that follow
singly_on : (v : Float) (x y : ℕ → Float) (a b u w : ℕ) → b ≡ a + u → singly (singly v x y a u) x y b w ≡ singly v x y a (u + w)
unfolding singly
singly_on v x y a b u zero e = ap (singly v x y a) (omega arith)
singly_on v x y a b u (suc w) e =
    ap₂ (sub binary64) (singly_on v x y a b u w e) (ap (λ p. mul binary64 (x p) (y p)) at) ∙ singly_step v x y a (u + w) ∙ ap (singly v x y a) more
  where
    at : b + w ≡ a + (u + w)
    at = omega arith

    more : u + w + 1 ≡ u + suc w
    more = omega arith

abbrev pub Singles : List Float → List Float → ℕ → ℕ → ℕ → ℕ → Type 0
Singles old w m c a b =
    Touched nan old w (m - c) (λ i. trapezoid m c + i) (λ i. singly (get_or old (trapezoid m c + i) nan) (cell m old (c + i)) (cell m old c) a (b - a))

pub singled_on : (old w w' : List Float) (m c a b k : ℕ) → a ≤ b → b ≤ k → k ≤ c → Singles old w m c a b → Singles w w' m c b k → Singles old w' m c a k
singled_on old w w' m c a b k h₀ h₁ h₂ t u =
    touch.again nan old w (m - c) (λ i. trapezoid m c + i) _ _ w' _ t u
    (λ i p.
    ap (λ z. singly z (cell m w (c + i)) (cell m w c) b (k - b)) (t.inside i p) ∙
    singly_same _ (cell m w (c + i)) (cell m w c) (cell m old (c + i)) (cell m old c) b (k - b)
    (λ j q. (cells_kept old w m c _ t (c + i) j (omega arith) (omega arith) (omega arith), cells_kept old w m c _ t c j (omega arith) (omega arith) (omega arith))) ∙
    singly_on _ (cell m old (c + i)) (cell m old c) a b (b - a) (k - b) (omega arith) ∙
    ap (singly (get_or old (trapezoid m c + i) nan) (cell m old (c + i)) (cell m old c) a) (omega arith))

pub singles_to : (old w : List Float) (m c a b k : ℕ) → b ≡ k → Singles old w m c a b → Singles old w m c a k
singles_to old w m c a b k e t = subst (Singles old w m c a) e t

-- both
module _ (old : List Float) (m c : ℕ) where
  abbrev pub Reduced : List Float → Type 0
  Reduced w = Touched nan old w (m - c) (λ i. trapezoid m c + i) (λ i. inner m old (c + i) c (get_or old (trapezoid m c + i) nan))

  abbrev pub SingledFrom : List Float → List Float → ℕ → Type 0
  SingledFrom w w' c0 =
      Touched nan w w' (m - c) (λ i. trapezoid m c + i) (λ i. singly (get_or w (trapezoid m c + i) nan) (cell m w (c + i)) (cell m w c) c0 (c - c0))

  pub reduced : (w w' : List Float) (c0 : ℕ) → c0 ≡ panel c → Before old m c w → SingledFrom w w' c0 → Reduced w'
  unfolding inner
  reduced w w' c0 e t u =
      touch.again nan old w (m - c) (λ i. trapezoid m c + i) _ _ w' _ t (subst (SingledFrom w w') e u)
      (λ i p.
      ap (λ z. singly z (cell m w (c + i)) (cell m w c) (panel c) (c - panel c)) (t.inside i p) ∙
      singly_same _ (cell m w (c + i)) (cell m w c) (cell m old (c + i)) (cell m old c) (panel c) (c - panel c)
      (λ k q. (cells_kept old w m c _ t (c + i) k (omega arith) (omega arith) (omega arith), cells_kept old w m c _ t c k (omega arith) (omega arith) (omega arith))))

  pub reduced_at : (w : List Float) → Reduced w → (p : ℕ) → c ≤ p → p < m → cell m w p c ≡ inner m old p c (cell m old p c)
  reduced_at w t p h l = t.inside (p - c) (omega arith) ∙ ap (λ z. inner m old z c (cell m old p c)) (add-sub_of_le h)

  module _ (a d : Float) (w : List Float) (b : Bool) (h : c < m)
      (room : trapezoid m c + (m - c) ≤ length old) (t : Reduced w) (e : d ≡ cell m w c c) (g : b ≡ passes a d) where
    d_is : d ≡ pivot m old c
    d_is = e ∙ reduced_at w t c (omega arith) h

    good_is : (s : Bool) → b ≡ s → s ≡ passes a (pivot m old c)
    good_is s f = sym f ∙ g ∙ ap (passes a) d_is

    pub column_no : b ≡ false → Column m c a old w false
    column_no f =
        record {
          size = t.size;
          good = good_is false f;
          diag = λ q. never q refl;
          below = λ q. never q refl;
          outside = λ x q. t.outside x (λ i l s. q (omega arith) (omega arith));
        }

    pub column_yes : (v : List Float) (r : Float) (at : ℕ) → at ≡ trapezoid m c → b ≡ true → r ≡ root d →
        Touched nan (set w at r) v (m - c - 1) (λ i. at + 1 + i) (λ i. div binary64 (get_or (set w at r) (at + 1 + i) nan) r) → Column m c a old v true
    column_yes v r at here f k u =
        record {
          size = u.size ∙ length-set w at r ∙ t.size;
          good = good_is true f;
          diag = λ q.
              ap (λ x. get_or v x nan) (sym same) ∙
              u.outside at (λ i l s. omega arith) ∙
              get_or-set_same w at r nan (omega (arith, t.size)) ∙
              r_is;
          below = λ q p l₁ l₂.
              ap (λ x. get_or v x nan) (row p l₁) ∙
              u.inside (p - c - 1) (omega arith) ∙
              ap₂ (div binary64) (ap (λ x. get_or (set w at r) x nan) (sym (row p l₁)) ∙ get_or-set_other w at (trapezoid m c + (p - c)) r nan (λ s. omega arith) ∙ reduced_at w t p (omega arith) l₂) r_is;
          outside = λ x q.
              u.outside x (λ i l s. q (omega arith) (omega arith)) ∙
              get_or-set_other w at x r nan (λ s. q (omega arith) (omega arith)) ∙
              t.outside x (λ i l s. q (omega arith) (omega arith));
        }
      where
        same : at ≡ trapezoid m c + (c - c)
        same = omega arith

        r_is : r ≡ root (pivot m old c)
        r_is = k ∙ ap root d_is

        row : (p : ℕ) → c < p → trapezoid m c + (p - c) ≡ at + 1 + (p - c - 1)
        row p l = omega arith
