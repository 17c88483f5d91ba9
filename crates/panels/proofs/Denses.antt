-- The columns of a trapezoid, one after the other. Assumes nothing.
use mathlib.Core.Path.{◌≡◌, refl, sym, ap, ap₂, ◌∙◌, subst}
use mathlib.Core.Bool.{Bool, true, false, cond}
use mathlib.Core.List.{List}
use Prim.Native.Nat.{ℕ, suc, ◌+◌, ◌-◌, ◌≤◌, ◌<◌}
use native.Mathlib.Omega.{arith}
use native.Mathlib.Numerals.{add-one}
use native.Mathlib.Decide.{ℕ_discrete}
use lib.ListN.{length, get_or}
use lib.Dec.{ltb}
use lib.Ieee.{Float, nan, binary64, sub, div}
use Rattle.laws.proofs.Entry.{trap_suc, trap_mono, dot_same, singly_same}
use Rattle.panel.specs.View.{cell}
use Rattle.panels.specs.Dense.{inner, Column, Ruled, Dense, passed}
use Rattle.std.specs.Prelude.{⊤, Result, Ok, Err, IsErrAnd}
use Rattle.statement.specs.Shape.{trapezoid}
use Rattle.statement.specs.Root.{root}
use Rattle.statement.specs.Rules.{singly, panel, passes}

-- s and s' hold the same in the columns below c
abbrev pub Alike : ℕ → List Float → List Float → ℕ → Type 0
Alike m s s' c = (p k : ℕ) → k < c → k ≤ p → p < m → cell m s p k ≡ cell m s' p k

pub inner_cong : (m : ℕ) (s s' : List Float) (c : ℕ) → Alike m s s' c → (p : ℕ) (x : Float) → c ≤ p → p < m → inner m s p c x ≡ inner m s' p c x
unfolding inner
inner_cong m s s' c a p x h l =
    ap (λ z. singly (cond (ltb c 64) x (sub binary64 x z)) (cell m s p) (cell m s c) (panel c) (c - panel c)) (dot_same (cell m s p) (cell m s c) (cell m s' p) (cell m s' c) (panel c) (λ k q. same k (omega arith))) ∙
    singly_same _ (cell m s p) (cell m s c) (cell m s' p) (cell m s' c) (panel c) (c - panel c) (λ k q. same k (omega arith))
  where
    same : (k : ℕ) → k < c → (cell m s p k ≡ cell m s' p k) × (cell m s c k ≡ cell m s' c k)
    same k q = (a p k q (omega arith) l, a c k q (omega arith) (omega arith))

module _ (m : ℕ) (a : ℕ → Float) (old : List Float) where
  pub ruled_cong : (s s' : List Float) (c : ℕ) → c < m → Alike m s s' (suc c) → Ruled m a old s c → Ruled m a old s' c
  ruled_cong s s' c h e r =
      record {
        good = rw (sym d) r.good;
        diag = sym (e c c (omega arith) (omega arith) h) ∙ r.diag ∙ ap root d;
        below = λ p l k. sym (e p c (omega arith) (omega arith) k) ∙ r.below p l k ∙ ap₂ (div binary64) (inner_cong m s s' c less p (cell m old p c) (omega arith) k) (ap root d);
      }
    where
      less : Alike m s s' c
      less p k q = e p k (omega arith)

      d : inner m s c c (cell m old c c) ≡ inner m s' c c (cell m old c c)
      d = inner_cong m s s' c less c (cell m old c c) (omega arith) h

  -- after c columns
  pub record Sofar (s : List Float) (c : ℕ) : Type 0 where
    pub size : length s ≡ length old
    pub cols : (k : ℕ) → k < c → Ruled m a old s k
    pub later : (x : ℕ) → trapezoid m c ≤ x → get_or s x nan ≡ get_or old x nan

  pub start : Sofar old 0
  start = record { size = refl; cols = λ k h. absurd (omega arith); later = λ x h. refl }

  module _ (s s' : List Float) (c : ℕ) (h : c < m) (b : Bool) (t : Sofar s c) (u : Column m c (a c) s s' b) where
    alike : Alike m s s' c
    alike p k q l j = sym (u.outside (trapezoid m k + (p - k)) (λ x y. omega (arith, trap_suc m k, trap_mono m (suc k) c q)))

    front : (k : ℕ) → k < c → Ruled m a old s' k
    front k q = ruled_cong s s' k (omega arith) (λ p j r l i. alike p j (omega arith) l i) (t.cols k q)

    past : (x : ℕ) → trapezoid m c + (m - c) ≤ x → get_or s' x nan ≡ get_or old x nan
    past x q = u.outside x (λ y z. omega arith) ∙ t.later x (omega arith)

    here : (p : ℕ) → c ≤ p → cell m s p c ≡ cell m old p c
    here p q = t.later (trapezoid m c + (p - c)) (omega arith)

    inner_is : (p : ℕ) → c ≤ p → p < m → inner m s p c (cell m s p c) ≡ inner m s' p c (cell m old p c)
    inner_is p q l = ap (inner m s p c) (here p q) ∙ inner_cong m s s' c alike p (cell m old p c) q l

    fresh : b ≡ true → Ruled m a old s' c
    fresh e =
        record {
          good = ap (passes (a c)) (sym (inner_is c (omega arith) h)) ∙ sym u.good ∙ e;
          diag = u.diag e ∙ ap root (inner_is c (omega arith) h);
          below = λ p q l. u.below e p q l ∙ ap₂ (div binary64) (inner_is p (omega arith) l) (ap root (inner_is c (omega arith) h));
        }

    pub further : b ≡ true → Sofar s' (c + 1)
    further e =
        record {
          size = u.size ∙ t.size;
          cols = λ k q. at k q (ℕ_discrete k c);
          later = λ x q. past x (omega (arith, trap_suc m c, ap (trapezoid m) (add-one c)));
        }
      where
        at : (k : ℕ) → k < c + 1 → Dec (k ≡ c) → Ruled m a old s' k
        at k q (yes f) = rw f (fresh e)
        at k q (no f) = front k (omega arith)

    pub stopped : (w : ℕ) → c < w → b ≡ false → Dense m w a old s' c
    stopped w q e =
        record {
          size = u.size ∙ t.size;
          upto = omega arith;
          cols = front;
          stop = λ l. ap (passes (a c)) (sym (inner_is c (omega arith) h)) ∙ sym u.good ∙ e;
          outside = λ x l. past x (omega (arith, trap_suc m c, trap_mono m (suc c) w q));
        }

  pub finished : (s : List Float) (c w : ℕ) → Sofar s c → c ≤ w → w ≤ c → Dense m w a old s w
  finished s c w t h l =
      record {
        size = t.size;
        upto = omega arith;
        cols = λ k q. t.cols k (omega arith);
        stop = λ q. absurd (omega arith);
        outside = λ x q. t.later x (omega (arith, ap (trapezoid m) same));
      }
    where
      same : c ≡ w
      same = omega arith

pub as_a : (m c : ℕ) (x y : Float) (s s' : List Float) (b : Bool) → x ≡ y → Column m c x s s' b → Column m c y s s' b
as_a m c x y s s' b e u = subst (λ z. Column m c z s s' b) e u

-- where it ends early, by what it answers
pub broke : {m w c e : ℕ} {a : ℕ → Float} {old s : List Float} (r : Result ⊤ ℕ) → IsErrAnd r (λ x. x ≡ e) → e ≡ c → Dense m w a old s c → Dense m w a old s (passed w r)
broke {m} {w} {a = a} {old = old} {s = s} (Err x) f g d = subst (λ n. Dense m w a old s n) (sym (f ∙ g)) d
broke (Ok x) f g d = absurd f
