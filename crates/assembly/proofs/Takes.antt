-- An update, one target column after the other. Assumes nothing.
use mathlib.Core.Path.{◌≡◌, refl, sym, ap, ap₂, ◌∙◌, subst}
use mathlib.Core.List.{List}
use Prim.Native.Nat.{ℕ, suc, ◌+◌, ◌-◌, ◌≤◌, ◌<◌}
use native.Mathlib.Omega.{arith}
use native.Mathlib.Nat.{add-sub_of_le}
use native.Mathlib.Decide.{ℕ_discrete}
use lib.ListN.{get_or, drop}
use lib.Seq.{get_or-drop}
use lib.Ieee.{Float, nan, binary64, sub}
use Rattle.laws.proofs.Entry.{trap_suc, trap_mono, dot_same}
use Rattle.laws.proofs.Inplace.{spot_apart}
use Rattle.areas.specs.Touch.{Touched}
use Rattle.panel.specs.View.{cell}
use Rattle.spread.specs.Spread.{pos_of}
use Rattle.assembly.specs.Update.{spot_of, Target, Source, Updated}
use Rattle.statement.specs.Shape.{trapezoid}
use Rattle.statement.specs.Rules.{dot}

module _ (place rows : List ℕ) (vlen wlen off m w kr km kw kv p1 p2 : ℕ) (s : Source place rows vlen wlen off m w kr km kw kv p1 p2) where
  pub target : (q : ℕ) (wl : ℕ) → wl ≡ wlen → (vl : ℕ) → vl ≡ vlen → p1 ≤ q → q < p2 → Target place rows vl wl off m kr km kw kv q
  target q wl e vl f h l =
      record {
        few = s.few;
        few_k = s.few_k;
        past = omega (arith, s.past);
        here = omega (arith, s.in_k);
        listed = s.listed;
        room = omega (arith, s.room);
        stretch = s.stretch;
        known = s.known;
        rise = λ r t a b c. s.rise r t (omega arith) b c;
        inside = λ r a b. s.inside r (omega arith) b;
        column = omega (arith, s.own, s.columns q h l, trap_suc m (pos_of place rows kr q), trap_mono m (suc (pos_of place rows kr q)) w (s.columns q h l));
      }

  pub in_order : (q r : ℕ) → p1 ≤ q → q ≤ r → r < km → pos_of place rows kr q ≤ pos_of place rows kr r
  in_order q r h l k = go (ℕ_discrete q r)
    where
      go : Dec (q ≡ r) → pos_of place rows kr q ≤ pos_of place rows kr r
      go (yes e) = omega (arith, ap (pos_of place rows kr) e)
      go (no e) = omega (arith, s.rise q r h (omega arith) k)

  -- entries of different columns lie apart
  apart : (q r q' r' : ℕ) → p1 ≤ q → q < q' → q ≤ r → r < km → q' ≤ r' → r' < km → off + spot_of place rows m kr q r ≡ off + spot_of place rows m kr q' r' → ⊥
  apart q r q' r' h l a b a' b' e =
      let z = spot_apart m (pos_of place rows kr r) (pos_of place rows kr q) (pos_of place rows kr r') (pos_of place rows kr q') (in_order q r h a b) (s.inside r (omega arith) b) (in_order q' r' (omega arith) a' b') (s.inside r' (omega arith) b') (omega arith) in
      omega (arith, z.0, s.rise q q' h l (omega arith))

  module _ (old : List Float) where
    abbrev Upto : List Float → ℕ → Type 0
    Upto v q = Updated place rows old v off m kr km kw kv p1 q

    pub upto_none : Upto old p1
    upto_none = record { size = refl; hit = λ q r a b. absurd (omega arith); miss = λ x h. refl }

    -- K's own entries are as they were
    pub kept : (v : List Float) (q : ℕ) → Upto v q → (r k : ℕ) → k < kw → r < km → cell km (drop kv v) r k ≡ cell km (drop kv old) r k
    kept v q t r k h l =
        get_or-drop kv v (trapezoid km k + (r - k)) nan ∙
        t.miss (kv + (trapezoid km k + (r - k))) (λ a b c d e f g. omega (arith, s.stretch, trap_suc km k, trap_mono km (suc k) kw h)) ∙
        sym (get_or-drop kv old (trapezoid km k + (r - k)) nan)

    pub upto_more : (v v' : List Float) (q : ℕ) → p1 ≤ q → q < p2 → Upto v q →
        Touched nan v v' (km - q) (λ i. off + spot_of place rows m kr q (q + i))
        (λ i. sub binary64 (get_or v (off + spot_of place rows m kr q (q + i)) nan) (dot (cell km (drop kv v) (q + i)) (cell km (drop kv v) q) kw)) → Upto v' (q + 1)
    upto_more v v' q h l t u =
        record {
          size = u.size ∙ t.size;
          hit = λ a r b c d e. at a r b c d e (ℕ_discrete a q);
          miss = λ x n. u.outside x (λ i k e. n q (q + i) h (omega arith) (omega arith) (omega arith) e) ∙ t.miss x (λ a r b c d e. n a r b (omega arith) d e);
        }
      where
        in_k : p2 ≤ km
        in_k = s.in_k

        same : (r : ℕ) → q ≤ r → r < km → dot (cell km (drop kv v) r) (cell km (drop kv v) q) kw ≡ dot (cell km (drop kv old) r) (cell km (drop kv old) q) kw
        same r a b = dot_same (cell km (drop kv v) r) (cell km (drop kv v) q) (cell km (drop kv old) r) (cell km (drop kv old) q) kw (λ k c. (kept v q t r k c b, kept v q t q k c (omega arith)))

        here : (r : ℕ) → q ≤ r → r < km → get_or v' (off + spot_of place rows m kr q r) nan ≡ sub binary64 (get_or old (off + spot_of place rows m kr q r) nan) (dot (cell km (drop kv old) r) (cell km (drop kv old) q) kw)
        here r a b =
            subst (λ r. get_or v' (off + spot_of place rows m kr q r) nan ≡ sub binary64 (get_or v (off + spot_of place rows m kr q r) nan) (dot (cell km (drop kv v) r) (cell km (drop kv v) q) kw)) (add-sub_of_le a) (u.inside (r - q) (omega arith)) ∙
            ap₂ (sub binary64) (t.miss (off + spot_of place rows m kr q r) (λ c d e f g i j. apart c d q r e f g i a b j)) (same r a b)

        at : (a r : ℕ) → p1 ≤ a → a < q + 1 → a ≤ r → r < km → Dec (a ≡ q) → get_or v' (off + spot_of place rows m kr a r) nan ≡ sub binary64 (get_or old (off + spot_of place rows m kr a r) nan) (dot (cell km (drop kv old) r) (cell km (drop kv old) a) kw)
        at a r b c d e (yes f) = rw f (here r (omega arith) e)
        at a r b c d e (no f) = u.outside (off + spot_of place rows m kr a r) (λ i g j. apart a r q (q + i) b (omega arith) d e (omega arith) (omega arith) (sym j)) ∙ t.hit a r b (omega arith) d e

    pub upto_all : (v : List Float) (q : ℕ) → Upto v q → q ≤ p2 → p2 ≤ q → Upto v p2
    upto_all v q t h l = subst (Upto v) same t
      where
        same : q ≡ p2
        same = omega arith
