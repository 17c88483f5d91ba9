-- One target column of an update. Assumes nothing.
use mathlib.Core.Path.{◌≡◌, refl, sym, ap, ap₂, ◌∙◌, subst}
use mathlib.Core.List.{List}
use Prim.Native.Nat.{ℕ, zero, suc, ◌+◌, ◌-◌, ◌≤◌, ◌<◌}
use native.Mathlib.Omega.{arith}
use native.Mathlib.Decide.{ℕ_discrete}
use lib.ListN.{length, get_or, drop}
use lib.Seq.{get_or-drop}
use lib.Ieee.{Float, nan, binary64, sub}
use Rattle.laws.proofs.Entry.{trap_suc, trap_mono}
use Rattle.areas.specs.Touch.{Touched}
use Rattle.panel.specs.View.{cell}
use Rattle.spread.specs.Spread.{through, Rising, pos_of}
use Rattle.assembly.specs.Update.{spot_of, Target}
use Rattle.areas.proofs.Touch as touch
use Rattle.areas.proofs.Part as part
use Rattle.products.specs.Products.{plus}
use Rattle.products.proofs.Floats.{dot_one}
use Rattle.products.proofs.Rising.{trap_zero}
use Rattle.spread.proofs.Runs.{shifted}
use Rattle.statement.specs.Input.{+0}
use Rattle.statement.specs.Shape.{trapezoid}
use Rattle.statement.specs.Rules.{dot}

pub trap_ge : (m c : ℕ) → c ≤ m → c ≤ trapezoid m c
trap_ge m zero h = omega arith
trap_ge m (suc c) h = omega (arith, trap_zero m, trap_suc m 0, trap_mono m 1 (suc c) (omega arith))

module _ (place rows : List ℕ) (vlen wlen off m kr km kw kv q : ℕ) (t : Target place rows vlen wlen off m kr km kw kv q) where
  -- the i-th from q on, of K's rows
  row : (i : ℕ) → get_or rows (kr + q + i) 0 ≡ get_or rows (kr + (q + i)) 0
  row i = ap (λ k. get_or rows k 0) assoc
    where
      assoc : kr + q + i ≡ kr + (q + i)
      assoc = omega arith

  pos : (i : ℕ) → pos_of place rows (kr + q) i ≡ pos_of place rows kr (q + i)
  pos i = ap (λ r. get_or place r 0) (row i)

  low : (i : ℕ) → i < km - q → pos_of place rows kr q ≤ pos_of place rows kr (q + i)
  low i h = go (ℕ_discrete i 0)
    where
      go : Dec (i ≡ 0) → pos_of place rows kr q ≤ pos_of place rows kr (q + i)
      go (yes e) = omega (arith, ap (pos_of place rows kr) (zr e))
        where
          zr : i ≡ 0 → q ≡ q + i
          zr e = omega arith
      go (no e) = omega (arith, t.rise q (q + i) (omega arith) (omega arith) (omega arith))

  pub start_ge : pos_of place rows kr q ≤ trapezoid m (pos_of place rows kr q)
  start_ge = trap_ge m (pos_of place rows kr q) (omega (arith, t.inside q (omega arith) t.here))

  module _ (from : ℕ) (e : from ≡ trapezoid m (pos_of place rows kr q)) where
    abbrev base : ℕ
    base = from - pos_of place rows kr q

    there : (i : ℕ) → i < km - q → through place rows base (kr + q) i ≡ spot_of place rows m kr q (q + i)
    there i h = omega (arith, pos i, low i h, start_ge, e)

    pub rising : (L : ℕ) → L ≡ vlen - off → Rising place rows base (kr + q) (km - q) L
    rising L l =
        record {
          rises =
              record {
                some = omega (arith, t.here);
                listed = omega (arith, t.listed, t.here);
                known = λ i h. omega (arith, row i, t.known (q + i) (omega arith));
                rise = λ i k g h. omega (arith, pos i, pos k, t.rise (q + k) (q + i) (omega arith) (omega arith) (omega arith));
              };
          within = λ i h. omega (arith, there i h, low i h, t.inside (q + i) (omega arith) (omega arith), t.column);
        }

    pub rising_whole : Rising place rows (off + base) (kr + q) (km - q) vlen
    rising_whole = shifted (rising (vlen - off) refl) off vlen (omega (arith, t.column))

    -- of one column; what it reads ends before J's stretch
    pub before_base : (kw ≡ 1) → kv + q + (km - q) ≤ off + base
    before_base o = omega (arith, t.stretch, t.here, ap (trapezoid km) o, trap_suc km 0, trap_zero km)

    pub one_single : (v w : List Float) →
        Touched nan v w (km - q) (through place rows (off + base) (kr + q)) (λ i. sub binary64 (get_or v (through place rows (off + base) (kr + q) i) nan) (plus v (kv + q) i +0)) →
        Touched nan v w (km - q) (λ i. off + spot_of place rows m kr q (q + i))
        (λ i. sub binary64 (get_or v (off + spot_of place rows m kr q (q + i)) nan) (dot (cell km (drop kv v) (q + i)) (cell km (drop kv v) q) 1))
    one_single v w u =
        touch.recast nan v w (km - q) (λ i. off + spot_of place rows m kr q (q + i)) _ _
        (touch.repos nan v w (km - q) _ (λ i. off + spot_of place rows m kr q (q + i)) _ u whole)
        (λ i h.
        ap₂ (sub binary64) (ap (λ x. get_or v x nan) (whole i h))
        (dot_one (cell km (drop kv v) (q + i)) (cell km (drop kv v) q) (ap (λ x. get_or v x nan) (assoc kv q i) ∙ sym (column_0 (q + i))) (sym (column_0 q))))
      where
        assoc : (a b c : ℕ) → a + b + c ≡ a + (b + c)
        assoc a b c = omega arith

        whole : (i : ℕ) → i < km - q → through place rows (off + base) (kr + q) i ≡ off + spot_of place rows m kr q (q + i)
        whole i h = omega (arith, there i h)

        column_0 : (p : ℕ) → cell km (drop kv v) p 0 ≡ get_or v (kv + p) nan
        column_0 p = get_or-drop kv v (trapezoid km 0 + (p - 0)) nan ∙ ap (λ x. get_or v (kv + x) nan) start
          where
            start : trapezoid km 0 + (p - 0) ≡ p
            start = omega (arith, trap_zero km)

    pub one_column : (v w work : List Float) → length v ≡ vlen →
        Touched nan (part.mid nan v off) w (km - q) (through place rows base (kr + q)) (λ i. sub binary64 (get_or (part.mid nan v off) (through place rows base (kr + q) i) nan) (get_or work i nan)) →
        ((i : ℕ) → i < km - q → get_or work i nan ≡ dot (cell km (part.mid nan v kv) (q + i)) (cell km (part.mid nan v kv) q) kw) →
        Touched nan v (part.back nan v off w) (km - q) (λ i. off + spot_of place rows m kr q (q + i))
        (λ i. sub binary64 (get_or v (off + spot_of place rows m kr q (q + i)) nan) (dot (cell km (drop kv v) (q + i)) (cell km (drop kv v) q) kw))
    one_column v w work l u s =
        touch.recast nan v (part.back nan v off w) (km - q) (λ i. off + spot_of place rows m kr q (q + i)) _ _
        (touch.repos nan v (part.back nan v off w) (km - q) _ (λ i. off + spot_of place rows m kr q (q + i)) _
        (part.lift nan v off (omega (arith, t.column)) w (km - q) _ _ u)
        (λ i h. ap (λ x. off + x) (there i h)))
        (λ i h.
        ap₂ (sub binary64) (part.mid_at nan v off (through place rows base (kr + q) i) ∙ ap (λ x. get_or v (off + x) nan) (there i h))
        (s i h ∙ ap (λ l. dot (cell km l (q + i)) (cell km l q) kw) (part.mid_is nan v kv)))

-- what an earlier supernode of some columns gives, its first column gives alone
pub single : {place rows : List ℕ} {vlen wlen off m kr km kw kv q : ℕ} → 0 < kw → Target place rows vlen wlen off m kr km kw kv q → Target place rows vlen km off m kr km 1 kv q
single {km = km} {kw = kw} some t =
    record {
      few = t.few;
      few_k = t.few_k;
      past = omega (arith, t.past);
      here = t.here;
      listed = t.listed;
      room = omega arith;
      stretch = omega (arith, t.stretch, trap_mono km 1 kw some);
      known = t.known;
      rise = t.rise;
      inside = t.inside;
      column = t.column;
    }

pub as_single : (place rows : List ℕ) (off m kr km kv q kw : ℕ) → kw ≡ 1 → (v w : List Float) →
    Touched nan v w (km - q) (λ i. off + spot_of place rows m kr q (q + i)) (λ i. sub binary64 (get_or v (off + spot_of place rows m kr q (q + i)) nan) (dot (cell km (drop kv v) (q + i)) (cell km (drop kv v) q) 1)) →
    Touched nan v w (km - q) (λ i. off + spot_of place rows m kr q (q + i)) (λ i. sub binary64 (get_or v (off + spot_of place rows m kr q (q + i)) nan) (dot (cell km (drop kv v) (q + i)) (cell km (drop kv v) q) kw))
as_single place rows off m kr km kv q kw e v w t =
    subst (λ k. Touched nan v w (km - q) (λ i. off + spot_of place rows m kr q (q + i)) (λ i. sub binary64 (get_or v (off + spot_of place rows m kr q (q + i)) nan) (dot (cell km (drop kv v) (q + i)) (cell km (drop kv v) q) k))) (sym e) t
