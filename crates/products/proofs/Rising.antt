-- Row q of a trapezoid's columns, one column after the other, and the sums that grow along them, by one, four or eight columns. Assumes nothing.
use mathlib.Core.Path.{◌≡◌, refl, sym, ap, ap₂, ◌∙◌, subst}
use mathlib.Core.List.{List}
use Prim.Native.Nat.{ℕ, zero, suc, ◌+◌, ◌-◌, ◌≤◌, ◌<◌}
use native.Mathlib.Omega.{arith}
use native.Mathlib.Numerals.{add-one}
use native.Mathlib.Decide.{ℕ_discrete}
use lib.ListN.{length, get_or, set}
use lib.Seq.{get_or-set_same, get_or-set_other}
use lib.Ieee.{Float, nan, binary64, add, mul}
use Rattle.laws.proofs.Entry.{trap_suc, trap_mono}
use Rattle.areas.specs.Touch.{Touched}
use Rattle.areas.proofs.Touch as touch
use Rattle.panel.specs.View.{cell}
use Rattle.products.specs.Products.{plus, plus4, pluses, Begun}
use Rattle.products.proofs.Floats.{dot_start, dot_step}
use Rattle.statement.specs.Shape.{trapezoid}
use Rattle.statement.specs.Input.{+0}
use Rattle.statement.specs.Rules.{dot}

pub trap_zero : (m : ℕ) → trapezoid m 0 ≡ 0
unfolding trapezoid
trap_zero m = refl

-- row q of the first column
pub at_first : (m q : ℕ) → q ≡ trapezoid m 0 + (q - 0)
at_first m q = omega (arith, trap_zero m)

-- a column's rows from q lie within the trapezoid
pub at_in : (m k q kw at L : ℕ) → k < kw → kw ≤ q → q < m → at ≡ trapezoid m k + (q - k) → trapezoid m kw ≤ L → at + (m - q) ≤ L
at_in m k q kw at L h h₁ h₂ e l = omega (arith, trap_suc m k, trap_mono m (suc k) kw h)

-- the next column's row q
pub at_next : (m k k' q at at' : ℕ) → k < q → q < m → k' ≡ k + 1 → at' ≡ at + m - k' → at ≡ trapezoid m k + (q - k) → at' ≡ trapezoid m k' + (q - k')
at_next m k k' q at at' h h₁ s n e = omega (arith, trap_suc m k, ap (trapezoid m) (s ∙ add-one k))

-- row q itself is among the rows from q
pub some : (m q : ℕ) → q < m → 0 < m - q
some m q h = omega arith

-- s₀ to s₃ are where row q of four columns from k on stands, s₄ that of the column after them; each column's rows from q on lie before L
pub record Four (m k q L s₀ s₁ s₂ s₃ s₄ : ℕ) : Type 0 where
  pub at₀ : s₀ ≡ trapezoid m k + (q - k)
  pub at₁ : s₁ ≡ trapezoid m (k + 1) + (q - (k + 1))
  pub at₂ : s₂ ≡ trapezoid m (k + 2) + (q - (k + 2))
  pub at₃ : s₃ ≡ trapezoid m (k + 3) + (q - (k + 3))
  pub at₄ : s₄ ≡ trapezoid m (k + 4) + (q - (k + 4))
  pub in₀ : s₀ + (m - q) ≤ L
  pub in₁ : s₁ + (m - q) ≤ L
  pub in₂ : s₂ + (m - q) ≤ L
  pub in₃ : s₃ + (m - q) ≤ L

module _ (m k q kw L s₀ s₁ s₂ s₃ s₄ : ℕ) (h : k + 4 ≤ kw) (u : kw ≤ q) (l : q < m) (d : trapezoid m kw ≤ L) where
  pub four : s₀ ≡ trapezoid m k + (q - k) → s₁ ≡ s₀ + m - (k + 1) → s₂ ≡ s₁ + m - (k + 2) → s₃ ≡ s₂ + m - (k + 3) → s₄ ≡ s₃ + m - (k + 4) → Four m k q L s₀ s₁ s₂ s₃ s₄
  four e₀ e₁ e₂ e₃ e₄ =
      record {
        at₀ = e₀;
        at₁ = a₁;
        at₂ = a₂;
        at₃ = a₃;
        at₄ = at_next m (k + 3) (k + 4) q s₃ s₄ (omega arith) l (omega arith) e₄ a₃;
        in₀ = at_in m k q kw s₀ L (omega arith) u l e₀ d;
        in₁ = at_in m (k + 1) q kw s₁ L (omega arith) u l a₁ d;
        in₂ = at_in m (k + 2) q kw s₂ L (omega arith) u l a₂ d;
        in₃ = at_in m (k + 3) q kw s₃ L (omega arith) u l a₃ d;
      }
    where
      a₁ : s₁ ≡ trapezoid m (k + 1) + (q - (k + 1))
      a₁ = at_next m k (k + 1) q s₀ s₁ (omega arith) l refl e₁ e₀

      a₂ : s₂ ≡ trapezoid m (k + 2) + (q - (k + 2))
      a₂ = at_next m (k + 1) (k + 2) q s₁ s₂ (omega arith) l (omega arith) e₂ a₁

      a₃ : s₃ ≡ trapezoid m (k + 3) + (q - (k + 3))
      a₃ = at_next m (k + 2) (k + 3) q s₂ s₃ (omega arith) l (omega arith) e₃ a₂

-- where row q of the column k stands
abbrev pub Stands : ℕ → ℕ → ℕ → ℕ → Type 0
Stands m q k s = s ≡ trapezoid m k + (q - k)

pub stands_at : (m q s a b : ℕ) → Stands m q a s → a ≡ b → Stands m q b s
stands_at m q s a b t e = t ∙ ap (λ k. trapezoid m k + (q - k)) e

-- one more place kept
pub kept : (m q k : ℕ) (at : List ℕ) (j s : ℕ) → j < length at → ((i : ℕ) → i < j → Stands m q (k + i) (get_or at i 0)) → Stands m q (k + j) s →
    (i : ℕ) → i < j + 1 → Stands m q (k + i) (get_or (set at j s) i 0)
kept m q k at j s l t e i h = one (ℕ_discrete i j)
  where
    one : Dec (i ≡ j) → Stands m q (k + i) (get_or (set at j s) i 0)
    one (yes d) = ap (λ i. get_or (set at j s) i 0) d ∙ get_or-set_same at j s 0 l ∙ e ∙ ap (λ i. trapezoid m (k + i) + (q - (k + i))) (sym d)
    one (no d) = get_or-set_other at j i s 0 d ∙ t i (omega arith)

-- the sums over the first k columns
module _ (old v : List Float) (m q n : ℕ) where
  abbrev pub Summed : List Float → ℕ → Type 0
  Summed w k = Touched nan old w n (λ i. i) (λ i. dot (cell m v (q + i)) (cell m v q) k)

  -- one product more, of column k, whose row q stands at s
  one_more : (s i k k' : ℕ) (x : Float) → k ≤ q → k' ≡ k + 1 → s ≡ trapezoid m k + (q - k) →
      x ≡ dot (cell m v (q + i)) (cell m v q) k → plus v s i x ≡ dot (cell m v (q + i)) (cell m v q) k'
  one_more s i k k' x h e a d =
      ap₂ (add binary64) d (ap₂ (mul binary64) (ap (λ y. get_or v y nan) row) (ap (λ y. get_or v y nan) a)) ∙
      dot_step (cell m v (q + i)) (cell m v q) k ∙
      ap (dot (cell m v (q + i)) (cell m v q)) (sym e)
    where
      row : s + i ≡ trapezoid m k + (q + i - k)
      row = omega arith

  -- and those of the N columns from k on
  many_more : (at : List ℕ) (N i k : ℕ) (x : Float) → k + N ≤ q → ((j : ℕ) → j < N → Stands m q (k + j) (get_or at j 0)) →
      x ≡ dot (cell m v (q + i)) (cell m v q) k → pluses v at i x N ≡ dot (cell m v (q + i)) (cell m v q) (k + N)
  unfolding pluses
  many_more at zero i k x h s d = d ∙ ap (dot (cell m v (q + i)) (cell m v q)) (omega arith)
  many_more at (suc N) i k x h s d =
      one_more (get_or at N 0) i (k + N) (k + suc N) _ (omega arith) (omega arith) (s N (omega arith)) (many_more at N i k x (omega arith) (λ j l. s j (omega arith)) d)

  -- none, and N columns from k
  pub summed_none : (w : List Float) → Touched nan old w n (λ i. i) (λ i. +0) → Summed w 0
  summed_none w a = touch.recast nan old w n (λ i. i) (λ i. +0) _ a (λ i p. dot_start (cell m v (q + i)) (cell m v q))

  four_more : (L s₀ s₁ s₂ s₃ s₄ i k k' : ℕ) (x : Float) → k + 4 ≤ q → k' ≡ k + 4 → Four m k q L s₀ s₁ s₂ s₃ s₄ →
      x ≡ dot (cell m v (q + i)) (cell m v q) k → plus4 v s₀ s₁ s₂ s₃ i x ≡ dot (cell m v (q + i)) (cell m v q) k'
  four_more L s₀ s₁ s₂ s₃ s₄ i k k' x h e f d =
      one_more s₃ i (k + 3) k' _ (omega arith) (omega arith) f.at₃
      (one_more s₂ i (k + 2) (k + 3) _ (omega arith) (omega arith) f.at₂
      (one_more s₁ i (k + 1) (k + 2) _ (omega arith) (omega arith) f.at₁ (one_more s₀ i k (k + 1) _ (omega arith) refl f.at₀ d)))

  pub summed_1 : (w : List Float) → Touched nan old w n (λ i. i) (λ i. plus v q i +0) → Summed w 1
  summed_1 w a =
      touch.recast nan old w n (λ i. i) _ _ a (λ i p. one_more q i 0 1 _ (omega arith) refl (at_first m q) (dot_start (cell m v (q + i)) (cell m v q)))

  pub summed_4 : (w : List Float) (L s₁ s₂ s₃ s₄ : ℕ) → 4 ≤ q → Four m 0 q L q s₁ s₂ s₃ s₄ → Touched nan old w n (λ i. i) (λ i. plus4 v q s₁ s₂ s₃ i +0) → Summed w 4
  summed_4 w L s₁ s₂ s₃ s₄ h f a =
      touch.recast nan old w n (λ i. i) _ _ a (λ i p. four_more L q s₁ s₂ s₃ s₄ i 0 4 _ h refl f (dot_start (cell m v (q + i)) (cell m v q)))

  pub summed_more : (w w' : List Float) (at : List ℕ) (N k : ℕ) → k + N ≤ q → ((j : ℕ) → j < N → Stands m q (k + j) (get_or at j 0)) → Summed w k →
      Touched nan w w' n (λ i. i) (λ i. pluses v at i (get_or w i nan) N) → Summed w' (k + N)
  summed_more w w' at N k h s t a =
      touch.again nan old w n (λ i. i) (λ i. dot (cell m v (q + i)) (cell m v q) k) _ w' _ t a (λ i p. many_more at N i k _ h s (t.inside i p))

  -- the sums with which a function begins, and those that it hands on
  pub summed_here : {kw k : ℕ} → n ≡ m - q → Begun m q kw k v old → Summed old k
  summed_here e b = record { size = refl; inside = λ i p. b.sums i (omega arith); outside = λ p h. refl }

  pub summed_on : (w w' : List Float) (k kw : ℕ) → Summed w k → Touched nan w w' n (λ i. i) (λ i. dot (cell m v (q + i)) (cell m v q) kw) → Summed w' kw
  summed_on w w' k kw t a = touch.again nan old w n (λ i. i) (λ i. dot (cell m v (q + i)) (cell m v q) k) _ w' _ t a (λ i p. refl)

  pub summed_at : (w : List Float) (k kw : ℕ) → Summed w k → k ≤ kw → kw ≤ k → Summed w kw
  summed_at w k kw t h l = subst (Summed w) (same k kw h l) t
    where
      same : (i n : ℕ) → i ≤ n → n ≤ i → i ≡ n
      same i n p q = omega arith

-- the first sums, and those of a later turn
pub begun : {m q kw : ℕ} {v old : List Float} (w : List Float) (k : ℕ) → (kw ≤ q) × (q < m) × (m ≤ 32768) × (trapezoid m kw ≤ length v) × (m - q ≤ length old) → Summed old v m q (m - q) w k → k ≤ kw → Begun m q kw k v w
begun w k p t h =
    record {
      upto = h;
      above = p.0;
      here = p.1;
      few = p.2;
      stored = p.3;
      room = omega (arith, t.size, p.4);
      sums = t.inside;
    }

pub begun_on : {m q kw k k' : ℕ} {v old : List Float} (w : List Float) → Begun m q kw k v old → Summed old v m q (m - q) w k' → k' ≤ kw → Begun m q kw k' v w
begun_on {k' = k'} w b t h = begun w k' (b.above, b.here, b.few, b.stored, b.room) t h
