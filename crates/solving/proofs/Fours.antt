-- Four columns of a supernode whose rows follow each other are four columns of the forward pass. Assumes nothing.
use mathlib.Core.Path.{◌≡◌, refl, sym, ap, ◌∙◌}
use mathlib.Core.Bool.{true}
use mathlib.Core.List.{List}
use Prim.Native.Nat.{ℕ, ◌+◌, ◌-◌, ◌<◌, ◌≤◌}
use native.Mathlib.Omega.{arith}
use lib.ListN.{length, get_or, set, drop}
use lib.Seq.{drop-drop}
use lib.Ieee.{Float, binary64, div}
use Rattle.statement.specs.Input.{+0}
use Rattle.statement.specs.Lists.{rising}
use Rattle.statement.specs.Shape.{Shape}
use Rattle.statement.specs.Solve.{less_below, forward_at, forward}
use Rattle.areas.proofs.Tail.{tail_lent}
use Rattle.panel.specs.View.{column_of}
use Rattle.forward_four.specs.Four.{column, Four}
use Rattle.solving.specs.Walk.{Rising, is_run, Block, Supernode}
use Rattle.solving.proofs.Runs.{run_at, run_from}
use Rattle.solving.proofs.Walk.{column_long, column_rows, column_values, forward_more}

module _ {rows : List ℕ} {values : List Float} {f w n : ℕ} (b : Block rows values f w n) where
  pub block_rising : Rising rows f
  block_rising =
      record {
        some = omega (arith, b.some, b.wide);
        from = b.own 0 b.some ∙ (let z : f + 0 ≡ f = omega arith in z);
        rise = b.rise;
      }

  module _ (r : is_run rows f ≡ true) where
    -- four columns from c, as they are lent
    module _ (c : ℕ) (h : c + 4 ≤ w) (u₀ u₁ u₂ u₃ : List Float)
        (e₀ : u₀ ≡ column_of (length rows) values c) (e₁ : u₁ ≡ column_of (length rows) values (c + 1))
        (e₂ : u₂ ≡ column_of (length rows) values (c + 2)) (e₃ : u₃ ≡ column_of (length rows) values (c + 3)) where
      pub four_columns : Four u₀ u₁ u₂ u₃ (f + c) n
      four_columns =
          let a = column_long b c (omega arith) u₀ e₀ in
          let d = column_long b (c + 3) (omega arith) u₃ e₃ in
          record {
            some = omega (arith, d, b.wide);
            third = omega (arith, d, column_long b (c + 2) (omega arith) u₂ e₂, b.wide);
            second = omega (arith, d, column_long b (c + 1) (omega arith) u₁ e₁, b.wide);
            first = omega (arith, d, a, b.wide);
            room = omega (arith, a, b.wide, b.some, run_at rows f r (length rows - 1) (omega (arith, b.some, b.wide)), b.low (length rows - 1) (omega (arith, b.some, b.wide)));
          }

      module _ (S : Shape) (K : ℕ) (v : List Float) (s : Supernode S K v rows values f w) where
        -- one of them, by the rule of columns
        one_run : (x : List Float) (k : ℕ) (u : List Float) → k < w → u ≡ column_of (length rows) values k → column x (f + k) u ≡ forward_at S v x (f + k)
        unfolding column forward_at
        one_run x k u l e =
            let y : Float = div binary64 (get_or x (f + k) +0) (get_or u 0 +0) in
            let s₁ : f + k + 1 ≡ f + (k + 1) = omega arith in
            let s₂ : length u - 1 ≡ length rows - (k + 1) = omega (arith, column_long b k l u e) in
            rw (← column_values b k l u e S K v s, ← column_rows b k l u e S K v s)
            (ap (λ z. less_below (set x (f + k) y) y z (drop 1 u))
            (ap (λ a. rising a (length u - 1)) s₁ ∙ run_from rows f r (k + 1) (length u - 1) s₂ ∙ sym (drop-drop 1 k rows) ∙ ap (drop 1) (sym (tail_lent k rows))))

        next : (z x : List Float) (k j a : ℕ) (u : List Float) → k < w → u ≡ column_of (length rows) values k → j ≡ k + 1 → a ≡ f + k → x ≡ forward S v z (f + k) → column x a u ≡ forward S v z (f + j)
        next z x k j a u l e d p g = forward_more S v f z x (column x a u) k g (ap (λ i. column x i u) p ∙ one_run x k u l e) ∙ ap (λ i. forward S v z (f + i)) (sym d)

        pub four_more : (z x y : List Float) → x ≡ forward S v z (f + c) → y ≡ column (column (column (column x (f + c) u₀) (f + c + 1) u₁) (f + c + 2) u₂) (f + c + 3) u₃ → y ≡ forward S v z (f + (c + 4))
        four_more z x y g t =
            let x₁ = column x (f + c) u₀ in
            let x₂ = column x₁ (f + c + 1) u₁ in
            let x₃ = column x₂ (f + c + 2) u₂ in
            let g₁ = next z x c (c + 1) (f + c) u₀ (omega arith) e₀ refl refl g in
            let g₂ = next z x₁ (c + 1) (c + 2) (f + c + 1) u₁ (omega arith) e₁ (omega arith) (omega arith) g₁ in
            let g₃ = next z x₂ (c + 2) (c + 3) (f + c + 2) u₂ (omega arith) e₂ (omega arith) (omega arith) g₂ in
            t ∙ next z x₃ (c + 3) (c + 4) (f + c + 3) u₃ (omega arith) e₃ (omega arith) (omega arith) g₃
