-- The columns of a supernode, and the supernodes, one more at a time. Assumes nothing.
use mathlib.Core.Path.{◌≡◌, refl, sym, ap, ap₂, ◌∙◌}
use mathlib.Core.List.{List}
use Prim.Native.Nat.{ℕ, suc, ◌+◌, ◌-◌, ◌<◌, ◌≤◌}
use native.Mathlib.Omega.{arith}
use native.Mathlib.Numerals.{add-one}
use lib.Dec.{T, eqb, leb, ltb, eqb→eq, ltb→lt}
use lib.ListN.{length, get_or, take, drop, length-drop}
use lib.Seq.{get_or-drop, drop-drop}
use lib.Ieee.{Float}
use Rattle.statement.specs.Lists.{every}
use Rattle.statement.specs.Shape.{Shape, supernodes, first, width, rows_of, trapezoid, offset}
use Rattle.statement.specs.Solve.{good_supernode, rows_in, start_in, values_in, forward_at, forward, backward_at, backward}
use Rattle.laws.proofs.Bools.{and_both}
use Rattle.laws.proofs.Every.{every_at}
use Rattle.laws.proofs.Columns.{rows_in_lem, start_in_lem}
use Rattle.laws.proofs.Walked.{Whole, whole}
use Rattle.areas.proofs.Tail.{tail_lent}
use Rattle.panel.specs.View.{column_of, Within}
use Rattle.panel.proofs.Cells.{within, column_length}
use Rattle.solving.specs.Walk.{Column, Block, Walked, Supernode}
use Rattle.solving.proofs.Rules.{rest_long}

-- ---- columns

-- column c of w: its rows, and its values u
module _ {rows : List ℕ} {values : List Float} {f w n : ℕ} (b : Block rows values f w n) (c : ℕ) (h : c < w) where
  pub column_within : Within (length rows) values c
  column_within = within (length rows) values c w h b.wide b.few b.room

  up : (c i : ℕ) → c + suc i ≡ suc (c + i)
  up c i = omega arith

  own_long : length (drop c rows) ≡ length rows - c
  own_long = length-drop c rows

  module _ (u : List Float) (e : u ≡ column_of (length rows) values c) where
    pub column_long : length u ≡ length rows - c
    column_long = ap length e ∙ column_length column_within

    pub one_column : Column (take (length rows - c) (drop c rows)) u (f + c) n
    one_column =
        rw (tail_lent c rows) (record {
          rising =
              record {
                some = omega (arith, own_long, b.wide);
                from = get_or-drop c rows 0 0 ∙ ap (λ i. get_or rows i 0) (let z : c + 0 ≡ c = omega arith in z) ∙ b.own c h;
                rise = λ i l. rw (get_or-drop c rows i 0, get_or-drop c rows (suc i) 0) (omega (arith, b.rise (c + i) (omega (arith, own_long)), ap (λ z. get_or rows z 0) (up c i)));
              };
          long = own_long ∙ sym column_long;
          inside = omega (arith, b.cols);
          low = λ i l. rw (get_or-drop c rows i 0) (b.low (c + i) (omega (arith, own_long)));
        })

    module _ (S : Shape) (K : ℕ) (v : List Float) (s : Supernode S K v rows values f w) where
      pub column_rows : take (length rows - c) (drop c rows) ≡ rows_in S (f + c)
      column_rows = tail_lent c rows ∙ ap (drop c) s.own ∙ sym (rows_in_lem S s.rise K c s.one (omega (arith, s.wide))) ∙ ap (λ z. rows_in S (z + c)) (sym s.from)

      starts_at : start_in S (f + c) ≡ offset S K + trapezoid (length rows) c
      starts_at =
          ap (λ z. start_in S (z + c)) s.from
          ∙ start_in_lem S s.rise K c s.one (omega (arith, s.wide))
          ∙ ap (λ l. offset S K + trapezoid (length l) c) (sym s.own)

      pub column_values : u ≡ values_in S v (f + c)
      unfolding values_in
      column_values =
          e
          ∙ ap (λ l. column_of (length rows) l c) s.at
          ∙ ap (take (length rows - c)) (drop-drop (trapezoid (length rows) c) (offset S K) v)
          ∙ ap₂ (λ a z. take a (drop z v)) (sym own_long ∙ ap length (sym (tail_lent c rows) ∙ column_rows)) (sym starts_at)

module _ (S : Shape) (v : List Float) (f : ℕ) where
  pub forward_more : (z x y : List Float) (c : ℕ) → x ≡ forward S v z (f + c) → y ≡ forward_at S v x (f + c) → y ≡ forward S v z (f + (c + 1))
  unfolding forward
  forward_more z x y c g h = let e : f + (c + 1) ≡ suc (f + c) = omega arith in rw e (h ∙ ap (λ t. forward_at S v t (f + c)) g)

  pub backward_less : (x y : List Float) (c d : ℕ) → c ≡ d + 1 → y ≡ backward_at S v x (f + d) → backward S v x (f + c) ≡ backward S v y (f + d)
  unfolding backward
  backward_less x y c d k h = let e : f + c ≡ suc (f + d) = omega arith in rw e (ap (λ t. backward S v t (f + d)) (sym h))

-- ---- supernodes

-- what number 11's test tells of the rows
module _ (S : Shape) (K : ℕ) (h : T (good_supernode S K)) where
  abbrev l : List ℕ
  l = rows_of S K

  tests : T (every (λ x. ltb (get_or l x 0) (get_or l (suc x) 0)) (length l - 1)) × T (every (λ c. eqb (get_or l c 0) (first S K + c)) (width S K))
  unfolding good_supernode
  tests =
      let a = and_both (every (λ x. ltb (get_or l x 0) (get_or l (suc x) 0)) (length l - 1)) _ h in
      let b = and_both (leb (width S K) (length l)) _ a.1 in
      (a.0, (and_both (every (λ c. eqb (get_or l c 0) (first S K + c)) (width S K)) _ b.1).0)

  rows_rise : (x : ℕ) → suc x < length l → get_or l x 0 < get_or l (suc x) 0
  rows_rise x k = ltb→lt (get_or l x 0) (get_or l (suc x) 0) (every_at (λ x. ltb (get_or l x 0) (get_or l (suc x) 0)) (length l - 1) tests.0 x (omega arith))

  rows_own : (c : ℕ) → c < width S K → get_or l c 0 ≡ first S K + c
  rows_own c k = eqb→eq (get_or l c 0) (first S K + c) (every_at (λ c. eqb (get_or l c 0) (first S K + c)) (width S K) tests.1 c k)

module _ (S : Shape) (walked : Walked S) (k : ℕ) (h : k < supernodes S) where
  abbrev own : List ℕ
  own = take (get_or S.starts (k + 1) 0 - get_or S.starts k 0) (drop (get_or S.starts k 0) S.rows)

  abbrev wide : ℕ
  wide = first S (k + 1) - first S k

  u : Whole S k
  u = whole S walked.walk k h

  same_wide : wide ≡ width S k
  same_wide = ap (λ z. first S z - first S k) (add-one k)

  tall : length own ≡ get_or S.starts (k + 1) 0 - get_or S.starts k 0
  tall = ap length u.node.part ∙ u.node.tall

  pub next_at : offset S (suc k) ≡ offset S k + trapezoid (get_or S.starts (k + 1) 0 - get_or S.starts k 0) wide
  next_at = sym (ap (offset S) (add-one k)) ∙ u.node.next

  -- its values, lent to the end
  module _ (values : List Float) (off : ℕ) (e : off ≡ offset S k) where
    abbrev lent : List Float
    lent = take (length values - off) (drop off values)

    pub block_of : offset S (suc k) ≤ length values → S.n ≤ 32768 → Block own lent (first S k) wide S.n
    block_of room few = record {
      some = omega (arith, u.node.right);
      wide = omega (arith, tall, u.wide);
      few = omega (arith, tall, u.few);
      room = omega (arith, ap (λ m. trapezoid m wide) tall, next_at, rest_long off values);
      cols = omega (arith, u.node.cols, u.node.right);
      own = λ c l. rw u.node.part (rows_own S k (walked.good k h) c (omega (arith, same_wide)));
      rise = λ i l. rw u.node.part (rows_rise S k (walked.good k h) i (omega (arith, ap length u.node.part)));
      low = λ i l. rw u.node.part (u.low i (omega (arith, ap length u.node.part)));
    }

    supernode_of : Supernode S k values own lent (first S k) wide
    supernode_of = record {
      rise = walked.walk.framed.rise;
      one = h;
      own = u.node.part;
      at = tail_lent off values ∙ ap (λ o. drop o values) e;
      from = refl;
      wide = same_wide;
    }

    columns_past : first S k + wide ≡ first S (suc k)
    columns_past = (let z : first S k + wide ≡ first S (k + 1) = omega (arith, u.node.right) in z) ∙ ap (first S) (add-one k)

    module _ (x y : List Float) where
      pub forward_done : ((T : Shape) (K : ℕ) (v z : List Float) → Supernode T K v own lent (first S k) wide → x ≡ forward T v z (first S k) → y ≡ forward T v z (first S k + wide))
          → (z : List Float) → x ≡ forward S values z (first S k) → y ≡ forward S values z (first S (suc k))
      forward_done d z g = d S k values z supernode_of g ∙ ap (forward S values z) columns_past

      pub backward_done : ((T : Shape) (K : ℕ) (v : List Float) → Supernode T K v own lent (first S k) wide → backward T v x (first S k + wide) ≡ backward T v y (first S k))
          → backward S values x (first S (suc k)) ≡ backward S values y (first S k)
      backward_done d = ap (backward S values x) (sym columns_past) ∙ d S k values supernode_of
