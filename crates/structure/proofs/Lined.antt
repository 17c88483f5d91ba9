-- The rows of the supernodes, row by row. Assumes nothing.
use mathlib.Core.Path.{◌≡◌, refl, sym, ap, ◌∙◌}
use mathlib.Core.Logic.{◌⊎◌, inl, inr, ⊎_elim, ◌≢◌}
use mathlib.Core.Bool.{Bool, not}
use mathlib.Core.List.{List, ◌++◌}
use Prim.Native.Nat.{ℕ, suc, ◌+◌, ◌≤◌, ◌<◌}
use native.Mathlib.Omega.{arith}
use native.Mathlib.Nat.{le_refl, add-zero}
use native.Mathlib.Decide.{ℕ_discrete}
use lib.Dec.{T, T_not, eqb}
use lib.ListN.{length, get_or, set, drop, length-set}
use lib.Seq.{get_or-set_same, get_or-set_other}
use Rattle.statement.specs.Lists.{bit, tally, joined}
use Rattle.statement.specs.Fill.{parent}
use Rattle.statement.specs.Postorder.{Up, here, step}
use Rattle.laws.proofs.Bools.{split_at, eqb_yes, eqb_no, T_dec}
use Rattle.laws.proofs.Select.{select_length}
use Rattle.laws.proofs.Fill.{parent_above, row}
use Rattle.laws.proofs.Tree.{up_le}
use Rattle.laws.proofs.Ranks.{tally_yes, tally_no, tally_mono, select_of}
use Rattle.areas.specs.Buckets.{Buckets, Beyond}
use Rattle.areas.proofs.Buckets.{buckets_start, buckets_ext, bucket_in, bucket_below, bucket_push, buckets_over, start_suc}
use Rattle.structure.specs.Node.{nodes, owner_of, above, in_row, node_rows, row_start}
use Rattle.structure.specs.Line.{sofar, Line, Lines}
use Rattle.structure.proofs.Node as Node

module _ (p : ℕ → ℕ → Bool) (n : ℕ) where
  pub lines_start : (M next l : List ℕ) → nodes p n ≤ length M → nodes p n ≤ length next → row_start p n (nodes p n) ≤ length l
      → ((j : ℕ) → j < nodes p n → get_or M j 0 ≡ n) → ((j : ℕ) → j < nodes p n → get_or next j 0 ≡ row_start p n j) → Lines p n 0 M next l
  unfolding tally
  lines_start M next l a b d e f = record {
    marks = a;
    lists = buckets_start 0 (node_rows p n) (nodes p n) next l b d f;
    old = λ j k h _ l. let z : get_or M j 0 ≢ k = omega (arith, e j h) in z;
  }

  pub lines_over : {M next l₀ l : List ℕ} → Lines p n n M next l → Beyond (row_start p n (nodes p n)) l₀ l
      → (l ≡ joined (node_rows p n) (nodes p n) ++ drop (row_start p n (nodes p n)) l₀) × ((j : ℕ) → j < nodes p n → get_or next j 0 ≡ row_start p n (suc j))
  lines_over w g = (
    buckets_over 0 (node_rows p n) w.lists (λ j h. sym (select_length (in_row p n j) n)) g,
    λ j h. w.lists.here j h ∙ omega (arith, start_suc 0 (node_rows p n) j, select_length (in_row p n j) n),
  )

  module _ (r : ℕ) (rn : r < n) where
    -- supernode k gains row r
    module _ (k : ℕ) (kn : k < nodes p n) (t : T (in_row p n k r)) (M next l : List ℕ) (w : Buckets 0 (node_rows p n) (nodes p n) (sofar p n r M) next l) (mn : nodes p n ≤ length M) (ne : get_or M k 0 ≢ r) where
      none : sofar p n r M k ≡ tally (in_row p n k) r
      none = rw (eqb_no ne) (add-zero _)

      more : sofar p n r M k < length (node_rows p n k)
      more = omega (arith, none, select_length (in_row p n k) n, tally_yes (in_row p n k) r t, tally_mono (in_row p n k) (suc r) n rn)

      pub gain_below : get_or next k 0 < row_start p n (nodes p n)
      gain_below = bucket_below 0 (node_rows p n) w k kn more

      pub gain_in : get_or next k 0 < length l
      gain_in = bucket_in 0 (node_rows p n) w k kn more

      pub gain : Buckets 0 (node_rows p n) (nodes p n) (sofar p n r (set M k r)) (set next k (get_or next k 0 + 1)) (set l (get_or next k 0) r)
      gain = bucket_push 0 (node_rows p n) w k kn more (sym (ap (λ x. get_or (node_rows p n k) x 0) none ∙ select_of (in_row p n k) n r rn t)) (sofar p n r (set M k r))
          (rw (eqb_yes (get_or-set_same M k r 0 (omega arith))) (omega (arith, none)))
          (λ j h other. ap (λ x. tally (in_row p n j) r + bit (eqb x r)) (get_or-set_other M k j r 0 other))

    module _ (upper : (i k : ℕ) → T (p i k) → i ≤ k) where
      pub line_begin : {M next l : List ℕ} → Lines p n r M next l
          → (get_or next (owner_of p n r) 0 < row_start p n (nodes p n)) × Line p n r 0 (set M (owner_of p n r) r) (set next (owner_of p n r) (get_or next (owner_of p n r) 0 + 1)) (set l (get_or next (owner_of p n r) 0) r)
      line_begin {M} {next} {l} w = (
        gain_below o on t M next l b w.marks ne,
        record {
          marks = simp length-set w.marks;
          lists = gain o on t M next l b w.marks ne;
          old = λ j k h a d. split_at {P = λ j. j < nodes p n → get_or (set M o r) j 0 ≢ k} o
              (λ _. let z : get_or (set M o r) o 0 ≢ k = omega (arith, same) in z)
              (λ j ne h. let z : get_or (set M o r) j 0 ≢ k = λ e. w.old j k h (omega arith) d (sym (get_or-set_other M o j r 0 ne) ∙ e) in z) j h;
          own = same;
          sound = split_at {P = λ j. j < nodes p n → get_or (set M o r) j 0 ≡ r → T (in_row p n j r)} o (λ _ _. t)
              (λ j ne h e. absurd (w.old j r h (le_refl r) rn (sym (get_or-set_other M o j r 0 ne) ∙ e)));
          closed = λ j h e ne. absurd (w.old j r h (le_refl r) rn (sym (get_or-set_other M o j r 0 ne) ∙ e));
        },
      )
        where
          o : ℕ
          o = owner_of p n r

          on : o < nodes p n
          on = Node.owner_in p n upper r rn

          t : T (in_row p n o r)
          t = Node.row_own p n upper r rn

          ne : get_or M o 0 ≢ r
          ne = w.old o r on (le_refl r) rn

          same : get_or (set M o r) o 0 ≡ r
          same = get_or-set_same M o r 0 (omega (arith, on, w.marks))

          b : Buckets 0 (node_rows p n) (nodes p n) (sofar p n r M) next l
          b = buckets_ext 0 (node_rows p n) w.lists (sofar p n r M) (λ j h. rw (eqb_no (w.old j r h (le_refl r) rn)) (add-zero _))

      module _ {at : ℕ} {M next l : List ℕ} (w : Line p n r at M next l) where
        pub line_in : at < nodes p n → T (in_row p n at r) → get_or M at 0 ≢ r → get_or next at 0 < row_start p n (nodes p n)
        line_in an t ne = gain_below at an t M next l w.lists w.marks ne

        pub line_step : at < nodes p n → T (in_row p n at r) → get_or M at 0 ≢ r → Line p n r (above p n at) (set M at r) (set next at (get_or next at 0 + 1)) (set l (get_or next at 0) r)
        line_step an t ne = record {
          marks = simp length-set w.marks;
          lists = gain at an t M next l w.lists w.marks ne;
          old = λ j k h a d. split_at {P = λ j. j < nodes p n → get_or (set M at r) j 0 ≢ k} at
              (λ _. let z : get_or (set M at r) at 0 ≢ k = omega (arith, same) in z)
              (λ j ne h. let z : get_or (set M at r) j 0 ≢ k = λ e. w.old j k h a d (sym (get_or-set_other M at j r 0 ne) ∙ e) in z) j h;
          own = keep (owner_of p n r) w.own;
          sound = split_at {P = λ j. j < nodes p n → get_or (set M at r) j 0 ≡ r → T (in_row p n j r)} at (λ _ _. t)
              (λ j ne h e. w.sound j h (sym (get_or-set_other M at j r 0 ne) ∙ e));
          closed = split_at {P = λ j. j < nodes p n → get_or (set M at r) j 0 ≡ r → j ≢ owner_of p n r → (get_or (set M at r) (above p n j) 0 ≡ r) ⊎ (above p n j ≡ above p n at)} at
              (λ _ _ _. inr refl)
              (λ j ne h e o. inl (⊎_elim (λ (x : get_or M (above p n j) 0 ≡ r). keep (above p n j) x) (λ (x : above p n j ≡ at). rw x same) (w.closed j h (sym (get_or-set_other M at j r 0 ne) ∙ e) o)));
        }
          where
            same : get_or (set M at r) at 0 ≡ r
            same = get_or-set_same M at r 0 (omega (arith, w.marks))

            keep : (j : ℕ) → get_or M j 0 ≡ r → get_or (set M at r) j 0 ≡ r
            keep = split_at {P = λ j. get_or M j 0 ≡ r → get_or (set M at r) j 0 ≡ r} at (λ _. same) (λ j ne e. get_or-set_other M at j r 0 ne ∙ e)

        -- the walk is over
        pub line_over : get_or M at 0 ≡ r → Line p n r 0 M next l
        line_over m = record {
          marks = w.marks;
          lists = w.lists;
          old = w.old;
          own = w.own;
          sound = w.sound;
          closed = λ j h e o. inl (⊎_elim (λ (x : get_or M (above p n j) 0 ≡ r). x) (λ (x : above p n j ≡ at). rw x m) (w.closed j h e o));
        }

      module _ {M next l : List ℕ} (w : Line p n r 0 M next l) where
        closed' : (j : ℕ) → j < nodes p n → get_or M j 0 ≡ r → j ≢ owner_of p n r → get_or M (above p n j) 0 ≡ r
        closed' j h e o = ⊎_elim (λ x. x) (λ (x : above p n j ≡ 0). absurd (omega (arith, Node.above_more p n upper j h))) (w.closed j h e o)

        pub line_to : (at : ℕ) → Line p n r at M next l
        line_to at = record { marks = w.marks; lists = w.lists; old = w.old; own = w.own; sound = w.sound; closed = λ j h e o. inl (closed' j h e o) }

        -- a walk up the columns goes from marked supernode to marked supernode
        climb : {a j : ℕ} → Up (parent p n) a j → j < n → get_or M (owner_of p n a) 0 ≡ r → owner_of p n j ≤ owner_of p n r → get_or M (owner_of p n j) 0 ≡ r
        climb here jn e l = e
        climb (step {j = a} {i = j} u) jn e l = go (Node.owner_next p n upper a an) (ℕ_discrete (owner_of p n a) (owner_of p n r)) (climb u jn)
          where
            to : parent p n a ≤ j
            to = up_le (parent p n) (parent_above p n) u

            an : a < n
            an = omega (arith, to, parent_above p n a)

            go : (owner_of p n (parent p n a) ≡ owner_of p n a) ⊎ (above p n (owner_of p n a) ≡ owner_of p n (parent p n a)) → Dec (owner_of p n a ≡ owner_of p n r)
                → (get_or M (owner_of p n (parent p n a)) 0 ≡ r → owner_of p n j ≤ owner_of p n r → get_or M (owner_of p n j) 0 ≡ r) → get_or M (owner_of p n j) 0 ≡ r
            go (inl q) _ f = f (rw q e) l
            go (inr q) (yes z) _ = absurd (omega (arith, Node.above_more p n upper (owner_of p n a) (Node.owner_in p n upper a an), Node.owner_rise p n upper (parent p n a) j to))
            go (inr q) (no ne) f = f (rw (← q) (closed' (owner_of p n a) (Node.owner_in p n upper a an) e ne)) l

        -- the row is over once each stored entry's supernode is marked
        pub line_end : ((c : ℕ) → T (p c r) → get_or M (owner_of p n c) 0 ≡ r) → Lines p n (suc r) M next l
        line_end hit = record {
          marks = w.marks;
          lists = buckets_ext 0 (node_rows p n) w.lists (λ j. tally (in_row p n j) (suc r)) (λ j h. ⊎_elim
              (λ (t : T (in_row p n j r)). tally_yes (in_row p n j) r t ∙ sym (rw (eqb_yes (all j h t)) (omega arith)))
              (λ (t : T (not (in_row p n j r))). tally_no (in_row p n j) r t ∙ sym (rw (eqb_no (λ (e : get_or M j 0 ≡ r). T_not (in_row p n j r) t (w.sound j h e))) (add-zero _)))
              (T_dec (in_row p n j r)));
          old = λ j k h a d. w.old j k h a d;
        }
          where
            all : (j : ℕ) → j < nodes p n → T (in_row p n j r) → get_or M j 0 ≡ r
            all j h t = go (ℕ_discrete j (owner_of p n r))
              where
                go : Dec (j ≡ owner_of p n r) → get_or M j 0 ≡ r
                go (yes e) = rw e w.own
                go (no ne) =
                    let l = Node.last_less p n upper j r h rn t ne in
                    let a = row p n upper (Node.row_last p n upper j r h rn t ne) l rn in
                    let o = Node.last_owner p n upper j r h rn t ne in
                    rw o at (climb a.3 (omega arith) (hit a.0 a.1) (rw o (Node.row_owner p n upper j r h rn t)))
