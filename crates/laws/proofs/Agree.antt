-- The step reads first columns, rows, earlier stretches and entries of A on and below the diagonal, and nothing else. Assumes nothing.
use mathlib.Core.Path.{◌≡◌, refl, sym, ap, ap₂, ◌∙◌}
use mathlib.Core.Bool.{true}
use mathlib.Core.List.{List, [], ◌∷◌, map}
use Prim.Native.Nat.{ℕ, zero, suc, ◌+◌, ◌-◌, ◌≤◌, ◌<◌}
use native.Mathlib.Omega.{arith}
use native.Mathlib.Decide.{dec_lt}
use lib.ListN.{length, get_or, drop, length-drop, get_or-eq_default}
use lib.Seq.{get_or-drop}
use lib.Ieee.{Float, nan, binary64, div}
use Rattle.statement.specs.Shape.{Shape, supernodes, parent_of, first, width, height, rows_of, trapezoid, size, offset, stretch, put, zeros}
use Rattle.statement.specs.Lists.{has, place}
use Rattle.statement.specs.Root.{root}
use Rattle.statement.specs.Rules.{Out, made, broke, and_then, look, earlier, within, entry, pivot_column, extend, grow, step}
use Rattle.statement.specs.Run.{State, Fate, done, failed, skipped, blocked, fate_of, settle, fate, run}
use Rattle.laws.specs.Built.{Built}
use Rattle.laws.proofs.Local.{cond_and}
use Rattle.laws.proofs.Entry.{place_lt, get_d_place}
use Rattle.laws.proofs.Order.{has_same, has_more}
use Rattle.laws.proofs.Built.{first_mono}

-- two structures with the same first columns and rows, up to the supernode J
pub record Alike (S T : Shape) (J : ℕ) : Type 0 where
  pub firsts : (K : ℕ) → K ≤ suc J → first S K ≡ first T K
  pub rows : (K : ℕ) → K ≤ J → rows_of S K ≡ rows_of T K

pub alike_self : (S : Shape) (J : ℕ) → Alike S S J
alike_self S J = record { firsts = λ K h. refl; rows = λ K h. refl }

module _ (S T : Shape) (J : ℕ) (a : Alike S T J) where
  pub width_agree : (K : ℕ) → K ≤ J → width S K ≡ width T K
  width_agree K h = rw (a.firsts K (omega arith), a.firsts (suc K) (omega arith))

  pub size_agree : (K : ℕ) → K ≤ J → size S K ≡ size T K
  unfolding size
  size_agree K h = rw (width_agree K h, a.rows K h)

  pub offset_agree : (K : ℕ) → K ≤ suc J → offset S K ≡ offset T K
  unfolding offset
  offset_agree zero h = refl
  offset_agree (suc K) h = rw (offset_agree K (omega arith), size_agree K (omega arith))

  pub stretch_agree : (v : List Float) (K : ℕ) → K ≤ J → stretch S v K ≡ stretch T v K
  unfolding stretch
  stretch_agree v K h = rw (size_agree K h, offset_agree K (omega arith))

  pub put_agree : (v : List Float) (s : List Float) → put S v J s ≡ put T v J s
  unfolding put
  put_agree v s = rw (offset_agree J (omega arith), offset_agree (suc J) (omega arith))

  pub zeros_agree : zeros S J ≡ zeros T J
  unfolding zeros
  zeros_agree = rw (size_agree J (omega arith))

  look_agree : (K : ℕ) → K ≤ J → look S K ≡ look T K
  unfolding look
  look_agree K h =
      let by : List ℕ → List Float → ℕ → ℕ → Float = λ r s i c. get_or s (trapezoid (length r) c + (place i r - c)) nan in
      ap by (a.rows K h)

  module _ (A B : ℕ → ℕ → Float) (v u : List Float)
      (same : (K j : ℕ) → K < J → first S J ≤ j → j < first S (suc J) → has j (rows_of S K) ≡ true → stretch S v K ≡ stretch T u K) where
    pub earlier_agree : (i j : ℕ) (x : Float) → first S J ≤ j → j < first S (suc J) → (K : ℕ) → K ≤ J → earlier S A v i j x K ≡ earlier T B u i j x K
    unfolding earlier
    earlier_agree i j x lo hi zero h = refl
    earlier_agree i j x lo hi (suc K) h =
        let ih = earlier_agree i j x lo hi K (omega arith) in
        rw
        (← width_agree K (omega arith), ← a.rows K (omega arith), ← look_agree K (omega arith))
        (cond_and (has i (rows_of S K)) (has j (rows_of S K)) ih (λ e. cc (ih, same K j (omega arith) lo hi e)))

    -- the entries of A that are read: on the diagonal, and in the rows below it
    module _ (diag : (c : ℕ) → c < width S J → A (first S J + c) (first S J + c) ≡ B (first S J + c) (first S J + c))
        (below : (c i : ℕ) → c < width S J → has i (drop (suc c) (rows_of S J)) ≡ true → A i (first S J + c) ≡ B i (first S J + c)) where
      entry_agree : (own : List Float) (i c : ℕ) → c < width S J → A i (first S J + c) ≡ B i (first S J + c) → entry S A v own J i c ≡ entry T B u own J i c
      unfolding entry within
      entry_agree own i c h e =
          rw (← a.firsts J (omega arith), ← look_agree J (omega arith), ← earlier_agree i (first S J + c) (B i (first S J + c)) (omega arith) (omega arith) J (omega arith), e)

      map_agree : (own : List Float) (c : ℕ) (r : Float) → c < width S J → (l : List ℕ) → ((i : ℕ) → has i l ≡ true → A i (first S J + c) ≡ B i (first S J + c)) →
          map (λ i. div binary64 (entry S A v own J i c) r) l ≡ map (λ i. div binary64 (entry T B u own J i c) r) l
      map_agree own c r h [] e = refl
      map_agree own c r h (i ∷ l) e = cc (entry_agree own i c h (e i (has_same i l)), map_agree own c r h l (λ k m. e k (has_more k i l m)))

      extend_agree : (own : List Float) (c : ℕ) → c < width S J → extend S A v J c own ≡ extend T B u J c own
      unfolding extend pivot_column
      extend_agree own c h =
          rw (
            ← a.firsts J (omega arith),
            ← a.rows J (omega arith),
            entry_agree own (first S J + c) c h (diag c h),
            diag c h,
            map_agree own c (root (entry T B u own J (first S J + c) c)) h (drop (suc c) (rows_of S J)) (λ i m. below c i h m),
          )

      then_agree : (c : ℕ) → c < width S J → (o : Out) → and_then o (extend S A v J c) ≡ and_then o (extend T B u J c)
      unfolding and_then
      then_agree c h (made s) = extend_agree s c h
      then_agree c h (broke j) = refl

      grow_agree : (c : ℕ) → c ≤ width S J → grow S A v J c ≡ grow T B u J c
      unfolding grow
      grow_agree zero h = refl
      grow_agree (suc c) h = ap (λ o. and_then o (extend S A v J c)) (grow_agree c (omega arith)) ∙ then_agree c h (grow T B u J c)

      pub step_agree : step S A v J ≡ step T B u J
      unfolding step
      step_agree = grow_agree (width S J) (omega arith) ∙ ap (grow T B u J) (width_agree J (omega arith))

-- two matrices that agree on and below the diagonal
module _ (S : Shape) (b : Built S) (A B : ℕ → ℕ → Float) (e : (i j : ℕ) → i < S.n → j ≤ i → A i j ≡ B i j) where
  -- past the last supernode there are no columns
  none : (J : ℕ) → supernodes S ≤ J → width S J ≡ 0
  none J h = omega (arith, get_or-eq_default S.firsts 0 {n = suc J} (omega arith))

  module _ (J : ℕ) (h : J < supernodes S) where
    to : first S (suc J) ≤ S.n
    to = omega (arith, first_mono S b (suc J) (supernodes S) h (omega arith), b.ends)

    -- a row past position c is past column c
    later : (c i : ℕ) → c < width S J → has i (drop (suc c) (rows_of S J)) ≡ true → (first S J + c < i) × (i < S.n)
    later c i w m =
        let p : ℕ = place i (drop (suc c) (rows_of S J)) in
        let lt : suc c + p < height S J = omega (arith, place_lt i (drop (suc c) (rows_of S J)) m, length-drop (suc c) (rows_of S J)) in
        let is : get_or (rows_of S J) (suc c + p) 0 ≡ i = sym (get_or-drop (suc c) (rows_of S J) p 0) ∙ get_d_place i (drop (suc c) (rows_of S J)) 0 m in
        (omega (arith, is, b.own J c h w, b.sorted J c (suc c + p) h (omega arith) lt), omega (arith, is, b.below J (suc c + p) h lt))

  pub step_entries : (v : List Float) (J : ℕ) → step S A v J ≡ step S B v J
  step_entries v J = go (dec_lt J (supernodes S))
    where
      go : Dec (J < supernodes S) → step S A v J ≡ step S B v J
      go (yes h) =
          step_agree S S J (alike_self S J) A B v v (λ K j k lo hi m. refl) (λ c w. e (first S J + c) (first S J + c) (omega (arith, to J h)) (omega arith))
          (λ c i w m. let l = later J h c i w m in e i (first S J + c) l.1 (omega (arith, l.0)))
      go (no h) =
          let w = none J (omega arith) in
          step_agree S S J (alike_self S J) A B v v (λ K j k lo hi m. refl) (λ c k. absurd (omega (arith, w))) (λ c i k m. absurd (omega (arith, w)))

  pub run_entries : (s : State) (l : List ℕ) → run S A s l ≡ run S B s l
  unfolding run fate
  run_entries s [] = refl
  run_entries s (J ∷ l) =
      ap (λ o. run S A (settle S s J (fate_of (blocked S s.halted J J) o)) l) (step_entries s.values J) ∙ run_entries (settle S s J (fate S B s J)) l

-- two structures with the same first columns, rows and parents below N
module _ (S T : Shape) (N : ℕ) (a : (J : ℕ) → J < N → Alike S T J) (parents : (K : ℕ) → K < N → parent_of S K ≡ parent_of T K) where
  blocked_agree : (h : List ℕ) (J K : ℕ) → K ≤ N → blocked S h J K ≡ blocked T h J K
  unfolding blocked
  blocked_agree h J zero k = refl
  blocked_agree h J (suc K) k = rw (blocked_agree h J K (omega arith), parents K k)

  settle_agree : (s : State) (J : ℕ) → J < N → (f : Fate) → settle S s J f ≡ settle T s J f
  unfolding settle
  settle_agree s J k (done x) = rw (put_agree S T J (a J k) s.values x)
  settle_agree s J k (failed c) = rw (zeros_agree S T J (a J k), put_agree S T J (a J k) s.values (zeros T J))
  settle_agree s J k skipped = refl

  pub run_agree : (A : ℕ → ℕ → Float) (s : State) (l : List ℕ) → ((p : ℕ) → p < length l → get_or l p 0 < N) → run S A s l ≡ run T A s l
  unfolding run fate
  run_agree A s [] h = refl
  run_agree A s (J ∷ l) h =
      let k = h 0 (omega arith) in
      ap (λ z. run S A z l) (
      settle_agree s J k (fate S A s J) ∙
      ap (settle T s J) (ap₂ fate_of (blocked_agree s.halted J J (omega arith)) (step_agree S T J (a J k) A A s.values s.values (λ K j q lo hi m. stretch_agree S T J (a J k) s.values K (omega arith)) (λ c w. refl) (λ c i w m. refl)))
      ) ∙
      run_agree A (settle T s J (fate T A s J)) l (λ p q. h (suc p) (omega arith))
