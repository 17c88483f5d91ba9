-- Demand 2's structure: the least set, its tree, the postorder, the supernodes. Assumes nothing.
use mathlib.Core.Path.{◌≡◌, sym, ap, ◌∙◌, subst}
use mathlib.Core.Logic.{◌↔◌}
use mathlib.Core.Bool.{Bool, true, false, not, ◌&&◌}
use mathlib.Core.List.{List}
use Prim.Native.Nat.{ℕ, suc, ◌-◌, ◌≤◌, ◌<◌}
use native.Mathlib.Omega.{arith}
use native.Mathlib.Decide.{ℕ_discrete}
use lib.Dec.{T, eqb, eqb→eq, T_not}
use lib.ListN.{length}
use Rattle.statement.specs.Lists.{tally}
use Rattle.statement.specs.Fill.{Fill, diag, entry, join, fill, parent, count}
use Rattle.statement.specs.Postorder.{original, permutation, forest}
use Rattle.statement.specs.Supernodes.{joins, begins, owner, shape_of}
use Rattle.statement.specs.Postorder.{Up}
use Rattle.laws.proofs.Bools.{and_both, and_intro, T_true, T_false, eqb_of, eqb_no}
use Rattle.laws.proofs.Fill.{fill_iff, fill→, →fill, parent_above, parent_to, parent_fill, parent_least}
use Rattle.laws.proofs.FactorTree.{numbering}
use Rattle.laws.proofs.Postorder as post
use Rattle.laws.proofs.Ranks.{has_select, select_has, select_sorted}
use Rattle.laws.proofs.Select.{select_length}
use Rattle.laws.proofs.Shapes as shapes
use Rattle.laws.proofs.Tally.{but, count_but, count_none}
use Rattle.promises.specs.Second.{Filled, Parents, Postordered, Supernodal}

least_set : (s : ℕ → ℕ → Bool) (P : ℕ → ℕ → Type 0) → ((j : ℕ) → P j j) → ((i k : ℕ) → T (s i k) → P k i) → ((i j k : ℕ) → k < j → j < i → P i k → P j k → P i j) → {i j : ℕ} → Fill s i j → P i j
least_set s P d e c (diag j) = d j
least_set s P d e c (entry {i} {k} t) = e i k t
least_set s P d e c (join {i} {j} {k} a b f g) = c i j k a b (least_set s P d e c f) (least_set s P d e c g)

module _ (s : ℕ → ℕ → Bool) (n : ℕ) where
  pub filled : Filled s n
  filled = record {
    decides = fill_iff s;
    least = λ P d e c i j f. least_set s P d e c f;
    rows = λ i j. (
      (λ e. let z = select_has (λ i. fill s i j) n i (rw e tt) in (z.0, fill→ s i j z.1)),
      (λ z. T_true _ (has_select (λ i. fill s i j) n i z.0 (→fill s z.1))),
    );
    rise = λ j x y h k. select_sorted (λ i. fill s i j) n x y h (rw (select_length (λ i. fill s i j) n) at k);
    counts = λ j. sym (select_length (λ i. fill s i j) n);
  }

  pub parents : Parents s n
  parents = record {
    above = λ j _. parent_above s n j;
    to = parent_to s n;
    in_set = λ j _ k. parent_fill s n j k;
    none_before = λ i j h k f. absurd (omega (arith, parent_least s n f h));
  }

-- ---- the postorder

module _ (s : ℕ → ℕ → Bool) (n : ℕ) (upper : (i k : ℕ) → T (s i k) → i ≤ k) where
  abbrev par : ℕ → ℕ
  par = parent s n

  abbrev q : List ℕ
  q = permutation s n

  abbrev pos : ℕ → ℕ
  pos = post.pos par n

  abbrev start : ℕ → ℕ
  start = post.start par n

  num : (a : ℕ) → a < n → (original q a < n) × (pos (original q a) ≡ a)
  num a h = let m = numbering s n upper in (m.q_in a h, m.pq a h)

  -- the run of a child lies before the next one's
  sibling : (j k : ℕ) → j < n → k < n → par j ≡ par k → j < k → pos j < pos k
  sibling j k h l e b = omega (
    arith,
    post.start_eq par n (parent_above s n) (parent_to s n) j h,
    post.start_eq par n (parent_above s n) (parent_to s n) k l,
    ap start e,
    ap (λ r. length (forest par j r)) e,
    post.len_hit par j (par k) e,
    post.len_up par (par k) (suc j) k b,
  )

  up_lt : (j : ℕ) → j < n → par j < n → pos j < pos (par j)
  up_lt j h k = (post.run_in par n (parent_above s n) (parent_to s n) j h).1

  runs : (x y z : ℕ) → x < n → y < n → z < n → pos x ≤ pos y → pos y ≤ pos z → Up par x z → Up par y z
  runs x y z hx hy hz a b u = post.run_up par n (parent_above s n) (parent_to s n) y z hy hz (omega (arith, post.up_run par n (parent_above s n) (parent_to s n) u (omega arith))) b

  pub postordered : Postordered s n q
  postordered = record {
    long = unfold permutation in post.length_postorder par n (parent_above s n) (parent_to s n);
    inside = λ a h. (num a h).0;
    once = λ a b h k e. sym (num a h).1 ∙ ap pos e ∙ (num b k).1;
    all = λ j h. let m = numbering s n upper in (pos j, m.p_in j h, m.qp j h);
    parents = λ a b h k e. omega (arith, (num a h).1, (num b k).1, ap pos e, up_lt (original q a) (num a h).0 (omega (arith, e, (num b k).0)));
    siblings = λ a b h k e l. omega (arith, (num a h).1, (num b k).1, sibling (original q a) (original q b) (num a h).0 (num b k).0 e l);
    runs = λ a b c h k l u. runs (original q a) (original q b) (original q c) (num a (omega arith)).0 (num b (omega arith)).0 (num c l).0
        (omega (arith, (num a (omega arith)).1, (num b (omega arith)).1)) (omega (arith, (num b (omega arith)).1, (num c l).1)) u;
  }

-- ---- the supernodes

module _ (p : ℕ → ℕ → Bool) (n : ℕ) (upper : (i k : ℕ) → T (p i k) → i ≤ k) where
  abbrev child : ℕ → ℕ → Bool
  child j c = eqb (parent p n c) (suc j)

  one_child : (j : ℕ) → j < n → parent p n j ≡ suc j → (tally (child j) n ≡ 1) ↔ ((c : ℕ) → c < n → parent p n c ≡ suc j → c ≡ j)
  one_child j h e = (
    (λ t c k f. only c k f (ℕ_discrete c j) t),
    (λ u. count_but (child j) j n h (eqb_of e) ∙ ap suc (count_none (but j (child j)) n (λ c k t. let z = and_both (not (eqb c j)) (child j c) t in T_not (eqb c j) z.0 (eqb_of (u c k (eqb→eq _ _ z.1)))))),
  )
    where
      only : (c : ℕ) → c < n → parent p n c ≡ suc j → Dec (c ≡ j) → tally (child j) n ≡ 1 → c ≡ j
      only c k f (yes q) t = q
      only c k f (no ne) t = absurd (omega (arith, count_but (child j) j n h (eqb_of e), count_but (but j (child j)) c n k (and_intro (not (eqb c j)) (child j c) (rw (eqb_no ne) tt) (eqb_of f))))

  exactly : (j : ℕ) → suc j < n → (joins p n j ≡ true) ↔ ((parent p n j ≡ suc j) × ((c : ℕ) → c < n → parent p n c ≡ suc j → c ≡ j) × (count p n j ≡ suc (count p n (suc j))))
  unfolding joins
  exactly j h = (
    (λ e.
        let t : T (eqb (parent p n j) (suc j) && (eqb (tally (child j) n) 1 && eqb (count p n j) (suc (count p n (suc j))))) = rw e tt in
        let a = and_both (eqb (parent p n j) (suc j)) _ t in
        let b = and_both (eqb (tally (child j) n) 1) _ a.1 in
        let k = eqb→eq _ _ a.0 in
        (k, (one_child j (omega arith) k).0 (eqb→eq _ _ b.0), eqb→eq _ _ b.1)),
    (λ z. T_true _ (and_intro (eqb (parent p n j) (suc j)) _ (eqb_of z.0) (and_intro (eqb (tally (child j) n) 1) _ (eqb_of ((one_child j (omega arith) z.0).1 z.1)) (eqb_of z.2)))),
  )

  starts_at : (K j : ℕ) → K < shapes.N p n upper → suc j ≡ shapes.f p n upper K → T (begins p n (suc j))
  starts_at K j h e = subst (λ x. T (begins p n x)) (sym e) (shapes.first_in p n upper K h).passes

  apart : (K j : ℕ) → K < shapes.N p n upper → suc j ≡ shapes.f p n upper K → joins p n j ≡ false
  unfolding begins
  apart K j h e = T_false (joins p n j) (starts_at K j h e)

  end_owner : (K : ℕ) → K < shapes.N p n upper → owner (shapes.F p n upper) n ≡ shapes.N p n upper
  end_owner K h =
      let e : suc (shapes.N p n upper - 1) ≡ shapes.N p n upper = omega arith in
      omega (arith, shapes.own_most p n upper n, shapes.own_over p n upper n (shapes.N p n upper - 1) (omega arith) (omega (arith, ap (shapes.f p n upper) e ∙ shapes.first_end p n upper)))

  pub supernodal : Supernodal p n (shape_of p n)
  unfolding shape_of
  supernodal = record {
    exactly = exactly;
    from = shapes.first_zero p n upper;
    ends = shapes.first_end p n upper;
    rise = shapes.first_rise p n upper;
    apart = apart;
    together = λ K j h a b. T_true _ (shapes.chain p n upper K j h a b);
    rows = shapes.rows_are p n upper;
    parent_to = λ K h e. shapes.parent_is p n upper K h ∙ ap (owner (shapes.F p n upper)) e ∙ end_owner K h;
    parent_in = λ K h k. rw (shapes.parent_is p n upper K h) (shapes.own_in p n upper _ k, shapes.own_from p n upper _, shapes.own_to p n upper _ (shapes.own_in p n upper _ k));
  }
