-- From the areas that the analysis leaves to what the step asks, and from the lent structure back to the whole one. Assumes nothing.
use mathlib.Core.Path.{◌≡◌, refl, sym, ap, ◌∙◌, subst}
use mathlib.Core.Bool.{true}
use mathlib.Core.List.{List, ◌++◌}
use Prim.Native.Nat.{ℕ, zero, suc, ◌+◌, ◌-◌, ◌≤◌, ◌<◌}
use native.Mathlib.Omega.{arith}
use native.Mathlib.Decide.{ℕ_discrete, dec_lt}
use lib.ListN.{length, get_or, take, drop, length-append, get_or-append}
use lib.Seq.{get_or-take, get_or-drop, take-append-le}
use lib.Ieee.{Float}
use Rattle.laws.specs.Lent.{laid}
use Rattle.statement.specs.declared.Update.{Update}
use Rattle.statement.specs.Lists.{has, place, joined}
use Rattle.statement.specs.Shape.{Shape, supernodes, first, width, height, parent_of, rows_of}
use Rattle.statement.specs.Supernodes.{below, updates_of, updates, update_starts}
use Rattle.statement.specs.Areas.{no_update}
use Rattle.statement.specs.Rules.{Out, made, broke, step}
use Rattle.laws.specs.Built.{Built}
use Rattle.laws.specs.Lower.{Pattern}
use Rattle.laws.proofs.Entry.{place_lt, get_d_place}
use Rattle.laws.proofs.Built.{first_mono, at_has, at_place}
use Rattle.laws.proofs.Ranks.{list_length, list_at, joined_grows, joined_part}
use Rattle.laws.proofs.Updates.{below_first}
use Rattle.laws.proofs.Listing.{Spans, below_most, low_of, high_of, Each, each_of}
use Rattle.laws.proofs.Agree.{Alike, stretch_agree, put_agree, zeros_agree, step_agree}
use Rattle.assembly.specs.Ready.{row, Rows, from, source, low, high, Listed}
use Rattle.step.specs.Laid.{Laid}
use Rattle.step.specs.Answer.{answer_of, leaves, Stepped}
use Rattle.std.specs.Prelude.{⊤, Result}
use Rattle.statement.specs.declared.Factored.{Factored}

-- updates that are the same below count
pub listed_same : (S : Shape) (J : ℕ) (upd upd' : ℕ → Update) (count : ℕ) → ((u : ℕ) → u < count → upd' u ≡ upd u) → Listed S J upd count → Listed S J upd' count
listed_same S J upd upd' count e t =
    record {
      before = λ u k. rw (from_of u k) (t.before u k);
      rising = λ u v k m. rw (from_of u (omega arith), from_of v m) (t.rising u v k m);
      run = λ u k. rw (from_of u k, low_of_lem u k, high_of_lem u k) (t.run u k);
      past = λ u k. rw (from_of u k, low_of_lem u k) (t.past u k);
      columns = λ u q k. rw (from_of u k, low_of_lem u k, high_of_lem u k) (t.columns u q k);
      only = λ u q k. rw (from_of u k, low_of_lem u k, high_of_lem u k) (t.only u q k);
      nested = λ u q k. rw (from_of u k, low_of_lem u k) (t.nested u q k);
      all = λ K j k lo hi m. let z = t.all K j k lo hi m in (z.0, z.1, from_of z.0 z.1 ∙ z.2);
    }
  where
    from_of : (u : ℕ) → u < count → source upd' u ≡ source upd u
    from_of u k = ap (λ x. x.supernode) (e u k)

    low_of_lem : (u : ℕ) → u < count → low upd' u ≡ low upd u
    low_of_lem u k = ap (λ x. x.p1) (e u k)

    high_of_lem : (u : ℕ) → u < count → high upd' u ≡ high upd u
    high_of_lem u k = ap (λ x. x.p2) (e u k)

-- ---- a structure T that is S up to J

module _ (T S : Shape) (J : ℕ) (a : Alike T S J) where
  pub rows_alike : Built S → Spans S → J < supernodes S → S.n ≤ 32768 → T.n ≡ S.n → suc J < length T.firsts → suc J < length T.starts →
      ((K : ℕ) → K ≤ suc J → get_or T.starts K 0 ≡ get_or S.starts K 0) → length S.rows ≤ length T.rows → Rows T (suc J)
  rows_alike b s h few n ends many at long =
      record {
        few = omega (arith, n);
        rise = λ K k. rw (a.firsts K (omega arith), a.firsts (suc K) (omega arith)) (b.rise K (omega arith));
        tall = λ K k. rw (a.firsts K (omega arith), a.firsts (suc K) (omega arith), a.rows K (omega arith)) (b.tall K (omega arith));
        own = λ K c k. rw (a.firsts K (omega arith), a.firsts (suc K) (omega arith), a.rows K (omega arith)) (b.own K c (omega arith));
        sorted = λ K p q k. rw (a.rows K (omega arith)) (b.sorted K p q (omega arith));
        below = λ K p k. rw (a.rows K (omega arith), n) (b.below K p (omega arith));
        ends = ends;
        many = many;
        ordered = λ K k. omega (arith, at K (omega arith), at (suc K) (omega arith), s.ordered K (omega arith));
        listed = λ K k. omega (arith, at (suc K) (omega arith), s.listed K (omega arith));
      }

  module _ (upd : ℕ → Update) (count : ℕ) (t : Listed S J upd count) where
    -- an update's supernode, as both have it
    rows_at : (u : ℕ) → u < count → rows_of T (source upd u) ≡ rows_of S (source upd u)
    rows_at u k = a.rows (source upd u) (omega (arith, t.before u k))

    pub listed_alike : Listed T J upd count
    listed_alike =
        record {
          before = t.before;
          rising = t.rising;
          run = λ u k. rw (rows_at u k) (t.run u k);
          past = λ u k. rw (a.firsts (source upd u) (omega (arith, t.before u k)), a.firsts (suc (source upd u)) (omega (arith, t.before u k))) (t.past u k);
          columns = λ u q k. rw (rows_at u k, a.firsts J (omega arith), a.firsts (suc J) (omega arith)) (t.columns u q k);
          only = λ u q k. rw (rows_at u k, a.firsts J (omega arith), a.firsts (suc J) (omega arith)) (t.only u q k);
          nested = λ u q k. rw (rows_at u k, a.rows J (omega arith)) (t.nested u q k);
          all = λ K j k. rw (a.firsts J (omega arith), a.firsts (suc J) (omega arith), a.rows K (omega arith)) (t.all K j k);
        }

  pub pattern_alike : (starts rows : List ℕ) → Pattern S J starts rows → Pattern T J starts rows
  pattern_alike starts rows t =
      record {
        among = λ j x. rw (a.firsts J (omega arith), a.firsts (suc J) (omega arith), a.rows J (omega arith)) (t.among j x);
        lower = λ j x. rw (a.firsts J (omega arith), a.firsts (suc J) (omega arith)) (t.lower j x);
        once = λ j x y. rw (a.firsts J (omega arith), a.firsts (suc J) (omega arith)) (t.once j x y);
      }

  leaves_agree : (v : List Float) (o : Out) → leaves T v J o ≡ leaves S v J o
  unfolding leaves
  leaves_agree v (made s) = put_agree T S J a v s
  leaves_agree v (broke c) = rw (zeros_agree T S J a) (put_agree T S J a v _)

  -- what the step leaves at T, at S
  pub stepped_alike : (A : ℕ → ℕ → Float) (old new : List Float) (r : Result ⊤ Factored) → Stepped T A J old new r → Stepped S A J old new r
  stepped_alike A old new r t =
      record {
        answer = t.answer ∙ ap answer_of same;
        values = t.values ∙ leaves_agree old (step T A old J) ∙ ap (leaves S old J) same;
      }
    where
      same : step T A old J ≡ step S A old J
      same = step_agree T S J a A A old old (λ K j k lo hi m. stretch_agree T S J a old K (omega arith)) (λ c w. refl) (λ c i w m. refl)

-- ---- the updates of J

-- K's rows from p1 below p2 are its rows among J's columns, and there are some
pub record Run (S : Shape) (J K p1 p2 : ℕ) : Type 0 where
  pub some : p1 < p2
  pub most : p2 ≤ height S K
  pub below : (q : ℕ) → q < p1 → row S K q < first S J
  pub columns : (q : ℕ) → p1 ≤ q → q < p2 → (first S J ≤ row S K q) × (row S K q < first S (suc J))
  pub above : (q : ℕ) → p2 ≤ q → q < height S K → first S (suc J) ≤ row S K q

module _ (S : Shape) (b : Built S) where
  -- a row past a later supernode's first column lies past K's own
  far : (K i M : ℕ) → K < M → M < supernodes S → first S M ≤ i → has i (rows_of S K) ≡ true → width S K ≤ place i (rows_of S K)
  far K i M h k l m = go (dec_lt (place i (rows_of S K)) (width S K))
    where
      go : Dec (place i (rows_of S K) < width S K) → width S K ≤ place i (rows_of S K)
      go (yes p) = absurd (omega (arith, b.own K (place i (rows_of S K)) (omega arith) p, get_d_place i (rows_of S K) 0 m, first_mono S b (suc K) M h (omega arith)))
      go (no p) = omega arith

  -- rows past J's first column go up with the parents, to J
  module _ (J j i : ℕ) (k : J < supernodes S) (lo : first S J ≤ j) (hi : j < first S (suc J)) (ji : j ≤ i) where
    up_one : (K : ℕ) → K < J → (x : ℕ) → first S J ≤ x → has x (rows_of S K) ≡ true → has x (rows_of S (parent_of S K)) ≡ true
    up_one K h x l m = rw (get_d_place x (rows_of S K) 0 m) at (b.nested K (place x (rows_of S K)) (omega arith) (far K x J h k l m) (place_lt x (rows_of S K) m))

    wide : (K : ℕ) → K < J → has j (rows_of S K) ≡ true → width S K < height S K
    wide K h m = omega (arith, far K j J h k lo m, place_lt j (rows_of S K) m)

    parent_low : (K : ℕ) → K < J → has j (rows_of S K) ≡ true → first S (parent_of S K) ≤ j
    parent_low K h m = go (ℕ_discrete (width S K) (place j (rows_of S K)))
      where
        go : Dec (width S K ≡ place j (rows_of S K)) → first S (parent_of S K) ≤ j
        go (yes e) = omega (arith, b.owns K (omega arith) (wide K h m), ap (λ p. get_or (rows_of S K) p 0) e, get_d_place j (rows_of S K) 0 m)
        go (no ne) =
            omega (
              arith,
              b.owns K (omega arith) (wide K h m),
              b.sorted K (width S K) (place j (rows_of S K)) (omega arith) (omega (arith, far K j J h k lo m)) (place_lt j (rows_of S K) m),
              get_d_place j (rows_of S K) 0 m,
            )

    parent_le : (K : ℕ) → K < J → has j (rows_of S K) ≡ true → parent_of S K ≤ J
    parent_le K h m = go (dec_lt J (parent_of S K))
      where
        go : Dec (J < parent_of S K) → parent_of S K ≤ J
        go (yes p) = absurd (omega (arith, first_mono S b (suc J) (parent_of S K) p (omega (arith, b.inside K (omega arith) (wide K h m))), parent_low K h m))
        go (no p) = omega arith

    climb : (d K : ℕ) → J ≤ K + d → K < J → has j (rows_of S K) ≡ true → has i (rows_of S K) ≡ true → has i (rows_of S J) ≡ true
    climb zero K x h m n = absurd (omega arith)
    climb (suc d) K x h m n =
        go (λ p. climb d (parent_of S K) (omega (arith, b.up K (omega arith))) p (up_one K h j lo m) (up_one K h i (omega arith) n)) (ℕ_discrete (parent_of S K) J)
      where
        go : (parent_of S K < J → has i (rows_of S J) ≡ true) → Dec (parent_of S K ≡ J) → has i (rows_of S J) ≡ true
        go ih (yes e) = subst (λ M. has i (rows_of S M) ≡ true) e (up_one K h i (omega arith) n)
        go ih (no ne) = ih (omega (arith, parent_le K h m))

  -- a list of runs, rising, that names each supernode with a row among J's columns, is what the step asks
  pub listed_of : (J : ℕ) (upd : ℕ → Update) (count : ℕ) → J < supernodes S →
      ((u : ℕ) → u < count → source upd u < J) →
      ((u t : ℕ) → u < t → t < count → source upd u < source upd t) →
      ((u : ℕ) → u < count → Run S J (source upd u) (low upd u) (high upd u)) →
      ((K j : ℕ) → K < J → first S J ≤ j → j < first S (suc J) → has j (rows_of S K) ≡ true → (u : ℕ) × (u < count) × (source upd u ≡ K)) →
      Listed S J upd count
  listed_of J upd count h before rising run all =
      record {
        before = before;
        rising = rising;
        run = λ u z. (omega (arith, (run u z).some), (run u z).most);
        past = λ u z. past u z;
        columns = λ u q z l k. (run u z).columns q l k;
        only = λ u q z q' l k. only u q z q' l k (dec_lt q (low upd u)) (dec_lt q (high upd u));
        nested = λ u q z l k. nest u q z l k;
        all = all;
      }
    where
      in_K : (u : ℕ) → u < count → low upd u < height S (source upd u)
      in_K u z = omega (arith, (run u z).some, (run u z).most)

      kin : (u : ℕ) → u < count → source upd u < supernodes S
      kin u z = omega (arith, before u z)

      past : (u : ℕ) → u < count → width S (source upd u) ≤ low upd u
      past u z =
          omega (
            arith,
            at_place S b (source upd u) (low upd u) (kin u z) (in_K u z),
            far (source upd u) (row S (source upd u) (low upd u)) J (before u z) h ((run u z).columns (low upd u) (omega arith) (run u z).some).0 (at_has S b (source upd u) (low upd u) (kin u z) (in_K u z)),
          )

      only : (u q : ℕ) → u < count → q < height S (source upd u) → first S J ≤ row S (source upd u) q → row S (source upd u) q < first S (suc J) → Dec (q < low upd u) → Dec (q < high upd u) → (low upd u ≤ q) × (q < high upd u)
      only u q z m l k (yes x) d = absurd (omega (arith, (run u z).below q x))
      only u q z m l k (no x) (yes y) = (omega arith, y)
      only u q z m l k (no x) (no y) = absurd (omega (arith, (run u z).above q (omega arith) m))

      nest : (u q : ℕ) → u < count → low upd u ≤ q → q < height S (source upd u) → has (row S (source upd u) q) (rows_of S J) ≡ true
      nest u q z l k =
          let c = (run u z).columns (low upd u) (omega arith) (run u z).some in
          climb J (row S (source upd u) (low upd u)) (row S (source upd u) q) h c.0 c.1 (up (ℕ_discrete (low upd u) q)) J (source upd u) (omega arith) (before u z)
          (at_has S b (source upd u) (low upd u) (kin u z) (in_K u z)) (at_has S b (source upd u) q (kin u z) k)
        where
          up : Dec (low upd u ≡ q) → row S (source upd u) (low upd u) ≤ row S (source upd u) q
          up (yes e) = omega (arith, ap (row S (source upd u)) e)
          up (no e) = omega (arith, b.sorted (source upd u) (low upd u) q (kin u z) (omega arith) k)

-- ---- the areas

module _ (S : Shape) (b : Built S) (s : Spans S) (F St R U : List ℕ) (us : List Update) (l : Laid S F St R U us) (J : ℕ) (h : J < supernodes S) where
  start_at : (K : ℕ) → K ≤ supernodes S → get_or St K 0 ≡ get_or S.starts K 0
  start_at K k = ap (λ x. get_or x K 0) l.starts_are ∙ get_or-append S.starts l.starts_rest 0 K (omega (arith, s.many))

  pub alike : Alike (laid S.n F St R) S J
  unfolding rows_of
  alike =
      record {
        firsts = λ K k. ap (λ x. get_or x K 0) l.firsts_are ∙ get_or-append S.firsts l.firsts_rest 0 K (omega arith);
        rows = λ K k.
            rw (start_at K (omega arith), start_at (suc K) (omega arith), l.rows_are)
            (ap (drop (get_or S.starts K 0)) (take-append-le (get_or S.starts (suc K) 0) S.rows l.rows_rest (s.listed K (omega arith))));
      }

  longer : (x y z : List ℕ) → x ≡ y ++ z → length y ≤ length x
  longer x y z e = omega (arith, ap length e, length-append y z)

  pub rows_of_lem : S.n ≤ 32768 → Rows (laid S.n F St R) (suc J)
  rows_of_lem few =
      rows_alike (laid S.n F St R) S J alike b s h few refl (omega (arith, longer F S.firsts l.firsts_rest l.firsts_are))
      (omega (arith, longer St S.starts l.starts_rest l.starts_are, s.many)) (λ K k. start_at K (omega arith)) (longer R S.rows l.rows_rest l.rows_are)

  -- where J's updates start and end
  abbrev g : ℕ → ℕ
  g K = length (joined (updates_of S) K)

  group_at : (K : ℕ) → K ≤ supernodes S → get_or U K 0 ≡ g K
  unfolding update_starts
  group_at K k = ap (λ x. get_or x K 0) l.groups_are ∙ get_or-append (update_starts S) l.groups_rest 0 K (omega (arith, list_length g (suc (supernodes S)))) ∙ list_at g (suc (supernodes S)) K 0 (omega arith)

  count : g (suc J) ≡ g J + length (updates_of S J)
  unfolding joined
  count = length-append (joined (updates_of S) J) (updates_of S J)

  most : g (suc J) ≤ length (updates S)
  unfolding updates
  most = joined_grows (updates_of S) (suc J) (supernodes S) h

  -- update u of J, on J's list and in the area
  abbrev one : ℕ → Update
  one u = get_or (updates_of S J) u no_update

  one_is : (u : ℕ) → u < length (updates_of S J) → from us (g J) u ≡ one u
  unfolding updates
  one_is u k =
      ap (λ x. get_or x (g J + u) no_update) l.upd_are ∙
      get_or-append (updates S) l.upd_rest no_update (g J + u) (omega (arith, most, count)) ∙
      sym (get_or-take (g (suc J)) (updates S) (g J + u) no_update (omega (arith, count))) ∙
      sym (get_or-drop (g J) (take (g (suc J)) (updates S)) u no_update) ∙
      ap (λ x. get_or x u no_update) (joined_part (updates_of S) J (supernodes S) h)

  -- K's rows among J's columns, by how many are below
  sorted : (K : ℕ) → K < J → (p q : ℕ) → p < q → q < height S K → row S K p < row S K q
  sorted K k p q = b.sorted K p q (omega arith)

  run_at : (K : ℕ) → K < J → low_of S J K < high_of S J K → Run S J K (low_of S J K) (high_of S J K)
  run_at K k some =
      record {
        some = some;
        most = below_most (first S (suc J)) (rows_of S K);
        below = λ q m. (below_first (first S J) (rows_of S K) (sorted K k) q (omega (arith, below_most (first S J) (rows_of S K)))).1 m;
        columns = λ q m n.
            let i : q < height S K = omega (arith, below_most (first S (suc J)) (rows_of S K)) in
            (not-below (first S J) q i m (dec_lt (row S K q) (first S J)), (below_first (first S (suc J)) (rows_of S K) (sorted K k) q i).1 n);
        above = λ q m i. not-below (first S (suc J)) q i m (dec_lt (row S K q) (first S (suc J)));
      }
    where
      not-below : (x q : ℕ) → q < height S K → below x (rows_of S K) ≤ q → Dec (row S K q < x) → x ≤ row S K q
      not-below x q i m (yes d) = absurd (omega (arith, (below_first x (rows_of S K) (sorted K k) q i).0 d))
      not-below x q i m (no d) = omega arith

  some_of : (K j : ℕ) → K < J → first S J ≤ j → j < first S (suc J) → has j (rows_of S K) ≡ true → low_of S J K < high_of S J K
  some_of K j k lo hi m =
      let q : ℕ = place j (rows_of S K) in
      let i = place_lt j (rows_of S K) m in
      let e = get_d_place j (rows_of S K) 0 m in
      let z = (below_first (first S (suc J)) (rows_of S K) (sorted K k) q i).0 (omega (arith, e)) in
      past q i e (dec_lt q (low_of S J K)) z
    where
      past : (q : ℕ) → q < height S K → row S K q ≡ j → Dec (q < low_of S J K) → q < high_of S J K → low_of S J K < high_of S J K
      past q i e (yes d) z = absurd (omega (arith, e, (below_first (first S J) (rows_of S K) (sorted K k) q i).1 d))
      past q i e (no d) z = omega arith

  each : Each S J J (updates_of S J)
  each = each_of S J

  listed_own : Listed S J one (length (updates_of S J))
  listed_own = listed_of S b J one (length (updates_of S J)) h (λ u k. (each.at u k).under) (λ u t m k. each.rising u t m k) run_is (λ K j k lo hi m. each.all K k (some_of K j k lo hi m))
    where
      run_is : (u : ℕ) → u < length (updates_of S J) → Run S J (one u).supernode (one u).p1 (one u).p2
      run_is u k = let a = each.at u k in rw (a.low, a.high) (run_at (one u).supernode a.under (rw (a.low, a.high) at a.some))

  -- at most one update by each earlier supernode
  few_of : length (updates_of S J) ≤ J
  few_of = go (length (updates_of S J)) refl
    where
      least : (u : ℕ) → u < length (updates_of S J) → u ≤ (one u).supernode
      least zero k = omega arith
      least (suc u) k = omega (arith, least u (omega arith), each.rising u (suc u) (omega arith) k)

      go : (m : ℕ) → length (updates_of S J) ≡ m → m ≤ J
      go zero e = omega arith
      go (suc m) e = omega (arith, least m (omega arith), (each.at m (omega arith)).under)

  -- J's updates stand in the area from its group's start to the next's
  pub group_rise : get_or U J 0 ≤ get_or U (suc J) 0
  group_rise = omega (arith, group_at J (omega arith), group_at (suc J) h, count)

  pub group_in : get_or U (suc J) 0 ≤ length us
  group_in = omega (arith, group_at (suc J) h, most, ap length l.upd_are, length-append (updates S) l.upd_rest)

  pub group_few : get_or U (suc J) 0 - get_or U J 0 ≤ J
  group_few = omega (arith, group_at J (omega arith), group_at (suc J) h, count, few_of)

  pub listed_areas : Listed S J (from us (get_or U J 0)) (get_or U (suc J) 0 - get_or U J 0)
  listed_areas = rw (group_at J (omega arith), (let e : get_or U (suc J) 0 - g J ≡ length (updates_of S J) = omega (arith, group_at (suc J) h, count) in e)) (listed_same S J one (from us (g J)) (length (updates_of S J)) one_is listed_own)
