-- The run, one turn after the other. Assumes nothing.
use mathlib.Core.Path.{◌≡◌, refl, sym, ap, ◌∙◌, subst}
use mathlib.Core.Bool.{Bool, true, false, ◌&&◌}
use lib.Dec.{eqb}
use mathlib.Core.List.{List, [], ◌∷◌}
use Prim.Native.Nat.{ℕ, zero, suc, ◌+◌, ◌-◌, ◌≤◌, ◌<◌}
use native.Mathlib.Omega.{arith}
use lib.ListN.{length, get_or, take, drop}
use lib.Seq.{get_or-take, get_or-drop}
use lib.Ieee.{Float}
use Rattle.statement.specs.Lists.{has, bit, list}
use Rattle.statement.specs.Shape.{Shape, parent_of}
use Rattle.statement.specs.Run.{blocked, settle, fate, run}
use Rattle.statement.specs.declared.Factored.{Factored}
use Rattle.statement.specs.declared.Update.{Update}
use Rattle.laws.specs.Lent.{laid}
use Rattle.laws.specs.Lower.{lower_value}
use Rattle.laws.proofs.Loops.{run_append}
use Rattle.updates.specs.Layout.{updates_at, owners_at, offsets_at, parents_at, names_at, starts_at, rows_at}
use Rattle.assembly.specs.Ready.{in_words, from, Listed}
use Rattle.step.proofs.Link.{listed_same}
use Rattle.turn.specs.Turn.{count, under, Due, Is, Fetched, Turned}
use Rattle.turn.specs.Run.{fresh, RunReady, RunLeft}
use Rattle.turn.proofs.Turns.{drop_same}
use Rattle.run.specs.Fetch.{Brought}

none : (S : Shape) (J K : ℕ) → blocked S [] J K ≡ false
unfolding blocked has
none S J zero = refl
none S J (suc K) = rw (none S J K) (go (eqb (parent_of S K) J))
  where
    go : (b : Bool) → b && false ≡ false
    go true = refl
    go false = refl

module _ (steps ns n entries : ℕ) (F St R words₀ : List ℕ) (matrix values₀ : List Float) where
  abbrev S : Shape
  S = under n F St R (drop (parents_at n) words₀)

  abbrev A : ℕ → ℕ → Float
  A = lower_value (drop (starts_at n) words₀) (drop (rows_at n) words₀) matrix

  abbrev names : ℕ → ℕ
  names p = get_or words₀ (names_at n + p) 0

  -- after the first p names
  pub record Sofar (words : List ℕ) (values : List Float) (least : Factored) (p : ℕ) : Type 0 where
    pub is : Is S ns (run S A (fresh S (take entries values₀)) (list names p)) (take entries values) least words
    pub rest : drop (owners_at n) words ≡ drop (owners_at n) words₀
    pub wlen : length words ≡ length words₀
    pub vlen : length values ≡ length values₀

  -- the same where there may be no names
  pub record Going (words : List ℕ) (values : List Float) (least : Factored) (p : ℕ) : Type 0 where
    pub idle : p ≡ 0 → (values ≡ values₀) × (least ≡ record { 0 = n })
    pub ran : 0 < steps → Sofar words values least p
    pub past : drop entries values ≡ drop entries values₀

-- what the turns ask, with A's values and the work space apart
pub record Asked (steps ns n entries : ℕ) (F St R groups : List ℕ) (us : List Update) (words : List ℕ) (matrix values : List Float) (wlen : ℕ) : Type 0 where
  pub due : Due n F St R ns groups words matrix entries wlen
  pub updates : (J : ℕ) → J < ns → (Listed (laid n F St R) J (from us (get_or groups J 0)) (count groups J)) × (get_or groups J 0 ≤ get_or groups (suc J) 0) × (get_or groups (suc J) 0 ≤ length us) × (count groups J ≤ n)
  pub most : steps ≤ ns
  pub names : (p : ℕ) → p < steps → get_or words (names_at n + p) 0 < ns
  pub flags : (J : ℕ) → J < ns → get_or words J 0 ≡ 0
  pub room : entries ≤ length values

pub asked : {steps ns n a entries : ℕ} {F St R groups : List ℕ} {us : List Update} {words : List ℕ} {floats matrix values : List Float} {wlen k : ℕ} → matrix ≡ take a floats → k + a ≡ length floats → wlen ≡ k →
    RunReady steps ns n a entries F St R groups us words floats values → Asked steps ns n entries F St R groups us words matrix values wlen
asked {a = a} {floats = floats} {wlen = wlen} {k = k} e l h r = record { due = rw (e, same) r.due; updates = r.updates; most = r.most; names = r.names; flags = r.flags; room = r.room }
  where
    same : wlen ≡ length floats - a
    same = omega arith

module _ {steps ns n entries : ℕ} {F St R groups : List ℕ} {us : List Update} {words₀ : List ℕ} {matrix values₀ : List Float} {wlen : ℕ} (pre : 0 < steps → Asked steps ns n entries F St R groups us words₀ matrix values₀ wlen) where
  -- the structure, A and the names, of the words and floats at the start
  abbrev T : Shape
  T = S steps ns n entries F St R words₀ matrix values₀

  abbrev B : ℕ → ℕ → Float
  B = A steps ns n entries F St R words₀ matrix values₀

  abbrev ord : ℕ → ℕ
  ord = names steps ns n entries F St R words₀ matrix values₀

  pub going_none : Going steps ns n entries F St R words₀ matrix values₀ words₀ values₀ (record { 0 = n }) 0
  unfolding run list
  going_none =
      record {
        idle = λ e. (refl, refl);
        ran = λ h.
            record {
              is = record { held = refl; low = refl; flags = λ J k. (pre h).flags J k ∙ ap bit (sym (none T J ns)) };
              rest = refl;
              wlen = refl;
              vlen = refl;
            };
        past = refl;
      }

  module _ {words : List ℕ} {values : List Float} {least : Factored} {i : ℕ} (kept : Going steps ns n entries F St R words₀ matrix values₀ words values least i) where
    pub ended : {a : ℕ} {floats : List Float} → take a floats ≡ matrix → i ≡ steps → RunLeft steps n a entries F St R words₀ floats values₀ values least
    ended m e =
        record {
          idle = λ h. kept.idle (e ∙ h);
          ran = λ h. rw (m, ← e) (record { held = (kept.ran h).is.held; low = (kept.ran h).is.low });
          rest = kept.past;
        }

    module _ (small : i < steps) where
      ready : Asked steps ns n entries F St R groups us words₀ matrix values₀ wlen
      ready = pre (omega arith)

      so : Sofar steps ns n entries F St R words₀ matrix values₀ words values least i
      so = kept.ran (omega arith)

      t : Due n F St R ns groups words₀ matrix entries wlen
      t = ready.due

      -- from the owners on the words are as they were
      same : (x : ℕ) → owners_at n ≤ x → drop x words ≡ drop x words₀
      same x h = drop_same words₀ words (owners_at n) x h so.rest

      name_is : get_or words (names_at n + i) 0 ≡ ord i
      name_is = sym (get_or-drop (names_at n) words i 0) ∙ ap (λ l. get_or l i 0) (same (names_at n) (omega arith)) ∙ get_or-drop (names_at n) words₀ i 0

      pub name_asked : names_at n + i < length words
      name_asked = omega (arith, so.wlen, (t.at (ord i) (ready.names i small)).inside, ready.most, t.few)

      module _ {j : ℕ} (e : j ≡ get_or words (names_at n + i) 0) where
        named : j ≡ ord i
        named = e ∙ name_is

        known : j < ns
        known = rw named (ready.names i small)

        pub group_asked : suc j < length groups
        group_asked = (t.at j known).grouped

        module _ {lo hi : ℕ} (el : lo ≡ get_or groups j 0) (eh : hi ≡ get_or groups (suc j) 0) where
          pub fetch_asked : (lo ≤ hi) × (hi ≤ length us) × (hi - lo ≤ n) × (owners_at n ≤ length words)
          fetch_asked =
              let u = ready.updates j known in
              (omega (arith, el, eh, u.1), omega (arith, eh, u.2), omega (arith, el, eh, u.3), omega (arith, so.wlen, (t.at j known).inside))

          -- with its updates at hand
          module _ {words' : List ℕ} (b : Brought lo (hi - lo) n us words words') (long : length words' ≡ length words) where
            rest : drop (owners_at n) words' ≡ drop (owners_at n) words₀
            rest = b.rest ∙ so.rest

            same' : (x : ℕ) → owners_at n ≤ x → drop x words' ≡ drop x words₀
            same' x h = drop_same words₀ words' (owners_at n) x h rest

            parent_same : (K : ℕ) → get_or words' (parents_at n + K) 0 ≡ get_or words₀ (parents_at n + K) 0
            parent_same K = sym (get_or-drop (parents_at n) words' K 0) ∙ ap (λ l. get_or l K 0) (same' (parents_at n) (omega arith)) ∙ get_or-drop (parents_at n) words₀ K 0

            flag_same : (J : ℕ) → J < ns → get_or words' J 0 ≡ get_or words J 0
            flag_same J h = sym (get_or-take (updates_at n) words' J 0 (omega (arith, t.few))) ∙ ap (λ l. get_or l J 0) b.front ∙ get_or-take (updates_at n) words J 0 (omega (arith, t.few))

            due : Due n F St R ns groups words' matrix entries wlen
            due =
                record {
                  at = λ J h.
                      let x = t.at J h in
                      record {
                        shape = x.shape;
                        grouped = x.grouped;
                        inside = omega (arith, so.wlen, x.inside);
                        offsets = rw (same' (offsets_at n) (omega arith)) x.offsets;
                        lower = rw (same' (starts_at n) (omega arith), same' (rows_at n) (omega arith)) x.lower;
                        pattern = rw (same' (starts_at n) (omega arith), same' (rows_at n) (omega arith)) x.pattern;
                        values = x.values;
                        work = x.work;
                      };
                  few = t.few;
                  up = λ K h. omega (arith, parent_same K, t.up K h);
                  top = λ K h. omega (arith, parent_same K, t.top K h);
                }

            fetched : Fetched (laid n F St R) j groups words'
            fetched =
                let u = ready.updates j known in
                record {
                  updates = listed_same (laid n F St R) j (from us (get_or groups j 0)) (in_words (drop (updates_at n) words')) (count groups j) (λ k h. got k h) u.0;
                  rise = u.1;
                  fits = u.3;
                }
              where
                got : (k : ℕ) → k < count groups j → in_words (drop (updates_at n) words') k ≡ from us (get_or groups j 0) k
                got k h = rw (← el) (b.got k (omega (arith, el, eh)))

            pub turn_asked : (Due n F St R ns groups words' matrix entries wlen) × (j < ns) × (Fetched (laid n F St R) j groups words') × (entries ≤ length values)
            turn_asked = (due, known, fetched, omega (arith, so.vlen, ready.room))

            -- one more name
            pub one_more : {r : Factored} {words'' : List ℕ} {values'' : List Float} →
                (Turned (under n F St R (drop (parents_at n) words')) (lower_value (drop (starts_at n) words') (drop (rows_at n) words') matrix) ns j least r words' words'' (take entries values) (take entries values'')) × (drop entries values'' ≡ drop entries values) →
                length words'' ≡ length words' → length values'' ≡ length values →
                Going steps ns n entries F St R words₀ matrix values₀ words'' values'' r (suc i)
            one_more {r} {words''} {values''} q l m =
                record {
                  idle = λ z. absurd (omega arith);
                  ran = λ _.
                      record {
                        is = subst (λ z. Is T ns z (take entries values'') r words'') (sym next) (q'.next (run T B (fresh T (take entries values₀)) (list ord i)) at);
                        rest = q'.rest ∙ rest;
                        wlen = l ∙ long ∙ so.wlen;
                        vlen = m ∙ so.vlen;
                      };
                  past = q.1 ∙ kept.past;
                }
              where
                at : Is T ns (run T B (fresh T (take entries values₀)) (list ord i)) (take entries values) least words'
                at = record { held = so.is.held; low = so.is.low; flags = λ J h. flag_same J h ∙ so.is.flags J h }

                q' : Turned T B ns (ord i) least r words' words'' (take entries values) (take entries values'')
                q' = rw (← same' (parents_at n) (omega arith), ← same' (starts_at n) (omega arith), ← same' (rows_at n) (omega arith), ← named) q.0

                next : run T B (fresh T (take entries values₀)) (list ord (suc i)) ≡ settle T (run T B (fresh T (take entries values₀)) (list ord i)) (ord i) (fate T B (run T B (fresh T (take entries values₀)) (list ord i)) (ord i))
                next = unfold list in (run_append T B (fresh T (take entries values₀)) (list ord i) (ord i ∷ []) ∙ unfold run in refl)
