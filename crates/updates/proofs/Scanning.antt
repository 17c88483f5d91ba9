-- A source's runs, spotted one after another: what the words hold after each. Assumes nothing.
use mathlib.Core.Path.{◌≡◌, refl, sym, ap, ◌∙◌}
use mathlib.Core.Logic.{⊎_elim, ◌≢◌}
use mathlib.Core.Bool.{◌&&◌}
use mathlib.Core.List.{List}
use Prim.Native.Nat.{ℕ, suc, ◌+◌, ◌-◌, ◌*◌, ◌≤◌, ◌<◌}
use native.Mathlib.Omega.{arith}
use native.Mathlib.Nat.{eq-or-lt_of_le}
use native.Mathlib.Numerals.{add-one}
use lib.Dec.{T, leb}
use lib.ListN.{length, get_or, set, take, drop, length-drop}
use lib.Seq.{get_or-set_same, get_or-set_other, get_or-drop}
use Rattle.statement.specs.Lists.{tally}
use Rattle.statement.specs.Shape.{Shape, supernodes, height}
use Rattle.statement.specs.Supernodes.{updates_of, updates, shape_of}
use Rattle.statement.specs.Areas.{no_update}
use Rattle.statement.specs.declared.Update.{Update}
use Rattle.laws.proofs.Bools.{split_at}
use Rattle.areas.specs.Buckets.{start, Buckets}
use Rattle.areas.proofs.Buckets.{start_suc, start_rise, buckets_ext, bucket_push}
use Rattle.updates.specs.Scan.{from, hits, met, shaped, RunEnd, Put}
use Rattle.updates.specs.Layout.{places_at, updates_at, owners_at, offsets_at}
use Rattle.updates.specs.Laying.{spotted, written, ToScan, Scanned}
use Rattle.updates.proofs.Made.{Made}
use Rattle.updates.proofs.Scans as Scans
use Rattle.updates.proofs.Grouped.{updates_below, updates_at_lem, updates_start, few_updates}
use Rattle.updates.proofs.Turns.{Place, laid_made, Opens, opens, opens_none, x_in, target, Turn, turn, turned, turn_next, turn_past, turn_more, bit_to}
use Rattle.updates.proofs.Spots.{spot_length, spot_flags, spot_rest, spot_next, spot_other, spot_before, spot_place, spot_low, spot_high, written_same, written_beyond}

-- other words past the first m
buckets_next : {A : Type 0} (z : A) (b : ℕ → List A) {m : ℕ} {c : ℕ → ℕ} {next : List ℕ} {l : List A} → Buckets z b m c next l → (next' : List ℕ) → m ≤ length next' → ((j : ℕ) → j < m → get_or next' j 0 ≡ get_or next j 0)
    → Buckets z b m c next' l
buckets_next z b w next' h e = record { room = h; fits = w.fits; most = w.most; here = λ j k. e j k ∙ w.here j k; is = w.is }

-- i runs of k are spotted, and the scan stands at position p
pub record Scanning (S : Shape) (n k : ℕ) (words₀ words : List ℕ) (p i : ℕ) : Type 0 where
  pub place : Place S k p
  pub few : k + i ≤ place.t
  pub next : (j : ℕ) → j < supernodes S → get_or (drop (places_at n) words) j 0 ≡ start (updates_of S) j + met S k place.t j
  pub inside : (y : ℕ) → y < i → get_or (drop (updates_at n) words) (3 * y) 0 < length (updates S)
  pub put : (us : List Update) → Put S k (drop (places_at n) words₀) us
      → Buckets no_update (updates_of S) (supernodes S) (met S k place.t) (drop (places_at n) words) (written k i (drop (updates_at n) words) us)
  pub same_len : length words ≡ length words₀
  pub flags : take (n + 1) words ≡ take (n + 1) words₀
  pub rest : drop (owners_at n) words ≡ drop (owners_at n) words₀

-- what a turn from p reads and writes, where there is one
pub record Ahead (n : ℕ) (list firsts words : List ℕ) (p e i base : ℕ) : Type 0 where
  pub base_to : base ≤ p
  pub end_to : e ≤ length list
  pub room : offsets_at n ≤ length words
  pub in_words : p < e → owners_at n + get_or list p 0 < length words
  pub in_first : p < e → get_or words (owners_at n + get_or list p 0) 0 + 1 < length firsts
  pub in_places : p < e → get_or words (owners_at n + get_or list p 0) 0 < n
  pub in_spots : p < e → i < n
  pub few : p < e → get_or words (places_at n + get_or words (owners_at n + get_or list p 0) 0) 0 < length list

module _ (n ns : ℕ) (starts rows firsts from' list : List ℕ) (k : ℕ) (words₀ : List ℕ) (u : ToScan n ns starts rows firsts from' list k words₀) where
  abbrev S : Shape
  S = shaped n starts rows

  m : Made (shaped n starts rows)
  m = laid_made u.laid

  kn : k < supernodes (shaped n starts rows)
  kn = omega (arith, u.inside, u.laid.number)

  size : (shaped n starts rows).n ≡ n
  size = unfold shape_of in refl

  pub scanning_begin : Scanning (shaped n starts rows) n k words₀ words₀ (get_or from' k 0 + (get_or firsts (k + 1) 0 - get_or firsts k 0)) 0
  unfolding written
  scanning_begin = record {
    place = (opens n ns starts rows firsts (drop (owners_at n) words₀) from' list u.laid k u.inside).place;
    few = omega (arith, none_yet);
    next = λ j h. rw none_yet (u.next.at j (omega (arith, u.laid.number)) ∙ ap (λ y. start (updates_of S) j + y) (sym (Scans.met_none S m k kn j)));
    inside = λ y h. absurd (omega arith);
    put = λ us w. rw none_yet (buckets_ext no_update (updates_of S) w (met S k k) (λ j h. Scans.met_none S m k kn j));
    same_len = refl;
    flags = refl;
    rest = refl;
  }
    where
      none_yet : (opens n ns starts rows firsts (drop (owners_at n) words₀) from' list u.laid k u.inside).place.t ≡ k
      none_yet = opens_none n ns starts rows firsts (drop (owners_at n) words₀) from' list u.laid k u.inside

  module _ {words : List ℕ} {p i : ℕ} (w : Scanning (shaped n starts rows) n k words₀ words p i) where
    module _ (h : p < get_or from' (k + 1) 0) where
      tn : Turn n ns starts rows firsts (drop (owners_at n) words₀) from' list u.laid k u.inside p w.place h (get_or (drop (owners_at n) words₀) (get_or list p 0) 0)
      tn = turn n ns starts rows firsts (drop (owners_at n) words₀) from' list u.laid k u.inside p w.place h

      xi : w.place.x < height (shaped n starts rows) k
      xi = x_in n ns starts rows firsts (drop (owners_at n) words₀) from' list u.laid k u.inside p w.place h

      abbrev tj : ℕ
      tj = target n ns starts rows firsts (drop (owners_at n) words₀) from' list u.laid k u.inside p w.place h

      -- the owner is read where it stands among the words
      owner_is : get_or words (owners_at n + get_or list p 0) 0 ≡ get_or (drop (owners_at n) words₀) (get_or list p 0) 0
      owner_is = sym (get_or-drop (owners_at n) words (get_or list p 0) 0) ∙ ap (λ l. get_or l (get_or list p 0) 0) w.rest

      tj_is : get_or words (owners_at n + get_or list p 0) 0 ≡ tj
      tj_is = owner_is ∙ tn.is

      tj_in : tj < supernodes (shaped n starts rows)
      tj_in = omega (arith, tn.is, tn.in_nodes, u.laid.number)

      later : w.place.t < tj
      later = Scans.scan_later S m k kn w.place.t w.place.x w.place.scan xi

      tj_small : tj < n
      tj_small = omega (arith, tj_in, m.few, size)

      i_small : i < n
      i_small = omega (arith, w.few, later, tj_small)

      room : offsets_at n ≤ length words
      room = omega (arith, u.room, w.same_len)

      hit : T (hits (shaped n starts rows) k tj)
      hit = Scans.scan_hits S m k kn w.place.t w.place.x w.place.scan xi

      met_one : met (shaped n starts rows) k tj tj ≡ suc (met (shaped n starts rows) k w.place.t tj)
      met_one = Scans.met_same S m k kn w.place.t w.place.x w.place.scan xi

      met_else : (y : ℕ) → y ≢ tj → met (shaped n starts rows) k tj y ≡ met (shaped n starts rows) k w.place.t y
      met_else y ne = Scans.met_other S m k kn w.place.t w.place.x w.place.scan xi y ne

      -- tj has none of k's yet
      none : met (shaped n starts rows) k w.place.t tj ≡ tally (λ y. hits (shaped n starts rows) y tj) k
      none = omega (arith, met_one, bit_to (hits S k tj && leb tj tj))

      more : met (shaped n starts rows) k w.place.t tj < length (updates_of (shaped n starts rows) tj)
      more = omega (arith, none, updates_below S tj k hit)

      place_in : get_or (drop (places_at n) words) tj 0 < length (updates (shaped n starts rows))
      place_in = omega (arith, w.next tj tj_in, more, start_suc no_update (updates_of S) tj, start_rise no_update (updates_of S) (suc tj) (supernodes S) tj_in, updates_start S)

      few : get_or words (places_at n + get_or words (owners_at n + get_or list p 0) 0) 0 < length list
      few = rw tj_is (omega (arith, get_or-drop (places_at n) words tj 0, place_in, few_updates S m, u.laid.list_is.fits))

      module _ {q : ℕ} (e : RunEnd list p (get_or from' (k + 1) 0) (get_or firsts (get_or words (owners_at n + get_or list p 0) 0 + 1) 0) q) where
        e' : RunEnd list p (get_or from' (k + 1) 0) (get_or firsts (get_or (drop (owners_at n) words₀) (get_or list p 0) 0 + 1) 0) q
        e' = rw owner_is at e

        pub scanning_on : p < q
        scanning_on = turn_more n ns starts rows firsts (drop (owners_at n) words₀) from' list u.laid k u.inside p w.place h e'

        base : get_or from' k 0 ≡ get_or (shaped n starts rows).starts k 0
        base = (opens n ns starts rows firsts (drop (owners_at n) words₀) from' list u.laid k u.inside).base

        a_is : p - get_or from' k 0 ≡ from (shaped n starts rows) k tj
        a_is = omega (arith, base, w.place.at, Scans.scan_from S m k kn w.place.t w.place.x w.place.scan xi)

        b_is : q - get_or from' k 0 ≡ from (shaped n starts rows) k (suc tj)
        b_is = omega (arith, base, turned n ns starts rows firsts (drop (owners_at n) words₀) from' list u.laid k u.inside p w.place h e')

        abbrev a : ℕ
        a = p - get_or from' k 0

        abbrev b : ℕ
        b = q - get_or from' k 0

        abbrev after : List ℕ
        after = spotted n tj i a b words

        value : ◌≡◌ {A = Update} (record { supernode = k; p1 = a; p2 = b }) (get_or (updates_of (shaped n starts rows) tj) (met (shaped n starts rows) k w.place.t tj) no_update)
        value = rw (a_is, b_is, none) (sym (updates_at_lem S tj k hit no_update))

        -- what the run puts: the update at its target's next place
        one_more : (us : List Update) → written k (suc i) (drop (updates_at n) after) us ≡ set (written k i (drop (updates_at n) words) us) (get_or (drop (places_at n) words) tj 0) (record { supernode = k; p1 = a; p2 = b })
        unfolding written
        one_more us = rw (
          written_same k i (drop (updates_at n) words) (drop (updates_at n) after) us (spot_before n tj i a b words tj_small i_small room),
          spot_place n tj i a b words tj_small i_small room,
          spot_low n tj i a b words tj_small i_small room,
          spot_high n tj i a b words tj_small i_small room,
        ) refl

        next_is : (j : ℕ) → j < supernodes (shaped n starts rows) → get_or (drop (places_at n) after) j 0 ≡ get_or (set (drop (places_at n) words) tj (get_or (drop (places_at n) words) tj 0 + 1)) j 0
        next_is = split_at {P = λ j. j < supernodes (shaped n starts rows) → get_or (drop (places_at n) after) j 0 ≡ get_or (set (drop (places_at n) words) tj (get_or (drop (places_at n) words) tj 0 + 1)) j 0} tj
            (λ l. spot_next n tj i a b words tj_small i_small room ∙ sym (get_or-set_same (drop (places_at n) words) tj _ 0 (omega (arith, length-drop (places_at n) words, room, tj_small))))
            (λ j ne l. spot_other n tj i a b words tj_small i_small room j (omega (arith, m.few, size)) ne ∙ sym (get_or-set_other (drop (places_at n) words) tj j _ 0 ne))

        more_of : Scanning (shaped n starts rows) n k words₀ after q (suc i)
        more_of = record {
          place = turn_next n ns starts rows firsts (drop (owners_at n) words₀) from' list u.laid k u.inside p w.place h e';
          few = omega (arith, w.few, later, past);
          next = rw past (split_at {P = λ j. j < supernodes (shaped n starts rows) → get_or (drop (places_at n) after) j 0 ≡ start (updates_of (shaped n starts rows)) j + met (shaped n starts rows) k tj j} tj
              (λ l. omega (arith, spot_next n tj i a b words tj_small i_small room, w.next tj l, met_one))
              (λ j ne l. omega (arith, spot_other n tj i a b words tj_small i_small room j (omega (arith, m.few, size)) ne, w.next j l, met_else j ne)));
          inside = λ y l. ⊎_elim
              (λ (z : y ≡ i). rw (z, spot_place n tj i a b words tj_small i_small room) place_in)
              (λ (z : y < i). rw (spot_before n tj i a b words tj_small i_small room (3 * y) (omega arith)) (w.inside y z)) (eq-or-lt_of_le (let z : y ≤ i = omega arith in z));
          put = λ us v. rw (past, one_more us) (buckets_next no_update (updates_of S)
              (bucket_push no_update (updates_of S) (w.put us v) tj tj_in more value (met S k tj) met_one (λ j l ne. met_else j ne))
              (drop (places_at n) after) (omega (arith, length-drop (places_at n) after, spot_length n tj i a b words, room, m.few, size)) next_is);
          same_len = spot_length n tj i a b words ∙ w.same_len;
          flags = spot_flags n tj i a b words tj_small i_small room ∙ w.flags;
          rest = spot_rest n tj i a b words tj_small i_small room ∙ w.rest;
        }
          where
            past : (turn_next n ns starts rows firsts (drop (owners_at n) words₀) from' list u.laid k u.inside p w.place h e').t ≡ tj
            past = turn_past n ns starts rows firsts (drop (owners_at n) words₀) from' list u.laid k u.inside p w.place h e'

        pub scanning_more : {words' : List ℕ} → words' ≡ spotted n (get_or words (owners_at n + get_or list p 0) 0) i (p - get_or from' k 0) (q - get_or from' k 0) words → Scanning (shaped n starts rows) n k words₀ words' q (i + 1)
        scanning_more c = rw (c, tj_is, add-one i) more_of

    pub scanning_ahead : Scanning (shaped n starts rows) n k words₀ words p i × Ahead n list firsts words p (get_or from' (k + 1) 0) i (get_or from' k 0)
    scanning_ahead = (
      w,
      record {
        base_to = omega (arith, o.base, w.place.at);
        end_to = o.past.end;
        room = omega (arith, u.room, w.same_len);
        in_words = λ h. omega (arith, (tn h).in_own, length-drop (owners_at n) words₀, w.same_len, u.room);
        in_first = λ h. omega (arith, owner_is h, (tn h).in_first);
        in_places = λ h. omega (arith, tj_is h, tj_small h);
        in_spots = i_small;
        few = few;
      },
    )
      where
        o : Opens n ns starts rows firsts (drop (owners_at n) words₀) from' list u.laid k u.inside
        o = opens n ns starts rows firsts (drop (owners_at n) words₀) from' list u.laid k u.inside

    pub scanning_over : get_or from' (k + 1) 0 ≤ p → Scanned (shaped n starts rows) n k words₀ words i
    scanning_over h = record {
      few = omega (arith, w.few, w.place.scan.inside, m.few, size);
      inside = w.inside;
      put = λ us v. buckets_ext no_update (updates_of S) (w.put us v) (λ j. tally (λ y. hits S y j) (suc k))
          (λ j l. sym (Scans.scan_over S m k kn w.place.t w.place.x w.place.scan (omega (arith, w.place.at, (opens n ns starts rows firsts (drop (owners_at n) words₀) from' list u.laid k u.inside).next)) j l));
      beyond = λ us. written_beyond k i (drop (updates_at n) words) us (length (updates S)) w.inside;
      flags = w.flags;
      rest = w.rest;
    }
