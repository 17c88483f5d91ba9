-- The updates as they are written, source by source. Assumes nothing.
use mathlib.Core.Path.{◌≡◌, refl, sym, ap, ap₂, ◌∙◌}
use mathlib.Core.List.{List, [], ◌++◌}
use Prim.Native.Nat.{ℕ, zero, suc, ◌+◌, ◌-◌, ◌*◌, ◌<◌}
use native.Mathlib.Omega.{arith}
use native.Mathlib.Nat.{le_refl}
use lib.ListN.{length, get_or, set, take, drop, replicate}
use lib.Seq.{take_at}
use Rattle.statement.specs.Shape.{Shape, supernodes}
use Rattle.statement.specs.Supernodes.{updates_of, updates}
use Rattle.statement.specs.Areas.{no_update, held}
use Rattle.statement.specs.declared.Update.{Update}
use Rattle.areas.specs.Buckets.{start, Beyond}
use Rattle.areas.proofs.Buckets.{beyond_same, beyond_by, start_suc}
use Rattle.updates.specs.Scan.{shaped, Put}
use Rattle.updates.specs.Layout.{places_at, updates_at, owners_at}
use Rattle.updates.specs.Laying.{said, written, ToLay, Scanned, LaidOut}
use Rattle.updates.proofs.Passes.{put_begin, put_over}
use Rattle.updates.proofs.Grouped.{updates_length, updates_start}
use Rattle.listing.specs.Writing.{last_place, Wrote}

-- ---- one source

pub written_next : (k i : ℕ) (spots : List ℕ) (us : List Update) {p : ℕ} {l l' : List Update} {u : Update} → l ≡ written k i spots us → p ≡ get_or spots (3 * i) 0 → u ≡ said k spots i → l' ≡ set l p u → l' ≡ written k (suc i) spots us
unfolding written
written_next k i spots us e p u s = rw (s, p, u, e) refl

-- ---- all

-- where the last target goes on once all are put
pub put_last : (S : Shape) (n ns : ℕ) (words : List ℕ) {us : List Update} → ns ≡ supernodes S → Put S ns (drop (places_at n) words) us → 0 < ns → last_place ns n words ≡ length (updates S)
put_last S n zero words q w h = absurd (omega arith)
put_last S n (suc J) words q w h =
    w.here J (omega arith) ∙ ap (λ x. start (updates_of S) J + x) (sym (updates_length S J (suc J) (omega arith))) ∙
    sym (start_suc no_update (updates_of S) J) ∙ ap (start (updates_of S)) q ∙ updates_start S

-- the updates by the sources below k stand in their places
pub record Writing (n ns : ℕ) (input_starts input_rows words words' : List ℕ) (us us' : List Update) (k : ℕ) : Type 0 where
  pub none : k ≡ 0 → us' ≡ us
  pub put : 0 < ns → Put (shaped n input_starts input_rows) k (drop (places_at n) words') us'
  pub beyond : Beyond (length (updates (shaped n input_starts input_rows))) us us'
  pub flags : take (n + 1) words' ≡ take (n + 1) words
  pub rest : drop (owners_at n) words' ≡ drop (owners_at n) words

module _ {n ns : ℕ} {starts rows firsts from list words : List ℕ} {us : List Update} (pre : 0 < ns → ToLay n ns starts rows firsts from list words (length us)) where
  pub writing_begin : Writing n ns starts rows words words us us 0
  writing_begin = record {
    none = λ _. refl;
    put = λ h. let w = pre h in put_begin (shaped n starts rows) ns w.laid.number (drop (places_at n) words) us w.next w.fits;
    beyond = beyond_same _ us;
    flags = refl;
    rest = refl;
  }

  pub writing_more : {words' words'' : List ℕ} {us' us'' : List Update} {k c : ℕ} → Writing n ns starts rows words words' us us' k → k < ns → Scanned (shaped n starts rows) n k words' words'' c → us'' ≡ written k c (drop (updates_at n) words'') us' → Writing n ns starts rows words words'' us us'' (suc k)
  writing_more {us'} w h s e = record {
    none = λ z. absurd (omega arith);
    put = λ l. rw e (s.put us' (w.put l));
    beyond = rw e (beyond_by _ w.beyond (s.beyond us'));
    flags = s.flags ∙ w.flags;
    rest = s.rest ∙ w.rest;
  }

  pub writing_over : {words' : List ℕ} {us' : List Update} → Writing n ns starts rows words words' us us' ns → Wrote n ns starts rows words words' us us'
  writing_over w = record {
    none = w.none;
    all = λ h. put_over (shaped n starts rows) ns (pre h).laid.number (w.put h) w.beyond (le_refl ns) (le_refl ns);
    behind = λ h. put_last (shaped n starts rows) n ns _ (pre h).laid.number (w.put h) h;
    flags = w.flags;
    rest = w.rest;
  }

-- ---- laid

-- a part, and behind it none
held_behind : (part d : List Update) {l l' : List Update} (m k : ℕ) → k ≡ length part → l ≡ part ++ d → l' ≡ take k l ++ replicate (m - k) no_update → l' ≡ held m no_update part
unfolding held
held_behind part d {l} m k e f g = g ∙ ap₂ (λ x y. x ++ replicate (m - y) no_update) (ap (take k) f ∙ take_at part d k (sym e)) e

pub laid_out : {n ns : ℕ} {starts rows words words' : List ℕ} {us us' us'' : List Update} {total : ℕ} → Wrote n ns starts rows words words' us us' → total ≡ last_place ns n words'
    → us'' ≡ take total us' ++ replicate (length us - total) no_update → LaidOut n ns starts rows words words' us us''
laid_out {n} {ns} {starts} {rows} {words'} {us} {us'} {total} w place e = record {
  none = λ z. held_behind [] us' (length us) total (place ∙ ap (λ x. last_place x n words') z) refl e ∙ held_none (length us);
  all = λ h. held_behind (updates (shaped n starts rows)) _ (length us) total (place ∙ w.behind h) (w.all h) e;
  flags = w.flags;
  rest = w.rest;
}
  where
    held_none : (m : ℕ) → held m no_update [] ≡ replicate m no_update
    held_none m = unfold held in ap (λ x. replicate x no_update) (let q : m - 0 ≡ m = omega arith in q)
