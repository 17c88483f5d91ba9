-- The two passes over all supernodes: from what the areas hold to what is answered. Assumes nothing.
use mathlib.Core.Path.{◌≡◌, refl, sym, ap, ◌∙◌}
use mathlib.Core.List.{List, ◌++◌}
use Prim.Native.Nat.{ℕ, suc, ◌≤◌, ◌<◌}
use native.Mathlib.Omega.{arith}
use native.Mathlib.Nat.{le_refl}
use lib.ListN.{length, get_or, drop, replicate, length-append, length-replicate, get_or-replicate, get_or-append}
use Rattle.statement.specs.Lists.{list, sum, tally}
use Rattle.statement.specs.Shape.{Shape, supernodes}
use Rattle.statement.specs.Supernodes.{updates_of, updates, update_starts, shape_of}
use Rattle.statement.specs.Areas.{no_update}
use Rattle.statement.specs.declared.Update.{Update}
use Rattle.laws.proofs.Ranks.{list_at}
use Rattle.laws.proofs.Sum.{sum_ext}
use Rattle.laws.proofs.Tally.{count_to}
use Rattle.areas.specs.Buckets.{start, Holds, Beyond}
use Rattle.areas.proofs.Lists.{list_ext}
use Rattle.areas.proofs.Buckets.{buckets_start, buckets_over, start_sum, holds_of}
use Rattle.updates.specs.Scan.{hits, shaped, Laid, Counted, Put}
use Rattle.updates.proofs.Grouped.{updates_length, updates_joined, updates_start}
use Rattle.updates.proofs.Turns.{laid_made}

module _ (S : Shape) (ns : ℕ) (q : ns ≡ supernodes S) where
  -- ---- counted

  pub counted_begin : (d l : List ℕ) → ns ≤ length d → l ≡ replicate ns 0 ++ drop ns d → Counted S 0 l
  unfolding tally
  counted_begin d l h e = record {
    room = rw (e, length-append, length-replicate) (omega arith);
    is = λ j k. ap (λ x. get_or x j 0) e ∙ get_or-append (replicate ns 0) (drop ns d) 0 j (rw length-replicate (omega arith)) ∙ get_or-replicate ns j 0 0 (omega arith);
  }

  pub counted_over : {k : ℕ} {l : List ℕ} → Counted S k l → k ≤ ns → ns ≤ k → Holds (λ J. length (updates_of S J)) ns l
  counted_over {k} w a b = record {
    fits = omega (arith, w.room);
    at = λ j h. w.is j (omega arith) ∙ sym (updates_length S j k (omega arith));
  }

  -- the sums of the counts
  pub starts_are : (counts d l : List ℕ) → Holds (λ J. length (updates_of S J)) ns counts → l ≡ list (sum (λ j. get_or counts j 0)) (suc ns) ++ drop (suc ns) d → l ≡ update_starts S ++ drop (suc ns) d
  unfolding update_starts
  starts_are counts d l w e = e ∙ ap (λ x. x ++ drop (suc ns) d)
      (list_ext _ _ (suc ns) (λ k h. sum_ext _ _ k (λ j a. w.at j (omega arith)) ∙ sym (start_sum (updates_of S) k)) ∙ ap (λ x. list (start (updates_of S)) (suc x)) q)

  -- what the update starts hold
  pub starts_hold : (d l : List ℕ) → l ≡ update_starts S ++ d → Holds (start (updates_of S)) (suc ns) l
  unfolding update_starts
  starts_hold d l e = holds_of _ (suc ns) l d (rw q e)

  pub last_start : (d l : List ℕ) → l ≡ update_starts S ++ d → get_or l ns 0 ≡ length (updates S)
  last_start d l e = (starts_hold d l e).at ns (le_refl (suc ns)) ∙ ap (start (updates_of S)) q ∙ updates_start S

  -- ---- put

  pub put_begin : (next : List ℕ) (l : List Update) → Holds (λ J. get_or (update_starts S) J 0) ns next → length (updates S) ≤ length l → Put S 0 next l
  unfolding tally update_starts
  put_begin next l g f = buckets_start no_update (updates_of S) (supernodes S) next l (omega (arith, g.fits)) (omega (arith, updates_start S))
      (λ j k. g.at j (omega arith) ∙ list_at (start (updates_of S)) (suc (supernodes S)) j 0 (omega arith))

  pub put_over : {k : ℕ} {next : List ℕ} {l₀ l : List Update} → Put S k next l → Beyond (length (updates S)) l₀ l → k ≤ ns → ns ≤ k → l ≡ updates S ++ drop (length (updates S)) l₀
  put_over {k} w b x y = rw (updates_joined S) (buckets_over no_update (updates_of S) w (λ j h. sym (updates_length S j k (omega arith))) (rw (updates_joined S) at b))

-- counts are small
pub counts_small : {n ns : ℕ} {starts rows firsts own from list : List ℕ} → Laid n ns starts rows firsts own from list → (counts : List ℕ) → Holds (λ J. length (updates_of (shaped n starts rows) J)) ns counts
    → (ns ≤ 32768) × ((j : ℕ) → j < ns → get_or counts j 0 ≤ 32768)
counts_small {n} {ns} {starts} {rows} g counts w = (most, λ j h. omega (arith, w.at j h, updates_length S j j (le_refl j), count_to (λ I. hits S I j) j, most))
  where
    S : Shape
    S = shaped n starts rows

    size : (shaped n starts rows).n ≡ n
    size = unfold shape_of in refl

    most : ns ≤ 32768
    most = omega (arith, g.number, (laid_made g).few, g.small, size)
