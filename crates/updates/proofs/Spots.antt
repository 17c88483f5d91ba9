-- The words that one run writes, and the updates that are written from them. Assumes nothing.
use mathlib.Core.Path.{◌≡◌, refl, ap, ◌∙◌}
use mathlib.Core.Logic.{◌≢◌}
use mathlib.Core.List.{List}
use Prim.Native.Nat.{ℕ, zero, suc, ◌+◌, ◌*◌, ◌≤◌, ◌<◌}
use native.Mathlib.Omega.{arith}
use lib.ListN.{length, get_or, set, take, drop, length-set}
use lib.Seq.{get_or-set_same, get_or-set_other, take-set-le, drop-set-lt, get_or-drop}
use Rattle.statement.specs.declared.Update.{Update}
use Rattle.areas.specs.Buckets.{Beyond}
use Rattle.areas.proofs.Buckets.{beyond_same, beyond_set, beyond_by}
use Rattle.updates.specs.Layout.{places_at, updates_at, owners_at, offsets_at}
use Rattle.updates.specs.Laying.{spotted, written}

module _ (n j i a b : ℕ) (words : List ℕ) where
  pub spot_length : length (spotted n j i a b words) ≡ length words
  spot_length = simp length-set refl

  module _ (jn : j < n) (il : i < n) (room : offsets_at n ≤ length words) where
    abbrev place : ℕ
    place = get_or words (places_at n + j) 0

    abbrev at' : ℕ
    at' = updates_at n + 3 * i

    abbrev l1 : List ℕ
    l1 = set words (places_at n + j) (place + 1)

    abbrev l2 : List ℕ
    l2 = set l1 at' place

    abbrev l3 : List ℕ
    l3 = set l2 (at' + 1) a

    len1 : length l1 ≡ length words
    len1 = length-set words _ _

    len2 : length l2 ≡ length words
    len2 = length-set l1 _ _ ∙ len1

    len3 : length l3 ≡ length words
    len3 = length-set l2 _ _ ∙ len2

    pub spot_flags : take (n + 1) (spotted n j i a b words) ≡ take (n + 1) words
    spot_flags = take-set-le (n + 1) l3 (at' + 2) b (omega arith) ∙ take-set-le (n + 1) l2 (at' + 1) a (omega arith) ∙ take-set-le (n + 1) l1 at' place (omega arith) ∙ take-set-le (n + 1) words (places_at n + j) (place + 1) (omega arith)

    pub spot_rest : drop (owners_at n) (spotted n j i a b words) ≡ drop (owners_at n) words
    spot_rest = drop-set-lt (owners_at n) l3 (at' + 2) b (omega arith) ∙ drop-set-lt (owners_at n) l2 (at' + 1) a (omega arith) ∙ drop-set-lt (owners_at n) l1 at' place (omega arith) ∙ drop-set-lt (owners_at n) words (places_at n + j) (place + 1) (omega arith)

    -- before the run's three words
    early : (y : ℕ) → y < updates_at n + 3 * i → get_or (spotted n j i a b words) y 0 ≡ get_or (set words (places_at n + j) (get_or words (places_at n + j) 0 + 1)) y 0
    early y h = get_or-set_other l3 (at' + 2) y b 0 (let z : y ≢ at' + 2 = omega arith in z)
        ∙ get_or-set_other l2 (at' + 1) y a 0 (let z : y ≢ at' + 1 = omega arith in z)
        ∙ get_or-set_other l1 at' y place 0 (let z : y ≢ at' = omega arith in z)

    pub spot_next : get_or (drop (places_at n) (spotted n j i a b words)) j 0 ≡ get_or (drop (places_at n) words) j 0 + 1
    spot_next = get_or-drop (places_at n) (spotted n j i a b words) j 0 ∙ early (places_at n + j) (omega arith) ∙ get_or-set_same words (places_at n + j) (place + 1) 0 (omega arith) ∙ omega (arith, get_or-drop (places_at n) words j 0)

    pub spot_other : (y : ℕ) → y < n → y ≢ j → get_or (drop (places_at n) (spotted n j i a b words)) y 0 ≡ get_or (drop (places_at n) words) y 0
    spot_other y h ne = get_or-drop (places_at n) (spotted n j i a b words) y 0 ∙ early (places_at n + y) (omega arith)
        ∙ get_or-set_other words (places_at n + j) (places_at n + y) (place + 1) 0 (let z : places_at n + y ≢ places_at n + j = omega (arith, ne) in z) ∙ omega (arith, get_or-drop (places_at n) words y 0)

    -- the runs before
    pub spot_before : (y : ℕ) → y < 3 * i → get_or (drop (updates_at n) (spotted n j i a b words)) y 0 ≡ get_or (drop (updates_at n) words) y 0
    spot_before y h = get_or-drop (updates_at n) (spotted n j i a b words) y 0 ∙ early (updates_at n + y) (omega arith)
        ∙ get_or-set_other words (places_at n + j) (updates_at n + y) (place + 1) 0 (let z : updates_at n + y ≢ places_at n + j = omega arith in z) ∙ omega (arith, get_or-drop (updates_at n) words y 0)

    pub spot_place : get_or (drop (updates_at n) (spotted n j i a b words)) (3 * i) 0 ≡ get_or (drop (places_at n) words) j 0
    spot_place = get_or-drop (updates_at n) (spotted n j i a b words) (3 * i) 0
        ∙ get_or-set_other l3 (at' + 2) at' b 0 (let z : at' ≢ at' + 2 = omega arith in z)
        ∙ get_or-set_other l2 (at' + 1) at' a 0 (let z : at' ≢ at' + 1 = omega arith in z)
        ∙ get_or-set_same l1 at' place 0 (omega (arith, len1)) ∙ omega (arith, get_or-drop (places_at n) words j 0)

    pub spot_low : get_or (drop (updates_at n) (spotted n j i a b words)) (3 * i + 1) 0 ≡ a
    spot_low = get_or-drop (updates_at n) (spotted n j i a b words) (3 * i + 1) 0 ∙ ap (λ y. get_or (spotted n j i a b words) y 0) (let z : updates_at n + (3 * i + 1) ≡ at' + 1 = omega arith in z)
        ∙ get_or-set_other l3 (at' + 2) (at' + 1) b 0 (let z : at' + 1 ≢ at' + 2 = omega arith in z)
        ∙ get_or-set_same l2 (at' + 1) a 0 (omega (arith, len2))

    pub spot_high : get_or (drop (updates_at n) (spotted n j i a b words)) (3 * i + 2) 0 ≡ b
    spot_high = get_or-drop (updates_at n) (spotted n j i a b words) (3 * i + 2) 0 ∙ ap (λ y. get_or (spotted n j i a b words) y 0) (let z : updates_at n + (3 * i + 2) ≡ at' + 2 = omega arith in z)
        ∙ get_or-set_same l3 (at' + 2) b 0 (omega (arith, len3))

-- ---- written

-- the spots of the first i are enough
pub written_same : (k i : ℕ) (s s' : List ℕ) (us : List Update) → ((y : ℕ) → y < 3 * i → get_or s' y 0 ≡ get_or s y 0) → written k i s' us ≡ written k i s us
unfolding written
written_same k zero s s' us e = refl
written_same k (suc i) s s' us e = rw (written_same k i s s' us (λ y h. e y (omega arith)), e (3 * i) (omega arith), e (3 * i + 1) (omega arith), e (3 * i + 2) (omega arith)) refl

pub written_beyond : (k i : ℕ) (s : List ℕ) (us : List Update) (m : ℕ) → ((y : ℕ) → y < i → get_or s (3 * y) 0 < m) → Beyond m us (written k i s us)
unfolding written
written_beyond k zero s us m e = beyond_same m us
written_beyond k (suc i) s us m e = beyond_by m (written_beyond k i s us m (λ y h. e y (omega arith))) (beyond_set m _ _ _ (e i (omega arith)))
