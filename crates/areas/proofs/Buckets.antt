-- Lists that stand one after another and are filled side by side: the law of every bucketed list. Assumes nothing.
use mathlib.Core.Path.{◌≡◌, refl, sym, ap, ap₂, ◌∙◌}
use mathlib.Core.Logic.{⊎_elim, ◌≢◌}
use mathlib.Core.List.{List, ◌++◌, append_assoc}
use Prim.Native.Nat.{ℕ, zero, suc, ◌+◌, ◌≤◌, ◌<◌}
use native.Mathlib.Omega.{arith}
use native.Mathlib.Nat.{le_refl, eq-or-lt_of_le, not-suc-le-zero}
use lib.ListN.{length, get_or, set, take, drop, length-append, length-set, length-drop, take-append-drop, get_or-append}
use lib.Seq.{get_or-set_same, get_or-set_other, drop-set-lt, take-add, length-take-le, get_or-take, get_or-drop, get_or-append-add, ext_get_or}
use Rattle.laws.proofs.Bools.{split_at, lt_or_le}
use Rattle.statement.specs.Lists.{list, joined, sum}
use Rattle.laws.proofs.Ranks.{list_length, list_at, joined_grows}
use Rattle.areas.specs.Buckets.{start, Holds, Buckets, Beyond}

-- what lies beyond
module _ {A : Type 0} (p : ℕ) where
  pub beyond_same : (l : List A) → Beyond p l l
  beyond_same l = record { len = refl; rest = refl }

  pub beyond_set : (l : List A) (i : ℕ) (x : A) → i < p → Beyond p l (set l i x)
  beyond_set l i x h = record { len = length-set l i x; rest = drop-set-lt p l i x h }

  pub beyond_by : {l₀ l l' : List A} → Beyond p l₀ l → Beyond p l l' → Beyond p l₀ l'
  beyond_by a b = record { len = b.len ∙ a.len; rest = b.rest ∙ a.rest }

module _ {A : Type 0} (z : A) (b : ℕ → List A) where
  joined_suc : (k : ℕ) → joined b (suc k) ≡ joined b k ++ b k
  unfolding joined
  joined_suc k = refl

  pub start_suc : (k : ℕ) → start b (suc k) ≡ start b k + length (b k)
  unfolding joined
  start_suc k = length-append (joined b k) (b k)

  pub start_rise : (i j : ℕ) → i ≤ j → start b i ≤ start b j
  start_rise i j h = joined_grows b i j h

  pub buckets_start : (m : ℕ) (next : List ℕ) (l : List A) → m ≤ length next → start b m ≤ length l → ((j : ℕ) → j < m → get_or next j 0 ≡ start b j) → Buckets z b m (λ _. 0) next l
  buckets_start m next l h k e = record { room = h; fits = k; most = λ j _. omega arith; here = λ j a. omega (arith, e j a); is = λ j q _ a. absurd (not-suc-le-zero a) }

  module _ {m : ℕ} {c : ℕ → ℕ} {next : List ℕ} {l : List A} (w : Buckets z b m c next l) where
    pub buckets_ext : (c' : ℕ → ℕ) → ((j : ℕ) → j < m → c' j ≡ c j) → Buckets z b m c' next l
    buckets_ext c' e = record {
      room = w.room;
      fits = w.fits;
      most = λ j h. omega (arith, e j h, w.most j h);
      here = λ j h. omega (arith, e j h, w.here j h);
      is = λ j q h a. w.is j q h (omega (arith, e j h));
    }

    module _ (s : ℕ) (sm : s < m) (more : c s < length (b s)) where
      pub bucket_below : get_or next s 0 < start b m
      bucket_below = omega (arith, w.here s sm, start_suc s, start_rise (suc s) m sm)

      pub bucket_in : get_or next s 0 < length l
      bucket_in = omega (arith, w.here s sm, start_suc s, start_rise (suc s) m sm, w.fits)

      apart : (j q : ℕ) → j < m → q < length (b j) → j ≢ s → start b j + q ≢ get_or next s 0
      apart j q h a ne = ⊎_elim
          (λ (k : j < s). let z : start b j + q ≢ get_or next s 0 = omega (arith, w.here s sm, start_suc j, start_rise (suc j) s k) in z)
          (λ (k : s ≤ j). let z : start b j + q ≢ get_or next s 0 = omega (arith, w.here s sm, start_suc s, start_rise (suc s) j (omega arith)) in z) (lt_or_le j s)

      pub bucket_push : {x : A} → x ≡ get_or (b s) (c s) z → (c' : ℕ → ℕ) → c' s ≡ suc (c s) → ((j : ℕ) → j < m → j ≢ s → c' j ≡ c j)
          → Buckets z b m c' (set next s (get_or next s 0 + 1)) (set l (get_or next s 0) x)
      bucket_push {x} e c' own other = record {
        room = simp length-set w.room;
        fits = simp length-set w.fits;
        most = split_at s (λ h. omega (arith, own)) (λ j ne h. omega (arith, other j h ne, w.most j h));
        here = split_at s
            (λ h. get_or-set_same next s _ 0 (omega (arith, w.room)) ∙ omega (arith, own, w.here s h))
            (λ j ne h. get_or-set_other next s j _ 0 ne ∙ omega (arith, other j h ne, w.here j h));
        is = λ j q. split_at {P = λ j. j < m → q < c' j → get_or (set l (get_or next s 0) x) (start b j + q) z ≡ get_or (b j) q z} s
            (λ h a. at_s q h (omega (arith, own)))
            (λ j ne h a. get_or-set_other l (get_or next s 0) (start b j + q) x z (apart j q h (omega (arith, other j h ne, w.most j h)) ne) ∙ w.is j q h (omega (arith, other j h ne))) j;
      }
        where
          at_s : (q : ℕ) → s < m → q < suc (c s) → get_or (set l (get_or next s 0) x) (start b s + q) z ≡ get_or (b s) q z
          at_s q h a = ⊎_elim
              (λ (k : suc q ≡ suc (c s)). let g : q ≡ c s = omega arith in let p : start b s + c s ≡ get_or next s 0 = sym (w.here s h) in
              rw (g, p) (get_or-set_same l (get_or next s 0) x z bucket_in ∙ e))
              (λ (k : suc q < suc (c s)). get_or-set_other l (get_or next s 0) (start b s + q) x z (let g : start b s + q ≢ get_or next s 0 = omega (arith, w.here s h) in g) ∙ w.is s q h (omega arith))
              (eq-or-lt_of_le a)

    -- every bucket is full
    pub buckets_over : {l₀ : List A} → ((j : ℕ) → j < m → c j ≡ length (b j)) → Beyond (start b m) l₀ l → l ≡ joined b m ++ drop (start b m) l₀
    buckets_over full r = sym (take-append-drop (start b m) l) ∙ ap₂ (λ x y. x ++ y) (front m (le_refl m)) r.rest
      where
        front : (k : ℕ) → k ≤ m → take (start b k) l ≡ joined b k
        front zero h = unfold joined in refl
        front (suc k) h =
            rw (start_suc k) (take-add (start b k) (length (b k)) l ∙ ap₂ (λ x y. x ++ y) (front k (omega arith)) part) ∙ sym (joined_suc k)
          where
            fit : start b k + length (b k) ≤ length l
            fit = omega (arith, start_suc k, start_rise (suc k) m h, w.fits)

            part_len : length (take (length (b k)) (drop (start b k) l)) ≡ length (b k)
            part_len = length-take-le (length (b k)) (drop (start b k) l) (omega (arith, length-drop (start b k) l, fit))

            part : take (length (b k)) (drop (start b k) l) ≡ b k
            part = ext_get_or z _ (b k) part_len (λ i a.
                let i_less : i < length (b k) = omega (arith, part_len) in
                get_or-take (length (b k)) (drop (start b k) l) i z i_less ∙ get_or-drop (start b k) l i z ∙ w.is k i h (omega (arith, full k h)))

-- ---- the elements that an area holds

pub holds_of : (f : ℕ → ℕ) (m : ℕ) (l d : List ℕ) → l ≡ list f m ++ d → Holds f m l
holds_of f m l d e = record {
  fits = rw (e, length-append, list_length) (omega arith);
  at = λ j h. ap (λ x. get_or x j 0) e ∙ get_or-append (list f m) d 0 j (omega (arith, list_length f m)) ∙ list_at f m j 0 h;
}

-- fewer of them
pub holds_less : {f : ℕ → ℕ} {m : ℕ} {l : List ℕ} (k : ℕ) → k ≤ m → Holds f m l → Holds f k l
holds_less k h w = record { fits = omega (arith, w.fits); at = λ j a. w.at j (omega arith) }

pub holds_ext : {f : ℕ → ℕ} (g : ℕ → ℕ) {m : ℕ} {l : List ℕ} → ((j : ℕ) → j < m → f j ≡ g j) → Holds f m l → Holds g m l
holds_ext g e w = record { fits = w.fits; at = λ j a. w.at j a ∙ e j a }

-- ---- the parts that stand one after another

-- where one begins: the lengths of those before
pub start_sum : {A : Type 0} (b : ℕ → List A) (k : ℕ) → start b k ≡ sum (λ j. length (b j)) k
unfolding sum joined
start_sum b zero = refl
start_sum b (suc k) = length-append (joined b k) (b k) ∙ ap (λ x. x + length (b k)) (start_sum b k)

-- an element, by its place in its own part
pub joined_at : {A : Type 0} (z : A) (b : ℕ → List A) (m : ℕ) (rest : List A) (k x : ℕ) → k < m → x < length (b k) → get_or (joined b m ++ rest) (start b k + x) z ≡ get_or (b k) x z
joined_at z b zero rest k x h l = absurd (not-suc-le-zero h)
joined_at z b (suc m) rest k x h l = ⊎_elim
    (λ (e : suc k ≡ suc m). let q : k ≡ m = omega arith in
    rw (joined_suc z b m, append_assoc, q) (get_or-append-add (joined b m) (b m ++ rest) x z ∙ get_or-append (b m) rest z x (rw q at l)))
    (λ (e : suc k < suc m). rw (joined_suc z b m, append_assoc) (joined_at z b m (b m ++ rest) k x (omega arith) l))
    (eq-or-lt_of_le h)
