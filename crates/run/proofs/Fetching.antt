-- The updates of a supernode, one after the other among the words. Assumes nothing.
use mathlib.Core.Path.{◌≡◌, refl, sym, ap, ◌∙◌}
use mathlib.Core.List.{List}
use Prim.Native.Nat.{ℕ, suc, ◌+◌, ◌*◌, ◌-◌, ◌≤◌, ◌<◌}
use native.Mathlib.Omega.{arith}
use native.Mathlib.Decide.{ℕ_discrete}
use lib.ListN.{length, get_or, set, take, drop, length-set}
use lib.Seq.{drop-set-lt, take-set-le, get_or-set_same, get_or-set_other, get_or-drop}
use Rattle.statement.specs.Areas.{no_update}
use Rattle.statement.specs.declared.Update.{Update}
use Rattle.updates.specs.Layout.{updates_at, owners_at}
use Rattle.assembly.specs.Ready.{in_words, from}
use Rattle.turn.specs.Turn.{kept_at}
use Rattle.run.specs.Fetch.{Brought}

alike : (x : Update) (a b c : ℕ) → a ≡ x.supernode → b ≡ x.p1 → c ≡ x.p2 → record { supernode = a; p1 = b; p2 = c } ≡ x
alike x a b c e f g = rw (e, f, g) refl

-- the three words at p, and those before
module _ (l : List ℕ) (p a b c : ℕ) (h : p + 3 ≤ length l) where
  abbrev three : List ℕ
  three = set (set (set l p a) (p + 1) b) (p + 2) c

  long₁ : length (set l p a) ≡ length l
  long₁ = length-set l p a

  long₂ : length (set (set l p a) (p + 1) b) ≡ length l
  long₂ = length-set (set l p a) (p + 1) b ∙ long₁

  at_0 : get_or three p 0 ≡ a
  at_0 = get_or-set_other (set (set l p a) (p + 1) b) (p + 2) p c 0 (λ e. omega arith) ∙ get_or-set_other (set l p a) (p + 1) p b 0 (λ e. omega arith) ∙ get_or-set_same l p a 0 (omega arith)

  at_1 : get_or three (p + 1) 0 ≡ b
  at_1 = get_or-set_other (set (set l p a) (p + 1) b) (p + 2) (p + 1) c 0 (λ e. omega arith) ∙ get_or-set_same (set l p a) (p + 1) b 0 (omega (arith, long₁))

  at_2 : get_or three (p + 2) 0 ≡ c
  at_2 = get_or-set_same (set (set l p a) (p + 1) b) (p + 2) c 0 (omega (arith, long₂))

  before : (q : ℕ) → q < p → get_or three q 0 ≡ get_or l q 0
  before q k = get_or-set_other (set (set l p a) (p + 1) b) (p + 2) q c 0 (λ e. omega arith) ∙ get_or-set_other (set l p a) (p + 1) q b 0 (λ e. omega arith) ∙ get_or-set_other l p q a 0 (λ e. omega arith)

  front_of : (m : ℕ) → m ≤ p → take m three ≡ take m l
  front_of m k = take-set-le m (set (set l p a) (p + 1) b) (p + 2) c (omega arith) ∙ take-set-le m (set l p a) (p + 1) b (omega arith) ∙ take-set-le m l p a k

  rest_of : (m : ℕ) → p + 3 ≤ m → drop m three ≡ drop m l
  rest_of m k = drop-set-lt m (set (set l p a) (p + 1) b) (p + 2) c (omega arith) ∙ drop-set-lt m (set l p a) (p + 1) b (omega arith) ∙ drop-set-lt m l p a (omega arith)

-- an update at hand, word by word
word_at : (n u k : ℕ) (l : List ℕ) → get_or (drop (updates_at n) l) (3 * u + k) 0 ≡ get_or l (updates_at n + 3 * u + k) 0
word_at n u k l = get_or-drop (updates_at n) l (3 * u + k) 0 ∙ ap (λ x. get_or l x 0) (let e : updates_at n + (3 * u + k) ≡ updates_at n + 3 * u + k = omega arith in e)

word_0 : (n u : ℕ) (l : List ℕ) → get_or (drop (updates_at n) l) (3 * u) 0 ≡ get_or l (updates_at n + 3 * u) 0
word_0 n u l = get_or-drop (updates_at n) l (3 * u) 0

module _ {lo hi n : ℕ} {us : List Update} {words : List ℕ} (pre : (lo ≤ hi) × (hi ≤ length us) × (hi - lo ≤ n) × (owners_at n ≤ length words)) where
  pub brought_none : (lo ≤ lo) × Brought lo (lo - lo) n us words words
  brought_none = (omega arith, record { got = λ u h. absurd (omega arith); front = refl; rest = refl })

  module _ {i : ℕ} {w : List ℕ} (long : length w ≡ length words) (kept : (lo ≤ i) × Brought lo (i - lo) n us words w) (small : i < hi) where
    pub keeps_asked : (lo ≤ i) × (i - lo < n) × (owners_at n ≤ length w)
    keeps_asked = (kept.0, omega (arith, kept.0, pre.2), omega (arith, pre.3))

    pub brought_more : {x : Update} {w' : List ℕ} → x ≡ get_or us i no_update → w' ≡ kept_at n (i - lo) x w → (lo ≤ suc i) × Brought lo (suc i - lo) n us words w'
    brought_more {x} {w'} e f = (
      omega (arith, kept.0),
      record {
        got = λ u h. rw f (at u h (ℕ_discrete u (i - lo)));
        front = rw f (front_of w p x.supernode x.p1 x.p2 room (updates_at n) (omega arith)) ∙ kept.1.front;
        rest = rw f (rest_of w p x.supernode x.p1 x.p2 room (owners_at n) (omega (arith, kept.0, pre.2))) ∙ kept.1.rest;
      },
    )
      where
        p : ℕ
        p = updates_at n + 3 * (i - lo)

        room : updates_at n + 3 * (i - lo) + 3 ≤ length w
        room = omega (arith, kept.0, pre.2, pre.3)

        here : lo + (i - lo) ≡ i
        here = omega (arith, kept.0)

        v : List ℕ
        v = kept_at n (i - lo) x w

        same : (u k : ℕ) → u < i - lo → k < 3 → get_or v (updates_at n + 3 * u + k) 0 ≡ get_or w (updates_at n + 3 * u + k) 0
        same u k h l = before w p x.supernode x.p1 x.p2 room (updates_at n + 3 * u + k) (omega arith)

        new : in_words (drop (updates_at n) v) (i - lo) ≡ x
        new =
            alike x (get_or (drop (updates_at n) v) (3 * (i - lo)) 0) (get_or (drop (updates_at n) v) (3 * (i - lo) + 1) 0) (get_or (drop (updates_at n) v) (3 * (i - lo) + 2) 0)
            (word_0 n (i - lo) v ∙ at_0 w p x.supernode x.p1 x.p2 room)
            (word_at n (i - lo) 1 v ∙ at_1 w p x.supernode x.p1 x.p2 room)
            (word_at n (i - lo) 2 v ∙ at_2 w p x.supernode x.p1 x.p2 room)

        old : (u : ℕ) → u < i - lo → in_words (drop (updates_at n) v) u ≡ in_words (drop (updates_at n) w) u
        old u h =
            alike (in_words (drop (updates_at n) w) u) (get_or (drop (updates_at n) v) (3 * u) 0) (get_or (drop (updates_at n) v) (3 * u + 1) 0) (get_or (drop (updates_at n) v) (3 * u + 2) 0)
            (word_0 n u v ∙ before w p x.supernode x.p1 x.p2 room (updates_at n + 3 * u) (omega arith) ∙ sym (word_0 n u w))
            (word_at n u 1 v ∙ same u 1 h (omega arith) ∙ sym (word_at n u 1 w))
            (word_at n u 2 v ∙ same u 2 h (omega arith) ∙ sym (word_at n u 2 w))

        at : (u : ℕ) → u < suc i - lo → Dec (u ≡ i - lo) → in_words (drop (updates_at n) v) u ≡ from us lo u
        at u h (yes d) = rw d (new ∙ e ∙ ap (λ k. get_or us k no_update) (sym here))
        at u h (no d) = old u (omega (arith, kept.0)) ∙ kept.1.got u (omega (arith, kept.0))
