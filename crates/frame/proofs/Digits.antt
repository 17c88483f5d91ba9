-- What hexadecimal digits stand for: byte by byte, by parts, and by a line's frame. Assumes nothing.
use mathlib.Core.Path.{◌≡◌, refl, sym, ap, ◌∙◌}
use mathlib.Core.List.{List, [], ◌∷◌, ◌++◌}
use mathlib.Core.Logic.{◌⊎◌, inl, inr, ⊎_elim, ◌≢◌}
use mathlib.Core.Option.{Option, none, some, none-ne-some}
use Prim.Native.Nat.{ℕ, zero, suc, ◌+◌, ◌*◌, ◌/◌, ◌%◌, ◌^◌, ◌<◌, ◌≤◌}
use native.Mathlib.Nat.{not-suc-le-zero, le_of_suc-le-suc, mod-eq_of_lt, div-div-eq-div-mul, mod-one, div-one, div-add-mod', mul_assoc, mod-lt, mul-add-mod_self_right, lt-div-mul-add, zero-mul, pow-le-pow_right}
use native.Mathlib.Numerals.{add-one}
use native.Mathlib.Omega.{arith}
use borrow.Author.Tests.{ne_eqb}
use lib.ListN.{length, get_or, take, drop, length-drop, take-append-drop}
use lib.Pow.{pow-add}
use Rattle.std.proofs.lemmas.List.{drop-drop}
use lib.Seq.{drop-cons, take-add, length-take-le}
use Rattle.statement.specs.Job.{Frame, hex_value, value_from, frame, frame_of}

-- ---- one byte

hex_small : (b d : ℕ) → hex_value b ≡ some d → d < 16
unfolding hex_value
hex_small b d e = grind arith

-- a byte is a digit below 16, or none
pub hex_cases : (b : ℕ) → (hex_value b ≡ none) ⊎ ((d : ℕ) × (hex_value b ≡ some d) × (d < 16))
hex_cases b = go (hex_value b) refl
  where
    go : (o : Option ℕ) → hex_value b ≡ o → (hex_value b ≡ none) ⊎ ((d : ℕ) × (hex_value b ≡ some d) × (d < 16))
    go none e = inl e
    go (some d) e = inr (d, e, hex_small b d e)

pub same_value : (a b : ℕ) → ◌≡◌ {A = Option ℕ} (some a) (some b) → a ≡ b
same_value a b e = cc

-- ---- one digit more

pub value_digit : (a b d : ℕ) (l : List ℕ) → hex_value b ≡ some d → value_from a (b ∷ l) ≡ value_from (a * 16 + d) l
unfolding value_from
value_digit a b d l e = rw (e, value_from)

pub value_stop : (a b : ℕ) (l : List ℕ) → hex_value b ≡ none → value_from a (b ∷ l) ≡ none
unfolding value_from
value_stop a b l e = rw (e, value_from)

pub value_none : (a i : ℕ) (l : List ℕ) → length l ≤ i → value_from a (drop i l) ≡ some a
unfolding value_from
value_none a zero [] h = refl
value_none a (suc i) [] h = refl
value_none a zero (b ∷ l) h = absurd (not-suc-le-zero h)
value_none a (suc i) (b ∷ l) h = value_none a i l (le_of_suc-le-suc h)

-- whether all are digits does not hang on what stands before
none_any : (a c : ℕ) (l : List ℕ) → value_from a l ≡ none → value_from c l ≡ none
unfolding value_from
none_any a c [] e = absurd (none-ne-some _ (sym e))
none_any a c (b ∷ l) e = ⊎_elim (λ n. value_stop c b l n) (λ w. value_digit c b w.0 l w.1 ∙ none_any (a * 16 + w.0) (c * 16 + w.0) l (sym (value_digit a b w.0 l w.1) ∙ e)) (hex_cases b)

-- ---- by parts

-- what stands before is a
value_above : (a x : ℕ) (l : List ℕ) → value_from a l ≡ some x → x / 16 ^ length l ≡ a
unfolding value_from
value_above a x [] e = let q : a ≡ x = cc in rw (← q) (div-one a)
value_above a x (b ∷ l) e = ⊎_elim (λ n. absurd (none-ne-some _ (sym (value_stop a b l n) ∙ e))) (λ w.
    let i = value_above (a * 16 + w.0) x l (sym (value_digit a b w.0 l w.1) ∙ e) in
    let p = div-div-eq-div-mul x (16 ^ length l) 16 in
    let h = w.2 in
    let d : (a * 16 + w.0) / 16 ≡ a = omega arith in
    let g : 16 ^ length l * 16 ≡ 16 ^ suc (length l) = omega arith in
    ap (λ (t : ℕ). x / t) (sym g) ∙ sym p ∙ ap (λ (t : ℕ). t / 16) i ∙ d) (hex_cases b)

pow_some : (k : ℕ) → 0 < 16 ^ k
pow_some zero = omega arith
pow_some (suc k) = let h = pow_some k in omega arith

-- one digit more, past k digits
mod_more : (a d k : ℕ) → d < 16 → (a * 16 + d) % 16 ^ suc k ≡ a % 16 ^ k * 16 + d
mod_more a d k h =
    let p = 16 ^ k in
    let q = a / p in
    let s = div-add-mod' a p in
    let m = mul_assoc q p 16 in
    let l = mod-lt a (pow_some k) in
    let b : p * 16 ≡ 16 ^ suc k = omega arith in
    let t : a * 16 + d ≡ q * (p * 16) + (a % p * 16 + d) = omega arith in
    ap (λ (z : ℕ). (a * 16 + d) % z) (sym b) ∙ ap (λ (z : ℕ). z % (p * 16)) t ∙ mul-add-mod_self_right q (p * 16) (a % p * 16 + d) ∙ mod-eq_of_lt (omega arith)

-- what the digits alone stand for
value_alone : (k a x : ℕ) (l : List ℕ) → value_from a l ≡ some x → value_from (a % 16 ^ k) l ≡ some (x % 16 ^ (k + length l))
unfolding value_from
value_alone k a x [] e = let q : a ≡ x = cc in rw (← q) (ap (λ (t : ℕ). some (a % 16 ^ t)) (let z : k ≡ k + 0 = omega arith in z))
value_alone k a x (b ∷ l) e = ⊎_elim (λ n. absurd (none-ne-some _ (sym (value_stop a b l n) ∙ e))) (λ w.
    let i = value_alone (suc k) (a * 16 + w.0) x l (sym (value_digit a b w.0 l w.1) ∙ e) in
    let m = mod_more a w.0 k w.2 in
    let s : suc k + length l ≡ k + suc (length l) = omega arith in
    value_digit (a % 16 ^ k) b w.0 l w.1 ∙ ap (λ (t : ℕ). value_from t l) (sym m) ∙ i ∙ ap (λ (t : ℕ). some (x % 16 ^ t)) s) (hex_cases b)

-- the first part stands before the second
value_both : (a x : ℕ) (s t : List ℕ) → value_from a (s ++ t) ≡ some x → (y : ℕ) × (value_from a s ≡ some y) × (value_from y t ≡ some x)
unfolding value_from
value_both a x [] t e = (a, refl, e)
value_both a x (b ∷ s) t e = ⊎_elim (λ n. absurd (none-ne-some _ (sym (value_stop a b (s ++ t) n) ∙ e))) (λ w.
    let i = value_both (a * 16 + w.0) x s t (sym (value_digit a b w.0 (s ++ t) w.1) ∙ e) in
    (i.0, value_digit a b w.0 s w.1 ∙ i.1, i.2)) (hex_cases b)

-- after a first part that stands for y comes the second
some_then : (a y : ℕ) (s t : List ℕ) → value_from a s ≡ some y → value_from a (s ++ t) ≡ value_from y t
unfolding value_from
some_then a y [] t e = ap (λ z. value_from z t) (same_value a y e)
some_then a y (b ∷ s) t e = ⊎_elim (λ n. absurd (none-ne-some _ (sym (value_stop a b s n) ∙ e))) (λ w. value_digit a b w.0 (s ++ t) w.1 ∙ some_then (a * 16 + w.0) y s t (sym (value_digit a b w.0 s w.1) ∙ e)) (hex_cases b)

module _ (l : List ℕ) (a k : ℕ) where
  -- no part of a number is none
  part_none : value_from 0 (take k (drop a l)) ≡ none → value_from 0 l ≡ none
  part_none h = go (value_from 0 l) refl
    where
      go : (o : Option ℕ) → value_from 0 l ≡ o → value_from 0 l ≡ none
      go none e = e
      go (some x) e =
          let f = value_both 0 x (take a l) (drop a l) (ap (value_from 0) (take-append-drop a l) ∙ e) in
          let g = value_both f.0 x (take k (drop a l)) (drop k (drop a l)) (ap (value_from f.0) (take-append-drop k (drop a l)) ∙ f.2) in
          absurd (none-ne-some _ (sym (none_any 0 f.0 (take k (drop a l)) h) ∙ g.1))

  -- where a part is a number and the line from it on is none, the line after it is none
  pub rest_none : (y : ℕ) → some y ≡ value_from 0 (take k (drop a l)) → value_from 0 (drop a l) ≡ none → value_from 0 (drop (a + k) l) ≡ none
  rest_none y h n = ap (value_from 0) (sym (drop-drop k a l)) ∙ none_any y 0 (drop k (drop a l)) (sym (some_then 0 y (take k (drop a l)) (drop k (drop a l)) (sym h)) ∙ ap (value_from 0) (take-append-drop k (drop a l)) ∙ n)

module _ (l : List ℕ) (x : ℕ) (e : value_from 0 l ≡ some x) (a k m : ℕ) (n : a + k + m ≡ length l) where
  -- k digits from place a, m before the end
  pub field_is : value_from 0 (take k (drop a l)) ≡ some (x / 16 ^ m % 16 ^ k)
  field_is =
      let d = length-drop (a + k) l in
      let c : length (drop (a + k) l) ≡ m = omega arith in
      let f = value_both 0 x (take (a + k) l) (drop (a + k) l) (ap (value_from 0) (take-append-drop (a + k) l) ∙ e) in
      let y = value_above f.0 x (drop (a + k) l) f.2 in
      let g = value_both 0 f.0 (take a l) (take k (drop a l)) (ap (value_from 0) (sym (take-add a k l)) ∙ f.1) in
      let v = value_alone 0 g.0 f.0 (take k (drop a l)) g.2 in
      let n2 : k ≤ length (drop a l) = simp length-drop (omega arith) in
      let w : 0 + length (take k (drop a l)) ≡ k = omega (arith, length-take-le k (drop a l) n2) in
      let z : x / 16 ^ m ≡ f.0 = ap (λ (t : ℕ). x / 16 ^ t) (sym c) ∙ y in
      ap (λ (t : ℕ). value_from t (take k (drop a l))) (sym (mod-one g.0)) ∙ v ∙ ap (λ (t : ℕ). some (f.0 % 16 ^ t)) w ∙ ap (λ (t : ℕ). some (t % 16 ^ k)) (sym z)

  pub field_first : a ≡ 0 → x / 16 ^ m % 16 ^ k ≡ x / 16 ^ m
  field_first z =
      let y = value_above 0 x l e in
      let q = pow-add 16 m k in
      let s : length l ≡ m + k = omega arith in
      let d : x / 16 ^ m / 16 ^ k ≡ 0 = div-div-eq-div-mul x (16 ^ m) (16 ^ k) ∙ ap (λ (t : ℕ). x / t) (sym q) ∙ ap (λ (t : ℕ). x / 16 ^ t) (sym s) ∙ y in
      let h = lt-div-mul-add {a = x / 16 ^ m} (pow_some k) in
      let u : x / 16 ^ m / 16 ^ k * 16 ^ k ≡ 0 = ap (λ (t : ℕ). t * 16 ^ k) d ∙ zero-mul (16 ^ k) in
      mod-eq_of_lt (omega arith)

  module _ (y : ℕ) (h : some y ≡ value_from 0 (take k (drop a l))) where
    pub part_is : y ≡ x / 16 ^ m % 16 ^ k
    part_is = same_value _ _ (h ∙ field_is)

    pub first_is : a ≡ 0 → y ≡ x / 16 ^ m
    first_is z = part_is ∙ field_first z

-- ---- one turn of the loop

module _ (s : List ℕ) (i : ℕ) (h : i < length s) where
  pub value_step : (v d : ℕ) → hex_value (get_or s i 0) ≡ some d → value_from v (drop i s) ≡ value_from (v * 16 + d) (drop (i + 1) s)
  value_step v d e = rw (add-one, drop-cons s i 0 h) (value_digit v (get_or s i 0) d (drop (suc i) s) e)

  pub value_ends : (v : ℕ) → hex_value (get_or s i 0) ≡ none → value_from v (drop i s) ≡ none
  value_ends v e = rw (drop-cons s i 0 h) (value_stop v (get_or s i 0) (drop (suc i) s) e)

-- i digits stand for a number below 16 ^ i
pub value_more : (v d i : ℕ) → v < 16 ^ i → d < 16 → v * 16 + d < 16 ^ (i + 1)
value_more v d i h l = rw (add-one i) (let e : 16 ^ suc i ≡ 16 ^ i * 16 = omega arith in omega arith)

pub value_small : (v i : ℕ) → v < 16 ^ i → i < 16 → v < 16 ^ 15
value_small v i h l =
    let q : i ≤ 15 = omega arith in
    let p = pow-le-pow_right {n = 16} (omega arith) q in
    omega arith

-- ---- a line's frame

module _ (l : List ℕ) where
  frame_none : value_from 0 l ≡ none → none ≡ frame_of l
  unfolding frame_of
  frame_none e = rw (e, frame_of)

  -- by the number that the line stands for, if it does for one
  pub frame_by : (k : ℕ) (r : Option Frame) → length l ≡ k → (value_from 0 l ≡ none → none ≡ r) → ((x : ℕ) → value_from 0 l ≡ some x → r ≡ frame k x) → r ≡ frame_of l
  unfolding frame_of
  frame_by k r n e f = go (value_from 0 l) refl
    where
      go : (o : Option ℕ) → value_from 0 l ≡ o → r ≡ frame_of l
      go none h = sym (e h) ∙ frame_none h
      go (some x) h = f x h ∙ ap (λ (m : ℕ). frame m x) (sym n) ∙ rw (h, frame_of)

  -- a part of it stands for no number
  pub part_wrong : (a k : ℕ) → none ≡ value_from 0 (take k (drop a l)) → none ≡ frame_of l
  part_wrong a k h = frame_none (part_none l a k (sym h))

  -- all of it is read, in parts
  pub read_whole : (k : ℕ) → length l ≤ k → value_from 0 (drop k l) ≡ none → ⊥
  read_whole k h e = none-ne-some _ (sym e ∙ value_none 0 k l h)

  -- no line is as long
  pub frame_other : length l ≢ 14 → length l ≢ 26 → length l ≢ 22 → length l ≢ 2 → none ≡ frame_of l
  unfolding frame
  frame_other a b c d = frame_by (length l) none refl (λ _. refl) (λ x _. simp (ne_eqb (length l) 14 a, ne_eqb (length l) 26 b, ne_eqb (length l) 22 c, ne_eqb (length l) 2 d))
