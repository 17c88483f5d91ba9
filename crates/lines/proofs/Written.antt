-- Digits that are written: how many, which, and that reading them gives the number back; and lines put together from
-- pieces. Assumes nothing.
use mathlib.Core.Path.{◌≡◌, refl, sym, ap, ◌∙◌}
use mathlib.Core.Bool.{Bool, true, false, cond}
use mathlib.Core.List.{List, [], ◌∷◌, ◌++◌, append_assoc}
use mathlib.Core.Option.{some}
use Prim.Native.Nat.{ℕ, zero, suc, ◌+◌, ◌-◌, ◌*◌, ◌/◌, ◌%◌, ◌^◌, ◌<◌, ◌≤◌}
use native.Mathlib.Nat.{not-suc-le-zero, le_of_suc-le-suc, mod-eq_of_lt, mul_assoc, add-mul}
use native.Mathlib.Numerals.{add-one}
use native.Mathlib.Omega.{arith}
use borrow.Author.Tests.{le-leb, lt-leb, ltb-true, ltb-false}
use lib.Dec.{T, ltb}
use lib.Pow.{pow-add, mod-pow-add}
use lib.ListN.{length, get_or, take, drop, set, length-append, take-append-drop}
use lib.Seq.{paste, paste-suc, take_all, take_at, drop_at, drop-drop, set_split, length-take-le}
use lib.Ieee.{Float, nan, inf, fin, binary64, is_nan, to_bits, of_bits, fits}
use lib.Ieee.Bits.{of_bits-to_bits, to_bits-lt}
use Rattle.statement.specs.Lists.{joined}
use Rattle.statement.specs.Input.{+0}
use Rattle.statement.specs.Answers.{number, details}
use Rattle.statement.specs.declared.Answer.{Answer}
use Rattle.statement.specs.Job.{hex_digit, hex_value, hex, value_from, refusal, success}
use Rattle.areas.proofs.Lists.{get_d_any}
use Rattle.statement.specs.declared.Original.{Original}
use Rattle.lines.specs.Placed.{placed, sizes_line, unknown_line, refusal_line}

pub hex_length : (k x : ℕ) → length (hex k x) ≡ k
unfolding hex
hex_length zero x = refl
hex_length (suc k) x = ap suc (hex_length k x)

-- a shift by four bits a digit
pub shift_is : (m : ℕ) → 2 ^ (4 * m) ≡ 16 ^ m
shift_is zero = refl
shift_is (suc m) =
    let e : 4 * suc m ≡ 4 * m + 4 = omega arith in
    let p = pow-add 2 (4 * m) 4 in
    let h = shift_is m in
    rw e (omega arith)

hex_at : (k x i : ℕ) → i < k → get_or (hex k x) i 0 ≡ hex_digit (x / 16 ^ (k - 1 - i) % 16)
unfolding hex
hex_at zero x i h = absurd (not-suc-le-zero h)
hex_at (suc k) x zero h = let e : suc k - 1 - 0 ≡ k = omega arith in rw e
hex_at (suc k) x (suc i) h =
    let l = le_of_suc-le-suc h in
    let e : suc k - 1 - suc i ≡ k - 1 - i = omega arith in
    rw e (hex_at k x i l)

-- ---- one turn of the loop, and its end

pub put_more : (d s : List ℕ) (at k x i b : ℕ) → s ≡ paste d at (hex k x) i → b ≡ hex_digit (x / 2 ^ (4 * (k - 1 - i)) % 16) → i < k → at + k ≤ length d → set s (at + i) b ≡ paste d at (hex k x) (i + 1)
put_more d s at k x i b e f h l =
    let n = hex_length k x in
    ap (λ (t : List ℕ). set t (at + i) b) e
    ∙ ap (λ (t : ℕ). set (paste d at (hex k x) i) (at + i) t) (f ∙ ap (λ (t : ℕ). hex_digit (x / t % 16)) (shift_is (k - 1 - i)) ∙ sym (hex_at k x i h))
    ∙ paste-suc d at (hex k x) i 0 (omega arith) (omega arith)
    ∙ ap (λ (t : ℕ). paste d at (hex k x) t) (sym (add-one i))

pub put_all : (d s : List ℕ) (at k x i : ℕ) → s ≡ paste d at (hex k x) i → i ≡ k → s ≡ placed d at (hex k x)
unfolding placed
put_all d s at k x i e f =
    let n = hex_length k x in
    let a = take_all k (hex k x) (omega arith) in
    rw (e, f, a, n) (append_assoc (take at d) (hex k x) (drop (at + k) d))

-- ---- lines are put together from pieces

-- a piece follows what was placed at a
pub placed_more : (d₀ d t s u : List ℕ) (a b : ℕ) → d ≡ placed d₀ a s → a + length s ≡ b → b ≤ length d₀ → t ≡ placed d b u → t ≡ placed d₀ a (s ++ u)
unfolding placed
placed_more d₀ d t s u a b e n h f =
    let l = length-take-le a d₀ (omega arith) in
    let g : d ≡ (take a d₀ ++ s) ++ drop b d₀ = e ∙ rw n (sym (append_assoc (take a d₀) s (drop b d₀))) in
    let m : length (take a d₀ ++ s) ≡ b = simp length-append (omega arith) in
    let p : take b d ≡ take a d₀ ++ s = ap (take b) g ∙ take_at (take a d₀ ++ s) (drop b d₀) b m in
    let q : drop (b + length u) d ≡ drop (b + length u) d₀ = sym (drop-drop (length u) b d) ∙ ap (drop (length u)) (ap (drop b) g ∙ drop_at (take a d₀ ++ s) (drop b d₀) b m) ∙ drop-drop (length u) b d₀ in
    let o : b + length u ≡ a + length (s ++ u) = simp length-append (omega arith) in
    f ∙ rw (p, q, o) (simp append_assoc)

pub placed_byte : (d : List ℕ) (a v : ℕ) → a < length d → set d a v ≡ placed d a (v ∷ [])
unfolding placed
placed_byte d a v h = let e : a + 1 ≡ suc a = omega arith in rw e (set_split d a v h)

-- one byte more after what was placed at a
pub placed_end : (d₀ d s : List ℕ) (a b v : ℕ) → d ≡ placed d₀ a s → a + length s ≡ b → b < length d₀ → length d ≡ length d₀ → set d b v ≡ placed d₀ a (s ++ v ∷ [])
placed_end d₀ d s a b v e n h l = placed_more d₀ d (set d b v) s (v ∷ []) a b e n (omega arith) (placed_byte d b v (omega arith))

-- the digits of another name of the number
pub placed_as : (t d : List ℕ) (b k x y : ℕ) → t ≡ placed d b (hex k x) → x ≡ y → t ≡ placed d b (hex k y)
placed_as t d b k x y e f = e ∙ ap (λ n. placed d b (hex k n)) f

pub long : (p : List ℕ) (a k x : ℕ) → length p ≡ a → length (p ++ hex k x) ≡ a + k
long p a k x e = length-append p (hex k x) ∙ rw (e, hex_length)

-- ---- reading back

digit_back : (d : ℕ) → d < 16 → hex_value (hex_digit d) ≡ some d
unfolding hex_digit hex_value
digit_back d h = go (ltb d 10) refl
  where
    go : (t : Bool) → ltb d 10 ≡ t → hex_value (cond t (48 + d) (55 + d)) ≡ some d
    go true e =
        let l = ltb-true d 10 e in
        let a : 48 ≤ 48 + d = omega arith in
        let b : 48 + d ≤ 57 = omega arith in
        let z : 48 + d - 48 ≡ d = omega arith in
        simp (le-leb 48 (48 + d) a, le-leb (48 + d) 57 b) (ap some z)
    go false e =
        let l = ltb-false d 10 e in
        let a : 48 ≤ 55 + d = omega arith in
        let b : 57 < 55 + d = omega arith in
        let m : 65 ≤ 55 + d = omega arith in
        let n : 55 + d ≤ 70 = omega arith in
        let z : 55 + d - 55 ≡ d = omega arith in
        simp (le-leb 48 (55 + d) a, lt-leb (55 + d) 57 b, le-leb 65 (55 + d) m, le-leb (55 + d) 70 n) (ap some z)

mod_top : (x k : ℕ) → x % 16 ^ suc k ≡ x / 16 ^ k % 16 * 16 ^ k + x % 16 ^ k
mod_top x k =
    let e : 4 * suc k ≡ 4 + 4 * k = omega arith in
    ap (λ (t : ℕ). x % t) (sym (shift_is (suc k)))
    ∙ ap (λ (t : ℕ). x % 2 ^ t) e
    ∙ mod-pow-add x 4 (4 * k)
    ∙ ap (λ (t : ℕ). x / t % 16 * t + x % t) (shift_is k)

read_from : (k x a : ℕ) → value_from a (hex k x) ≡ some (a * 16 ^ k + x % 16 ^ k)
unfolding value_from hex
read_from zero x a = ap some (omega arith)
read_from (suc k) x a =
    let w = x / 16 ^ k % 16 in
    let b = digit_back w (omega arith) in
    let m = mod_top x k in
    let q = add-mul (a * 16) w (16 ^ k) in
    let r = mul_assoc a 16 (16 ^ k) in
    let s : 16 ^ suc k ≡ 16 * 16 ^ k = omega arith in
    let o = ap (λ (t : ℕ). a * t) s in
    let i = read_from k x (a * 16 + w) in
    rw (b, value_from) (i ∙ ap some (omega arith))

-- k digits of a number below 16 ^ k are read back as the number
pub read_back : (k x : ℕ) → x < 16 ^ k → value_from 0 (hex k x) ≡ some x
read_back k x h = read_from k x 0 ∙ ap some (let m = mod-eq_of_lt h in omega arith)

-- a number's pattern is read back as the number
pub float_back : (x : Float) → T (fits binary64 x) → (value_from 0 (hex 16 (to_bits binary64 x)) ≡ some (to_bits binary64 x)) × (of_bits binary64 (to_bits binary64 x) ≡ x)
float_back x f = (read_back 16 (to_bits binary64 x) (to_bits-lt binary64 x f), of_bits-to_bits binary64 x f)

-- ---- a float's pattern

pub nan_bits : (x : Float) → is_nan x ≡ true → 0x7ff8_0000_0000_0000 ≡ to_bits binary64 x
unfolding to_bits is_nan
nan_bits nan h = refl
nan_bits (inf s) h = cc
nan_bits (fin s m e) h = cc

-- ---- a whole answer

pub sizes_length : (entries supernodes : ℕ) → length (sizes_line entries supernodes) ≡ 15
sizes_length entries supernodes = simp (length-append, hex_length)

pub unknown_length : (position : Original) (x : Float) → length (unknown_line position x) ≡ 23
unknown_length position x = simp (length-append, hex_length)

pub refusal_is : (t d : List ℕ) (a : Answer) (k first second : ℕ) → t ≡ placed d 0 (refusal_line k first second) → k ≡ number a → first ≡ get_or (details a) 0 0 → second ≡ get_or (details a) 1 0
    → (t ≡ placed d 0 (refusal a)) × (21 ≡ length (refusal a))
unfolding refusal
refusal_is t d a k first second e p q r = (e ∙ rw (p, q, r), sym (simp (length-append, hex_length)))

abbrev pub unknowns : List Float → ℕ → List ℕ
unknowns x k = joined (λ i. unknown_line (record { 0 = i }) (get_or x i +0)) k

pub unknowns_length : (x : List Float) (k : ℕ) → length (unknowns x k) ≡ 23 * k
unfolding joined
unknowns_length x zero = refl
unknowns_length x (suc k) = length-append (unknowns x k) (unknown_line (record { 0 = k }) (get_or x k +0)) ∙ (let a = unknowns_length x k in let b = unknown_length (record { 0 = k }) (get_or x k +0) in omega arith)

pub success_length : (entries supernodes : ℕ) (x : List Float) → length (success entries supernodes x) ≡ 15 + 23 * length x
unfolding success
success_length entries supernodes x = length-append (sizes_line entries supernodes) (unknowns x (length x)) ∙ (let a = sizes_length entries supernodes in let b = unknowns_length x (length x) in omega arith)

-- the lines of the first k unknowns follow 15 bytes
abbrev pub Writing : List ℕ → List Float → List ℕ → ℕ → Type 0
Writing out₀ x out k = out ≡ placed out₀ 15 (unknowns x k)

pub writing_start : (d : List ℕ) (x : List Float) → Writing d x d 0
unfolding placed joined
writing_start d x = sym (take-append-drop 15 d)

pub writing_more : (d : List ℕ) (x : List Float) (out : List ℕ) (k : ℕ) (t : List ℕ) (z : Float) → Writing d x out k → k < length x → 15 + 23 * length x ≤ length d
    → t ≡ placed out (15 + 23 * k) (unknown_line (record { 0 = k }) (get_or x k z)) → Writing d x t (k + 1)
unfolding joined
writing_more d x out k t z w h room e =
    let n = unknowns_length x k in
    rw (add-one k) (placed_more d out t (unknowns x k) (unknown_line (record { 0 = k }) (get_or x k +0)) 15 (15 + 23 * k) w (omega arith) (omega arith) (e ∙ ap (λ y. placed out (15 + 23 * k) (unknown_line (record { 0 = k }) y)) (get_d_any x k z +0 h)))

pub writing_done : (d₀ d : List ℕ) (x : List Float) (out : List ℕ) (k entries supernodes : ℕ) → Writing d x out k → k ≡ length x → 15 ≤ length d₀
    → d ≡ placed d₀ 0 (sizes_line entries supernodes) → (out ≡ placed d₀ 0 (success entries supernodes x)) × (15 + 23 * length x ≡ length (success entries supernodes x))
unfolding success
writing_done d₀ d x out k entries supernodes w q room e =
    let n = sizes_length entries supernodes in
    let f : out ≡ placed d 15 (unknowns x (length x)) = w ∙ ap (λ (t : ℕ). placed d 15 (unknowns x t)) q in
    (placed_more d₀ d out (sizes_line entries supernodes) (unknowns x (length x)) 0 15 e (omega arith) room f, sym (success_length entries supernodes x))
