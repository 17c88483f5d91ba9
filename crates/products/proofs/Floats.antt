-- Small laws of floats and sums. Assumes nothing.
use mathlib.Core.Path.{◌≡◌, refl, sym, ap, ap₂, ◌∙◌}
use Prim.Native.Nat.{ℕ, ◌+◌}
use native.Mathlib.Numerals.{add-one}
use mathlib.Core.List.{List}
use lib.Ieee.{Float, binary64, of_bits, add, sub, mul}
use lib.ListN.{get_or}
use Rattle.products.specs.Products.{plus, less, pluses, lesses}
use Rattle.statement.specs.Input.{+0}
use Rattle.statement.specs.Rules.{dot, singly}

pub zero_is : of_bits binary64 0 ≡ +0
unfolding of_bits
zero_is = refl

pub dot_start : (x y : ℕ → Float) → +0 ≡ dot x y 0
unfolding dot
dot_start x y = refl

pub dot_step : (x y : ℕ → Float) (k : ℕ) → add binary64 (dot x y k) (mul binary64 (x k) (y k)) ≡ dot x y (k + 1)
unfolding dot
dot_step x y k = ap (dot x y) (sym (add-one k))

-- a sum of one product
pub dot_one : (x y : ℕ → Float) {p q : Float} → p ≡ x 0 → q ≡ y 0 → add binary64 +0 (mul binary64 p q) ≡ dot x y 1
dot_one x y e f = ap₂ (add binary64) (dot_start x y) (ap₂ (mul binary64) e f) ∙ dot_step x y 0

pub sub_left : {x y : Float} (z : Float) → x ≡ y → sub binary64 x z ≡ sub binary64 y z
sub_left z e = ap (λ u. sub binary64 u z) e

pub sub_sum : {x y p q : Float} (a : Float) → x ≡ y → p ≡ q → sub binary64 x (add binary64 (of_bits binary64 0) (mul binary64 p a)) ≡ sub binary64 y (add binary64 +0 (mul binary64 q a))
sub_sum a e f = ap₂ (sub binary64) e (ap₂ (add binary64) zero_is (ap₂ (mul binary64) f refl))

pub singly_start : (v : Float) (x y : ℕ → Float) (a : ℕ) → v ≡ singly v x y a 0
unfolding singly
singly_start v x y a = refl

pub singly_step : (v : Float) (x y : ℕ → Float) (a w : ℕ) → sub binary64 (singly v x y a w) (mul binary64 (x (a + w)) (y (a + w))) ≡ singly v x y a (w + 1)
unfolding singly
singly_step v x y a w = ap (singly v x y a) (sym (add-one w))

pub pluses_start : (v : List Float) (at : List ℕ) (i : ℕ) (x : Float) → x ≡ pluses v at i x 0
unfolding pluses
pluses_start v at i x = refl

pub pluses_more : (v : List Float) (at : List ℕ) (i : ℕ) (x : Float) (k : ℕ) {y : Float} → y ≡ pluses v at i x k → plus v (get_or at k 0) i y ≡ pluses v at i x (k + 1)
unfolding pluses
pluses_more v at i x k d = ap (plus v (get_or at k 0) i) d ∙ ap (pluses v at i x) (sym (add-one k))

-- the same, of sums by their equals
pub pluses_same : (v : List Float) (at : List ℕ) (i : ℕ) {x y z : Float} (k n : ℕ) → z ≡ pluses v at i x k → x ≡ y → k ≡ n → z ≡ pluses v at i y n
pluses_same v at i {x} {y} k n d e s = d ∙ ap₂ (pluses v at i) e s

pub lesses_start : (v : List Float) (at : List ℕ) (i : ℕ) (x : Float) → x ≡ lesses v at i x 0
unfolding lesses
lesses_start v at i x = refl

pub lesses_more : (v : List Float) (at : List ℕ) (i : ℕ) (x : Float) (k : ℕ) {y : Float} → y ≡ lesses v at i x k → less v (get_or at k 0) i y ≡ lesses v at i x (k + 1)
unfolding lesses
lesses_more v at i x k d = ap (less v (get_or at k 0) i) d ∙ ap (lesses v at i x) (sym (add-one k))

pub lesses_same : (v : List Float) (at : List ℕ) (i : ℕ) {x y z : Float} (k n : ℕ) → z ≡ lesses v at i x k → x ≡ y → k ≡ n → z ≡ lesses v at i y n
lesses_same v at i {x} {y} k n d e s = d ∙ ap₂ (lesses v at i) e s
