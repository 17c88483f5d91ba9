-- Areas that are zero, and parts of them that are zero again. Assumes nothing.
use mathlib.Core.Path.{◌≡◌, sym, ap, ap₂, ◌∙◌}
use mathlib.Core.List.{List, ◌++◌}
use Prim.Native.Nat.{ℕ, ◌+◌, ◌-◌, ◌≤◌}
use native.Mathlib.Omega.{arith}
use lib.ListN.{length, take, drop, replicate, length-replicate, replicate-append-replicate}
use lib.Seq.{take-append_seam}
use Rattle.std.proofs.lemmas.List.{drop-replicate}

-- k zeros in front of the rest of m zeros
pub zeros_over : (k j m : ℕ) (d : List ℕ) → j ≡ k → k ≤ m → d ≡ replicate m 0 → replicate k 0 ++ drop j d ≡ replicate m 0
zeros_over k j m d q h e =
    ap (λ l. replicate k 0 ++ l) (ap₂ drop q e ∙ drop-replicate k m 0)
    ∙ replicate-append-replicate k (m - k) 0
    ∙ ap (λ x. replicate x 0) (let z : k + (m - k) ≡ m = omega arith in z)

-- a part, and zeros behind it
pub zeros_after : (part d : List ℕ) {l l' : List ℕ} {k : ℕ} (m : ℕ) → k ≡ length part → l ≡ part ++ d → length l ≡ m → l' ≡ take k l ++ replicate (length l - k) 0 → l' ≡ part ++ drop (length part) (replicate m 0)
zeros_after part d {l} {k} m e f s g =
    g ∙ ap₂ (λ x y. take x l ++ replicate (y - x) 0) e s
    ∙ ap₂ (λ x y. x ++ y) (ap (take (length part)) f ∙ take-append_seam part d) (sym (drop-replicate (length part) m 0))

pub zeros_length : {A : Type 0} (z : A) {m : ℕ} {d : List A} → d ≡ replicate m z → m ≡ length d
zeros_length z {m} e = sym (ap length e ∙ length-replicate m z)
