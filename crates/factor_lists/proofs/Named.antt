-- How often a list names each number, one place more at a time. Assumes nothing.
use mathlib.Core.Path.{◌≡◌, sym, ap, ◌∙◌}
use mathlib.Core.List.{List}
use Prim.Native.Nat.{ℕ, ◌+◌, ◌<◌, ◌≤◌}
use native.Mathlib.Omega.{arith}
use native.Mathlib.Decide.{ℕ_discrete}
use native.Mathlib.Numerals.{add-one}
use lib.Dec.{eqb, eqb→eq, not_T}
use lib.ListN.{length, get_or, set}
use lib.Seq.{get_or-set_same, get_or-set_other}
use Rattle.statement.specs.Lists.{tally}
use Rattle.laws.proofs.Bools.{eqb_of}
use Rattle.laws.proofs.Ranks.{tally_yes, tally_no}

module _ (p : List ℕ) (v k : ℕ) where
  pub named_hit : get_or p k 0 ≡ v → tally (λ a. eqb (get_or p a 0) v) (k + 1) ≡ tally (λ a. eqb (get_or p a 0) v) k + 1
  named_hit e = rw add-one (omega (arith, tally_yes (λ a. eqb (get_or p a 0) v) k (eqb_of e)))

  pub named_miss : (get_or p k 0 ≡ v → ⊥) → tally (λ a. eqb (get_or p a 0) v) (k + 1) ≡ tally (λ a. eqb (get_or p a 0) v) k
  named_miss e = rw add-one (tally_no (λ a. eqb (get_or p a 0) v) k (not_T (eqb (get_or p k 0) v) (λ t. e (eqb→eq (get_or p k 0) v t))))

pub none_named : (p l : List ℕ) (n : ℕ) → ((v : ℕ) → v < n → get_or l v 0 ≡ 0) → (v : ℕ) → v < n → get_or l v 0 ≡ tally (λ a. eqb (get_or p a 0) v) 0
unfolding tally
none_named p l n e = e

pub one_named : (p l : List ℕ) (n k : ℕ) → n ≤ length l → get_or p k 0 < n → ((v : ℕ) → v < n → get_or l v 0 ≡ tally (λ a. eqb (get_or p a 0) v) k)
    → (v : ℕ) → v < n → get_or (set l (get_or p k 0) (get_or l (get_or p k 0) 0 + 1)) v 0 ≡ tally (λ a. eqb (get_or p a 0) v) (k + 1)
one_named p l n k h b e v q = go (ℕ_discrete (get_or p k 0) v)
  where
    go : Dec (get_or p k 0 ≡ v) → get_or (set l (get_or p k 0) (get_or l (get_or p k 0) 0 + 1)) v 0 ≡ tally (λ a. eqb (get_or p a 0) v) (k + 1)
    go (yes z) = rw z (get_or-set_same l v _ 0 (omega arith) ∙ ap (λ (t : ℕ). t + 1) (e v q) ∙ sym (named_hit p v k z))
    go (no z) = get_or-set_other l (get_or p k 0) v _ 0 (λ y. z (sym y)) ∙ e v q ∙ sym (named_miss p v k z)
