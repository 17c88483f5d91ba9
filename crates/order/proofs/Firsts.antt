-- The first supernodes of the order of the run. Assumes nothing.
use mathlib.Core.Path.{◌≡◌, sym, ap, ◌∙◌}
use mathlib.Core.List.{List, ◌++◌}
use Prim.Native.Nat.{ℕ, ◌≤◌}
use native.Mathlib.Omega.{arith}
use native.Mathlib.Nat.{zero-add}
use lib.ListN.{take, drop, length-take}
use lib.Seq.{get_or-take}
use Rattle.statement.specs.Lists.{list, rising}
use Rattle.statement.specs.Shape.{Shape, supernodes}
use Rattle.statement.specs.Calls.{order_of}
use Rattle.statement.specs.declared.Order.{Order}
use Rattle.statement.specs.declared.Order.TheVariants.{Plain, Listed}
use Rattle.laws.proofs.Names.{length_rising}
use Rattle.areas.proofs.Lists.{is_list}
use Rattle.order.proofs.Fault.{rising_at}

pub followed : {l r : List ℕ} (d : List ℕ) → l ≡ r → l ++ d ≡ r ++ d
followed d e = ap (λ x. x ++ d) e

pub counted : (t : ℕ) → list (λ i. i) t ≡ rising 0 t
counted t = sym (is_list (rising 0 t) (λ i. i) t (length_rising 0 t) (λ j h. rising_at 0 t j h ∙ zero-add j))

-- what either way of writing them leaves, over d
pub first_plain : (S : Shape) (l d : List ℕ) (t : ℕ) → t ≤ supernodes S → {o : Order} → o ≡ Plain → {x : List ℕ} → x ≡ rising 0 t ++ drop t d → x ≡ take t (order_of S o l) ++ drop t d
unfolding order_of
first_plain S l d t h q e = e ∙ ap (λ z. z ++ drop t d) (sym part ∙ ap (λ o. take t (order_of S o l)) (sym q))
  where
    part : take t (rising 0 (supernodes S)) ≡ rising 0 t
    part = is_list (take t (rising 0 (supernodes S))) (λ i. i) t (length-take t (rising 0 (supernodes S)) ∙ omega (arith, length_rising 0 (supernodes S))) (λ j k. get_or-take t (rising 0 (supernodes S)) j 0 k ∙ rising_at 0 (supernodes S) j (omega arith) ∙ zero-add j) ∙ counted t

pub first_listed : (S : Shape) (l d : List ℕ) (t : ℕ) {o : Order} → o ≡ Listed → {x : List ℕ} → x ≡ take t l ++ drop t d → x ≡ take t (order_of S o l) ++ drop t d
unfolding order_of
first_listed S l d t q e = e ∙ ap (λ o. take t (order_of S o l) ++ drop t d) (sym q)
