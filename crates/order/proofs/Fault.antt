-- The first wrong position is that of number 8. Assumes nothing.
use mathlib.Core.Path.{◌≡◌, refl, sym, ap, ◌∙◌}
use mathlib.Core.Logic.{◌≢◌}
use mathlib.Core.Bool.{Bool, true, false, not, cond, ◌&&◌, ◌||◌}
use mathlib.Core.List.{List}
use mathlib.Core.Option.{Option, none, some}
use Prim.Native.Nat.{ℕ, zero, suc, ◌+◌, ◌-◌, ◌≤◌, ◌<◌}
use native.Mathlib.Omega.{arith}
use native.Mathlib.Nat.{add-zero, add-suc, zero-add}
use lib.Dec.{eqb, ltb}
use lib.ListN.{length, get_or, take, drop}
use lib.Seq.{drop-cons, drop-length, get_or-take}
use borrow.Author.Tests.{ltb-true, lt-leb, le-leb}
use Rattle.statement.specs.Lists.{has, tally, bit, least, rising}
use Rattle.statement.specs.Shape.{Shape, supernodes, parent_of}
use Rattle.statement.specs.Run.{ready, first_bad, plain, order_fault}
use Rattle.statement.specs.Demands.{Names}
use Rattle.laws.specs.Answered.{passed}
use Rattle.std.specs.Prelude.{Result, Ok, Err}
use Rattle.statement.specs.Calls.{order_of, wrong_position}
use Rattle.statement.specs.declared.Order.{Order}
use Rattle.statement.specs.declared.Order.TheVariants.{Plain, Listed}
use Rattle.statement.specs.declared.Answer.{Answer}
use Rattle.statement.specs.declared.Answer.TheVariants.{WrongOrder}
use Rattle.laws.proofs.Bools.{eqb_yes, eqb_no, ltb_yes, ltb_no}
use Rattle.laws.proofs.Names.{length_rising, names_good, in_order}
use Rattle.order.specs.Waiting.{Above, Of, names, waited, waits, wrong_at}

pub rising_at : (a k i : ℕ) → i < k → get_or (rising a k) i 0 ≡ a + i
unfolding rising
rising_at a zero i h = absurd (omega arith)
rising_at a (suc k) zero h = sym (add-zero a)
rising_at a (suc k) (suc i) h = omega (arith, rising_at (suc a) k i (omega arith))

module _ (S : Shape) (p : List ℕ) (ns : ℕ) (above : Above p ns) (of : Of S p ns) where
  -- the first M are ready exactly when none of them is waited for
  ready_none : (a : List ℕ) (J M : ℕ) → M ≤ ns → ready S a J M ≡ eqb (tally (waited p a J) M) 0
  unfolding ready tally
  ready_none a J zero h = refl
  ready_none a J (suc M) h = rw (ready_none a J M (omega arith), ← of.parents M h) (go (tally (waited p a J) M) (eqb (get_or p M 0) J) (has M a))
    where
      go : (t : ℕ) (b c : Bool) → eqb t 0 && (not b || c) ≡ eqb (t + bit (b && not c)) 0
      go zero true true = refl
      go zero true false = refl
      go zero false c = refl
      go (suc t) b c = rw (eqb_no {m = suc t} {n = 0} (omega arith), eqb_no {m = suc t + bit (b && not c)} {n = 0} (omega arith))

  -- children come before their parent
  tally_below : (a : List ℕ) (J d : ℕ) → J + d ≤ ns → tally (waited p a J) (J + d) ≡ tally (waited p a J) J
  unfolding tally
  tally_below a J zero h = ap (tally (waited p a J)) (add-zero J)
  tally_below a J (suc d) h = ap (tally (waited p a J)) (add-suc J d) ∙ rw (eqb_no {m = get_or p (J + d) 0} {n = J} (omega (arith, above.up (J + d) (omega arith)))) (add-zero _ ∙ tally_below a J d (omega arith))

  -- the definition's test, and the code's
  good : (a : List ℕ) (J : ℕ) → ltb J (supernodes S) && not (has J a) && ready S a J J ≡ ltb J ns && eqb (waits p ns a J) 0
  unfolding waits
  good a J = rw of.many (go (ltb J ns) refl (has J a))
    where
      all : J < ns → ready S a J J ≡ eqb (tally (waited p a J) ns) 0
      all h = ready_none a J J (omega arith) ∙ ap (λ t. eqb t 0) (sym (tally_below a J (ns - J) (omega arith)) ∙ ap (tally (waited p a J)) (let q : J + (ns - J) ≡ ns = omega arith in q))

      go : (b : Bool) → ltb J ns ≡ b → (c : Bool) → b && not c && ready S a J J ≡ b && eqb (cond c (suc ns) (tally (waited p a J) ns)) 0
      go false e c = refl
      go true e true = sym (eqb_no {m = suc ns} {n = 0} (omega arith))
      go true e false = all (ltb-true J ns e)

  -- position q, if it is one
  abbrev at : ℕ → Option ℕ
  at q = cond (ltb q ns) (some q) none

  bad_least : (l : List ℕ) → length l ≡ ns → (d q : ℕ) → q + d ≡ ns → first_bad S (names l q) (drop q l) q ≡ at (least (wrong_at p ns l) q d)
  unfolding first_bad least names wrong_at
  bad_least l len zero q h = rw (sym (let z : length l ≡ q = omega arith in z)) (rw (drop-length l, ltb_no {m = length l} {n = ns} (omega arith)))
  bad_least l len (suc d) q h =
      rw (drop-cons l q 0 (omega arith), good (names l q) (get_or l q 0))
      (go (ltb (get_or l q 0) ns && eqb (waits p ns (names l q) (get_or l q 0)) 0) (first_bad S (names l (suc q)) (drop (suc q) l) (suc q)) (least (wrong_at p ns l) (suc q) d) (bad_least l len d (suc q) (omega arith)))
    where
      go : (b : Bool) (F : Option ℕ) (L : ℕ) → F ≡ at L → cond b F (some q) ≡ at (elim (not b) as (λ _. ℕ) [ true ↦ q | false ↦ L ])
      go true F L e = e
      go false F L e = rw (ltb_yes {m = q} {n = ns} (omega arith))

  module _ (l : List ℕ) (t : ℕ) where
    pub wrong_length : length l ≢ ns → order_fault S l t ≡ some ns
    unfolding order_fault
    wrong_length ne = rw (of.many, eqb_no ne)

    pub wrong_stop : ns < t → order_fault S l t ≡ some ns
    unfolding order_fault
    wrong_stop h = rw (of.many, lt-leb t ns h) (go (eqb (length l) ns) _)
      where
        go : (b : Bool) (o : Option ℕ) → cond (b && false) o (some ns) ≡ some ns
        go true o = refl
        go false o = refl

    module _ (e : length l ≡ ns) (h : t ≤ ns) where
      fault_at : {r : ℕ} → r ≡ least (wrong_at p ns l) 0 ns → order_fault S l t ≡ at r
      unfolding order_fault names
      fault_at q = rw (of.many, eqb_yes e, le-leb t ns h, q) (bad_least l e ns 0 (zero-add ns))

      pub fault_some : {r : ℕ} → r ≡ least (wrong_at p ns l) 0 ns → r < ns → order_fault S l t ≡ some r
      fault_some {r} q k = fault_at q ∙ rw (ltb_yes {m = r} {n = ns} k)

      pub fault_none : {r : ℕ} → r ≡ least (wrong_at p ns l) 0 ns → ns ≤ r → order_fault S l t ≡ none
      fault_none {r} q k = fault_at q ∙ rw (ltb_no {m = r} {n = ns} k)

  -- the plain order names each once, children before parents
  plain_names : Names S (plain S)
  plain_names =
      let many : length (plain S) ≡ supernodes S = length_rising 0 (supernodes S) in
      let is : (x : ℕ) → x < length (plain S) → get_or (plain S) x 0 ≡ x = λ x h. rising_at 0 (supernodes S) x (omega arith) ∙ zero-add x in
      record {
        all = many;
        inside = λ x h. omega (arith, is x h);
        once = λ x y h k. omega (arith, is x (omega arith), is y k);
        children = λ x K h k e. (K, omega (arith, above.up K (omega (arith, of.many)), of.parents K (omega (arith, of.many)), is x h), is K (omega arith));
      }

  pub plain_none : (t : ℕ) → t ≤ ns → order_fault S (plain S) t ≡ none
  plain_none t h =
      let up : (K : ℕ) → K < supernodes S → K < parent_of S K = λ K k. omega (arith, above.up K (omega (arith, of.many)), of.parents K (omega (arith, of.many))) in
      in_order S up (plain S) t (length_rising 0 (supernodes S)) (omega (arith, of.many)) (names_good S up (plain S) plain_names)

pub answer_some : {o : Option ℕ} {q : ℕ} → o ≡ some q → Err (WrongOrder q) ≡ passed (wrong_position o)
unfolding passed wrong_position
answer_some e = rw e

pub answer_none : {o : Option ℕ} → o ≡ none → Ok tt ≡ passed (wrong_position o)
unfolding passed wrong_position
answer_none e = rw e

-- from the start of a longer list of parents
module _ (p : List ℕ) (ns : ℕ) where
  pub above_part : Above p ns → Above (take ns p) ns
  above_part w = record { up = λ K k. rw (get_or-take ns p K 0 k) (w.up K k); to = λ K k. rw (get_or-take ns p K 0 k) (w.to K k) }

  pub of_part : {S : Shape} → Of S p ns → Of S (take ns p) ns
  of_part w = record { many = w.many; parents = λ K k. get_or-take ns p K 0 k ∙ w.parents K k }

pub as_plain : (S : Shape) (l : List ℕ) {o : Order} (t : ℕ) → o ≡ Plain → order_fault S (plain S) t ≡ none → Ok tt ≡ passed (wrong_position (order_fault S (order_of S o l) t))
unfolding order_of
as_plain S l t q h = answer_none (rw q h)

pub as_listed : (S : Shape) (l : List ℕ) {o : Order} {r : Result Unit Answer} (t : ℕ) → o ≡ Listed → r ≡ passed (wrong_position (order_fault S l t)) → r ≡ passed (wrong_position (order_fault S (order_of S o l) t))
unfolding order_of
as_listed S l t q h = rw q h
