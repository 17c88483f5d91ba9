-- The counts of the children that supernodes wait for, as names are taken. Assumes nothing.
use mathlib.Core.Path.{◌≡◌, refl, sym, ap, ◌∙◌}
use mathlib.Core.Logic.{◌≢◌}
use mathlib.Core.Bool.{Bool, true, false, not, cond, ◌&&◌}
use mathlib.Core.List.{List, [], ◌∷◌}
use Prim.Native.Nat.{ℕ, zero, suc, ◌-◌, ◌≤◌, ◌<◌}
use native.Mathlib.Omega.{arith}
use native.Mathlib.Decide.{ℕ_discrete}
use lib.Dec.{eqb}
use lib.ListN.{length, get_or, set, length-set}
use lib.Seq.{get_or-set_same, get_or-set_other}
use Rattle.statement.specs.Lists.{has, tally, bit, list}
use Rattle.laws.proofs.Bools.{split_at, eqb_yes, eqb_no}
use Rattle.laws.proofs.Tally.{but, count_but, count_ext}
use Rattle.laws.proofs.Ranks.{list_length, list_at}
use Rattle.laws.proofs.Order.{has_same, has_other, has_more, never}
use Rattle.supernodes.specs.Found.{kids_of}
use Rattle.order.specs.Waiting.{Above, waited, waits}

-- the counts x when the names a are taken: whoever is named has its children named
pub record Naming (p : List ℕ) (ns : ℕ) (a x : List ℕ) : Type 0 where
  pub len : length x ≡ suc ns
  pub is : (J : ℕ) → J < suc ns → get_or x J 0 ≡ waits p ns a J
  pub closed : (K : ℕ) → K < ns → has (get_or p K 0) a ≡ true → has K a ≡ true

waits_new : (p : List ℕ) (ns : ℕ) (a : List ℕ) (J : ℕ) → has J a ≡ false → waits p ns a J ≡ tally (waited p a J) ns
unfolding waits
waits_new p ns a J e = rw e

waits_named : (p : List ℕ) (ns : ℕ) (a : List ℕ) (J : ℕ) → has J a ≡ true → waits p ns a J ≡ suc ns
unfolding waits
waits_named p ns a J e = rw e

-- before the first name: the number of children
pub naming_start : (p : List ℕ) (ns : ℕ) (x : List ℕ) → x ≡ list (kids_of p ns) (suc ns) → Naming p ns [] x
unfolding has
naming_start p ns x e = record {
  len = ap length e ∙ list_length (kids_of p ns) (suc ns);
  is = λ J h. ap (λ y. get_or y J 0) e ∙ list_at (kids_of p ns) (suc ns) J 0 h ∙ count_ext _ _ ns (λ K k. sym (and-true (eqb (get_or p K 0) J))) ∙ sym (waits_new p ns [] J refl);
  closed = λ K k e. never e refl;
}
  where
    and-true : (b : Bool) → b && true ≡ b
    and-true true = refl
    and-true false = refl

tally_zero : (f : ℕ → Bool) (m K : ℕ) → K < m → tally f m ≡ 0 → f K ≡ false
unfolding tally
tally_zero f zero K h e = absurd (omega arith)
tally_zero f (suc m) K h e = go (ℕ_discrete K m) (λ q. tally_zero f m K q (omega arith))
  where
    low : (b : Bool) → bit b ≤ 0 → b ≡ false
    low true z = absurd (omega arith)
    low false z = refl

    go : Dec (K ≡ m) → (K < m → f K ≡ false) → f K ≡ false
    go (yes q) ih = rw q (low (f m) (omega arith))
    go (no ne) ih = ih (omega arith)

module _ {p : List ℕ} {ns : ℕ} {a x : List ℕ} (w : Naming p ns a x) (above : Above p ns) (J : ℕ) (j : J < ns) where
  -- a count of 0 is that of a supernode with all children named that is not named
  module _ (z : get_or x J 0 ≡ 0) where
    wait : waits p ns a J ≡ 0
    wait = sym (w.is J (omega arith)) ∙ z

    pub fresh : has J a ≡ false
    fresh = go (has J a) refl
      where
        go : (b : Bool) → has J a ≡ b → b ≡ false
        go true e = absurd (omega (arith, waits_named p ns a J e, wait))
        go false e = refl

    fed : (K : ℕ) → K < ns → get_or p K 0 ≡ J → has K a ≡ true
    fed K k e = go (has K a) (ap (λ b. b && not (has K a)) (sym (eqb_yes e)) ∙ tally_zero (waited p a J) ns K k (sym (waits_new p ns a J fresh) ∙ wait))
      where
        go : (b : Bool) → not b ≡ false → b ≡ true
        go true e = refl
        go false e = never refl e

    abbrev q : ℕ
    q = get_or p J 0

    pub later : J < q
    later = above.up J j

    pub slot : q ≤ ns
    slot = above.to J j

    unnamed : has q a ≡ false
    unnamed = go (has q a) refl
      where
        go : (b : Bool) → has q a ≡ b → b ≡ false
        go true e = never (w.closed J j e) fresh
        go false e = refl

    -- the parent waits for J
    counted : waits p ns a q ≡ suc (tally (but J (waited p a q)) ns)
    counted = waits_new p ns a q unnamed ∙ count_but (waited p a q) J ns j (rw (eqb_yes {m = q} refl, fresh) tt)

    pub one : 0 < get_or x q 0
    one = omega (arith, w.is q (omega (arith, slot)), counted)

    -- a child is still waited for unless it is J
    still : (X K : ℕ) → waited p (J ∷ a) X K ≡ but J (waited p a X) K
    still X = split_at J (rw (has_same J a, eqb_yes {m = J} refl) (no (eqb q X))) (λ K ne. rw (has_other K J a ne, eqb_no ne))
      where
        no : (b : Bool) → b && false ≡ false
        no true = refl
        no false = refl

    at_parent : get_or x q 0 - 1 ≡ waits p ns (J ∷ a) q
    at_parent = omega (arith, w.is q (omega (arith, slot)), counted, count_ext _ _ ns (λ K k. still q K), waits_new p ns (J ∷ a) q (has_other q J a (omega (arith, later)) ∙ unnamed))

    other : (X : ℕ) → X ≢ q → X ≢ J → waits p ns (J ∷ a) X ≡ waits p ns a X
    unfolding waits
    other X nq nj = rw (has_other X J a nj) (ap (cond (has X a) (suc ns)) (count_ext _ _ ns (λ K k. still X K ∙ kept K)))
      where
        kept : (K : ℕ) → but J (waited p a X) K ≡ waited p a X K
        kept = split_at J (rw (eqb_yes {m = J} refl, eqb_no {m = q} {n = X} (λ e. nq (sym e)))) (λ K ne. rw (eqb_no ne))

    pub naming_more : {y : List ℕ} → y ≡ set (set x J (suc ns)) q (get_or x q 0 - 1) → Naming p ns (J ∷ a) y
    naming_more {y} e = rw e (record {
      len = simp length-set w.len;
      is = split_at q
          (λ h. get_or-set_same (set x J (suc ns)) q _ 0 (simp length-set (omega (arith, w.len, slot))) ∙ at_parent)
          (λ X ne h. get_or-set_other (set x J (suc ns)) q X _ 0 ne ∙ split_at {P = λ X. X ≢ q → X < suc ns → get_or (set x J (suc ns)) X 0 ≡ waits p ns (J ∷ a) X} J
          (λ _ h. get_or-set_same x J (suc ns) 0 (omega (arith, w.len)) ∙ sym (waits_named p ns (J ∷ a) J (has_same J a)))
          (λ X nj nq h. get_or-set_other x J X (suc ns) 0 nj ∙ w.is X h ∙ sym (other X nq nj)) X ne h);
      closed = λ K k. go K k (ℕ_discrete (get_or p K 0) J);
    })
      where
        go : (K : ℕ) → K < ns → Dec (get_or p K 0 ≡ J) → has (get_or p K 0) (J ∷ a) ≡ true → has K (J ∷ a) ≡ true
        go K k (yes e) t = has_more K J a (fed K k e)
        go K k (no ne) t = has_more K J a (w.closed K k (sym (has_other (get_or p K 0) J a ne) ∙ t))
