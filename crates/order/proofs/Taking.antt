-- The search for the first wrong position, with the counts as they stand there. Assumes nothing.
use mathlib.Core.Path.{◌≡◌, sym, ◌∙◌}
use mathlib.Core.Logic.{◌≢◌}
use mathlib.Core.Bool.{true, false}
use mathlib.Core.List.{List}
use Prim.Native.Nat.{ℕ, suc, ◌+◌, ◌-◌, ◌≤◌, ◌<◌}
use native.Mathlib.Omega.{arith}
use native.Mathlib.Numerals.{add-one}
use lib.ListN.{get_or, set}
use Rattle.statement.specs.Lists.{list, least}
use Rattle.laws.proofs.Bools.{eqb_yes, eqb_no, ltb_yes, ltb_no}
use Rattle.areas.proofs.Search.{Searched, search_start, search_more, search_hit, search_none}
use Rattle.supernodes.specs.Found.{kids_of}
use Rattle.order.specs.Waiting.{Above, names, waits, wrong_at}
use Rattle.order.proofs.Naming.{Naming, naming_start, naming_more}

pub record Taking (p : List ℕ) (ns : ℕ) (l x : List ℕ) (q : ℕ) : Type 0 where
  pub searched : Searched (wrong_at p ns l) 0 ns q
  pub naming : Naming p ns (names l q) x

pub taking_start : (p : List ℕ) (ns : ℕ) (l x : List ℕ) → x ≡ list (kids_of p ns) (suc ns) → Taking p ns l x 0
unfolding names
taking_start p ns l x e = record { searched = search_start (wrong_at p ns l) 0 ns; naming = naming_start p ns x e }

module _ {p : List ℕ} {ns : ℕ} {l x : List ℕ} {q : ℕ} (w : Taking p ns l x q) where
  pub taking_none : ns ≤ q → q ≡ least (wrong_at p ns l) 0 ns
  taking_none h = sym (search_none w.searched (omega arith))

  module _ (h : q < ns) where
    pub taking_outside : ns ≤ get_or l q 0 → q ≡ least (wrong_at p ns l) 0 ns
    taking_outside out = sym (search_hit w.searched (omega arith) (wrong out))
      where
        wrong : ns ≤ get_or l q 0 → wrong_at p ns l q ≡ true
        wrong out = unfold wrong_at in rw (ltb_no {m = get_or l q 0} {n = ns} out)

    module _ (above : Above p ns) (inside : get_or l q 0 < ns) where
      is : get_or x (get_or l q 0) 0 ≡ waits p ns (names l q) (get_or l q 0)
      is = w.naming.is (get_or l q 0) (omega arith)

      pub taking_early : get_or x (get_or l q 0) 0 ≢ 0 → q ≡ least (wrong_at p ns l) 0 ns
      taking_early ne = sym (search_hit w.searched (omega arith) wrong)
        where
          wrong : wrong_at p ns l q ≡ true
          wrong = unfold wrong_at in rw (ltb_yes {m = get_or l q 0} {n = ns} inside, eqb_no {m = waits p ns (names l q) (get_or l q 0)} {n = 0} (λ e. ne (is ∙ e)))

      pub taking_more : get_or x (get_or l q 0) 0 ≡ 0 → {y : List ℕ} → y ≡ set (set x (get_or l q 0) (suc ns)) (get_or p (get_or l q 0) 0) (get_or x (get_or p (get_or l q 0) 0) 0 - 1) → Taking p ns l y (q + 1)
      taking_more z {y} e = record {
        searched = search_more w.searched (omega arith) right;
        naming = rw add-one (unfold names in naming_more w.naming above (get_or l q 0) inside z e);
      }
        where
          right : wrong_at p ns l q ≡ false
          right = unfold wrong_at in rw (ltb_yes {m = get_or l q 0} {n = ns} inside, eqb_yes {m = waits p ns (names l q) (get_or l q 0)} {n = 0} (sym is ∙ z))
