-- Where a stored row stands in its upper column, and its value. Assumes nothing.
use mathlib.Core.Path.{◌≡◌, sym, ap, ◌∙◌}
use mathlib.Core.Logic.{⊎_elim}
use mathlib.Core.Bool.{Bool, true, false}
use mathlib.Core.List.{List}
use Prim.Native.Nat.{ℕ, suc, ◌+◌, ◌-◌, ◌≤◌, ◌<◌}
use native.Mathlib.Omega.{arith}
use native.Mathlib.Decide.{le_ind}
use lib.Dec.{T}
use lib.ListN.{length, get_or, take, get_or-eq_default}
use lib.Seq.{length-slice, get_or-drop, get_or-take}
use lib.Ieee.{Float, nan}
use Rattle.statement.specs.Lists.{place}
use Rattle.statement.specs.Input.{Columns, matrix, column, stored, value, +0}
use Rattle.laws.proofs.Bools.{lt_or_le}
use Rattle.laws.proofs.Input.{column_to, column_at, stored_at}
use Rattle.laws.proofs.Entry.{has_of_place}
use Rattle.laws.proofs.Built.{place_sorted}
use Rattle.std.proofs.lemmas.List.{get_or_default}
use Rattle.lower.specs.Entries.{spot}

module _ (n : ℕ) (starts rows : List ℕ) (wf : Columns n starts rows) (k : ℕ) (kn : k < n) where
  abbrev col : List ℕ
  col = column starts rows k

  long : length (column starts rows k) ≡ get_or starts (suc k) 0 - get_or starts k 0
  long = length-slice (get_or starts k 0) (get_or starts (suc k) 0) rows (column_to n starts rows wf k kn)

  rise : (x y : ℕ) → get_or starts k 0 ≤ x → x < y → y < get_or starts (suc k) 0 → get_or rows x 0 < get_or rows y 0
  rise x y a b h = le_ind (λ y. y < get_or starts (suc k) 0 → get_or rows x 0 < get_or rows y 0) (λ h. wf.strict k x kn a h)
      (λ y l u h. omega (arith, u (omega arith), wf.strict k y kn (omega arith) h)) y b h

  sorted : (p q : ℕ) → p < q → q < length (column starts rows k) → get_or (column starts rows k) p 0 < get_or (column starts rows k) q 0
  sorted p q h l =
      let a = column_at n starts rows wf k kn p (omega arith) in
      let b = column_at n starts rows wf k kn q l in
      rw (a.1, b.1) (rise (get_or starts k 0 + p) (get_or starts k 0 + q) (omega arith) (omega arith) b.0)

  -- a stored row stands where it is found
  place_at : (q : ℕ) → get_or starts k 0 ≤ q → q < get_or starts (suc k) 0 → place (get_or rows q 0) (column starts rows k) ≡ q - get_or starts k 0
  place_at q a b =
      let l : q - get_or starts k 0 < length (column starts rows k) = omega (arith, long) in
      let z : get_or starts k 0 + (q - get_or starts k 0) ≡ q = omega arith in
      rw ((column_at n starts rows wf k kn (q - get_or starts k 0) l).1, z) at (place_sorted (column starts rows k) sorted (q - get_or starts k 0) l)

  pub spot_at : (q : ℕ) → get_or starts k 0 ≤ q → q < get_or starts (suc k) 0 → spot starts rows (get_or rows q 0) k ≡ q
  spot_at q a b = omega (arith, place_at q a b)

  pub spot_in : (i : ℕ) → T (stored starts rows i k) → (get_or starts k 0 ≤ spot starts rows i k) × (spot starts rows i k < get_or starts (suc k) 0) × (get_or rows (spot starts rows i k) 0 ≡ i)
  spot_in i t =
      let p = (stored_at n starts rows wf i k kn).0 t in
      let e : spot starts rows i k ≡ p.0 = rw p.3 at (spot_at p.0 p.1 p.2) in
      rw e (p.1, p.2, p.3)

  module _ (values : List Float) (beside : length values ≡ length rows) where
    room : get_or starts (suc k) 0 ≤ length values
    room = omega (arith, column_to n starts rows wf k kn)

    -- its value stands beside it
    pub value_at : (q : ℕ) → get_or starts k 0 ≤ q → q < get_or starts (suc k) 0 → value (matrix n starts rows values) (get_or rows q 0) k ≡ get_or values q nan
    unfolding value
    value_at q a b =
        let x = q - get_or starts k 0 in
        let z : get_or starts k 0 + x ≡ q = omega arith in
        ap (λ y. get_or (column starts values k) y +0) (place_at q a b)
        ∙ get_or-drop (get_or starts k 0) (take (get_or starts (suc k) 0) values) x +0
        ∙ ap (λ y. get_or (take (get_or starts (suc k) 0) values) y +0) z
        ∙ get_or-take (get_or starts (suc k) 0) values q +0 b
        ∙ get_or_default values q +0 nan (omega (arith, room))

    -- 0.0 where nothing is stored
    pub value_out : (i : ℕ) → stored starts rows i k ≡ false → value (matrix n starts rows values) i k ≡ +0
    unfolding value
    value_out i e = get_or-eq_default (column starts values k) +0 {n = place i (column starts rows k)} (⊎_elim
        (λ (l : place i (column starts rows k) < length (column starts rows k)). let z : ◌≡◌ {A = Bool} false true = sym e ∙ has_of_place i (column starts rows k) l in let y : ◌≡◌ {A = ℕ} 0 1 = cc in absurd (omega arith))
        (λ (l : length (column starts rows k) ≤ place i (column starts rows k)). omega (arith, long, length-slice (get_or starts k 0) (get_or starts (suc k) 0) values room))
        (lt_or_le (place i (column starts rows k)) (length (column starts rows k))))
