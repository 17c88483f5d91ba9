-- Right sides one after another: where each stands, and that each is solved as it is alone (specs/Sides). Assumes nothing.
use mathlib.Core.Path.{◌≡◌, refl, sym, ap, ◌∙◌}
use mathlib.Core.Logic.{⊎_elim}
use mathlib.Core.List.{List, [], ◌∷◌}
use mathlib.Core.Option.{Option, none, some}
use Prim.Native.Nat.{ℕ, zero, suc, ◌+◌, ◌*◌, ◌≤◌, ◌<◌}
use native.Mathlib.Omega.{arith}
use native.Mathlib.Nat.{le_refl, mul-zero, mul-suc, mul-le-mul, eq-or-lt_of_le, not-suc-le-zero}
use lib.ListN.{length, take, drop, length-append, length-drop}
use lib.Seq.{length-take-le, take_all, take-append-le, drop-append-le, drop_at}
use lib.Ieee.{Float}
use Rattle.statement.specs.Lists.{joined}
use Rattle.statement.specs.Shape.{Shape}
use Rattle.statement.specs.Solve.{FactorAreas, shape_in, solution, side_in, solutions, Solved, solve_fault, settled_solve, solve}
use Rattle.statement.specs.declared.Answer.{Answer}
use Rattle.statement.specs.declared.Answer.TheVariants.{Accepted}
use Rattle.statement.specs.declared.Record.{Record}
use Rattle.laws.specs.Given.{Met, scratch, Sided}
use Rattle.laws.specs.Sides.{alone, SidesApart}
use Rattle.laws.proofs.Exactly.{solve_refused, solve_passes}
use Rattle.laws.proofs.Given.{solve_given}
use Rattle.laws.proofs.Ranks.{list_length}

-- ---- lists of n numbers each, end to end

module _ (n : ℕ) (f : ℕ → List Float) (each : (j : ℕ) → length (f j) ≡ n) where
  pub joined_length : (k : ℕ) → length (joined f k) ≡ n * k
  unfolding joined
  joined_length zero = sym (mul-zero n)
  joined_length (suc k) = length-append (joined f k) (f k) ∙ omega (arith, joined_length k, each k, mul-suc n k)

  -- list j stands where right side j does
  pub joined_side : (k j : ℕ) → j < k → side_in n (joined f k) j ≡ f j
  unfolding joined side_in
  joined_side zero j h = absurd (not-suc-le-zero h)
  joined_side (suc k) j h = ⊎_elim
      (λ (e : suc j ≡ suc k).
      let q : j ≡ k = omega arith in
      rw q (ap (take n) (drop_at (joined f k) (f k) (n * k) (joined_length k)) ∙ take_all n (f k) (omega (arith, each k))))
      (λ (l : suc j < suc k).
      let q : n * j + n ≤ n * k = omega (arith, mul-suc n j, mul-le-mul (le_refl n) (let z : suc j ≤ k = omega arith in z)) in
      ap (take n) (drop-append-le (n * j) (joined f k) (f k) (omega (arith, joined_length k)))
      ∙ take-append-le n (drop (n * j) (joined f k)) (f k) (simp length-drop (omega (arith, joined_length k)))
      ∙ joined_side k j (omega arith)) (eq-or-lt_of_le h)

pub solution_length : (n : ℕ) (q : List ℕ) (S : Shape) (v b : List Float) → length (solution n q S v b) ≡ n
unfolding solution
solution_length n q S v b = list_length _ n

module _ (n : ℕ) (q : List ℕ) (S : Shape) (v : List Float) where
  pub solutions_length : (k : ℕ) (b : List Float) → length (solutions n q S v k b) ≡ n * k
  unfolding solutions
  solutions_length k b = joined_length n _ (λ j. solution_length n q S v (side_in n b j)) k

  pub solutions_side : (k j : ℕ) (b : List Float) → j < k → side_in n (solutions n q S v k b) j ≡ solution n q S v (side_in n b j)
  unfolding solutions
  solutions_side k j b h = joined_side n (λ j. solution n q S v (side_in n b j)) (λ j. solution_length n q S v (side_in n b j)) k j h

  -- one right side is the whole buffer
  pub one_side : (b : List Float) → length b ≡ n → solutions n q S v 1 b ≡ solution n q S v b
  unfolding solutions joined side_in
  one_side b e = ap (solution n q S v) (rw (mul-zero n) (take_all n b (omega arith)))

-- ---- what a call leaves

-- right side j of k has its n numbers
pub side_length : (n k j : ℕ) (b : List Float) → length b ≡ n * k → j < k → length (side_in n b j) ≡ n
unfolding side_in
side_length n k j b e h = length-take-le n (drop (n * j) b) (simp length-drop (omega (arith, mul-suc n j, mul-le-mul (le_refl n) (let z : suc j ≤ k = h in z))))

no_numbers : (b : List Float) → length b ≡ 0 → ◌≡◌ {A = List Float} [] b
no_numbers [] e = refl
no_numbers (x ∷ b) e = absurd (omega arith)

module _ (R : Record) (f : FactorAreas) (words floats : ℕ) where
  abbrev solutions_of : ℕ → List Float → List Float
  solutions_of k b = solutions R.n f.permutation (shape_in R f) f.values k b

  abbrev left : Option Answer → ℕ → List Float → Solved
  left o k b = settled_solve o b (solutions_of k b) words floats

  module _ (k : ℕ) (b : List Float) where
    sided : (solve R f k b words floats).answer ≡ Accepted → Sided R f k b words floats × Met (scratch R f k b words floats)
    sided = (solve_given R f k b words floats).accepted.0

    pub accepted_left : (solve R f k b words floats).answer ≡ Accepted → (solve R f k b words floats).b ≡ solutions_of k b
    unfolding solve settled_solve
    accepted_left h =
        let s = sided h in
        rw (solve_passes R f k b words floats s.0.0.0 s.0.0.1 s.0.1 (s.1 0 (omega arith)) (s.1 1 (omega arith)))

  -- ---- beside the right side j alone

  module _ (k : ℕ) (b : List Float) (j : ℕ) (h : j < k) (ok : (solve R f k b words floats).answer ≡ Accepted) where
    one : length (side_in R.n b j) ≡ R.n
    one = side_length R.n k j b (sided k b ok).0.1 h

    pub alone_accepted : (alone R f k b words floats j).answer ≡ Accepted
    alone_accepted =
        let s = sided k b ok in
        (solve_given R f 1 (side_in R.n b j) words floats).accepted.1 (((s.0.0.0, omega arith), omega (arith, one)), s.1)

    pub alone_same : side_in R.n (solve R f k b words floats).b j ≡ (alone R f k b words floats j).b
    alone_same =
        ap (λ x. side_in R.n x j) (accepted_left k b ok)
        ∙ solutions_side R.n f.permutation (shape_in R f) f.values k j b h
        ∙ sym (one_side R.n f.permutation (shape_in R f) f.values (side_in R.n b j) one)
        ∙ sym (accepted_left 1 (side_in R.n b j) alone_accepted)

  -- ---- beside another buffer, and with no right side

  others_by : (o : Option Answer) (k j : ℕ) (b c : List Float) → j < k → side_in R.n c j ≡ side_in R.n b j → side_in R.n (left o k c).b j ≡ side_in R.n (left o k b).b j
  unfolding settled_solve
  others_by none k j b c h e =
      solutions_side R.n f.permutation (shape_in R f) f.values k j c h
      ∙ ap (solution R.n f.permutation (shape_in R f) f.values) e
      ∙ sym (solutions_side R.n f.permutation (shape_in R f) f.values k j b h)
  others_by (some a) k j b c h e = e

  -- the tests read the buffer's length alone
  fault_same : (k : ℕ) (b c : List Float) → length c ≡ length b → solve_fault R f k c words floats ≡ solve_fault R f k b words floats
  unfolding solve_fault
  fault_same k b c e = rw e

  answer_same : (o : Option Answer) (k : ℕ) (b c : List Float) → (left o k c).answer ≡ (left o k b).answer
  unfolding settled_solve
  answer_same none k b c = refl
  answer_same (some a) k b c = refl

  pub answers_alike : (k : ℕ) (b c : List Float) → length c ≡ length b → (solve R f k c words floats).answer ≡ (solve R f k b words floats).answer
  unfolding solve
  answers_alike k b c e = rw (fault_same k b c e) (answer_same _ k b c)

  pub others_same : (k : ℕ) (b c : List Float) (j : ℕ) → length c ≡ length b → j < k → side_in R.n c j ≡ side_in R.n b j → side_in R.n (solve R f k c words floats).b j ≡ side_in R.n (solve R f k b words floats).b j
  unfolding solve
  others_same k b c j e h s = rw (fault_same k b c e) (others_by _ k j b c h s)

  long_by : (o : Option Answer) (k : ℕ) (b : List Float) → (o ≡ none → length b ≡ R.n * k) → length (left o k b).b ≡ length b
  unfolding settled_solve
  long_by none k b h = solutions_length R.n f.permutation (shape_in R f) f.values k b ∙ sym (h refl)
  long_by (some a) k b h = refl

  pub sides_long : (k : ℕ) (b : List Float) → length (solve R f k b words floats).b ≡ length b
  unfolding solve settled_solve
  sides_long k b = long_by (solve_fault R f k b words floats) k b (λ e. (sided k b (rw e)).0.1)

  pub no_sides : (b : List Float) → (solve R f 0 b words floats).b ≡ b
  unfolding solve settled_solve solutions joined
  no_sides b = go (solve_fault R f 0 b words floats) refl
    where
      go : (o : Option Answer) → solve_fault R f 0 b words floats ≡ o → (left o 0 b).b ≡ b
      go none e = no_numbers b (omega (arith, (sided 0 b (rw e)).0.1))
      go (some a) e = refl

pub sides_apart : SidesApart
sides_apart R f k b words floats = record {
  long = sides_long R f words floats k b;
  refused = solve_refused R f k b words floats;
  nothing = λ e. rw e (no_sides R f words floats b);
  accepted = alone_accepted R f words floats k b;
  same = alone_same R f words floats k b;
  alike = λ c. answers_alike R f words floats k b c;
  others = λ c j. others_same R f words floats k b c j;
}
