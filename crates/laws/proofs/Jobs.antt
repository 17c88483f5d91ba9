-- Of a job number 5 names area 11 alone, and what factor accepts solve accepts (specs/Jobs). Assumes nothing.
use mathlib.Core.Path.{◌≡◌, refl, sym, ap, ◌∙◌}
use mathlib.Core.Logic.{⊎_elim}
use mathlib.Core.List.{[]}
use mathlib.Core.Option.{none}
use Prim.Native.Nat.{ℕ, zero, suc, ◌≤◌, ◌<◌}
use native.Mathlib.Omega.{arith}
use native.Mathlib.Nat.{le_refl}
use lib.ListN.{length}
use borrow.Author.Tests.{le-ltb}
use Rattle.statement.specs.Input.{Matrix, WellFormed, pattern}
use Rattle.statement.specs.Shape.{supernodes}
use Rattle.statement.specs.Supernodes.{updates}
use Rattle.statement.specs.Areas.{needs}
use Rattle.statement.specs.Calls.{analysis, record_of, settled, factor_needs, factor_later, later, factor}
use Rattle.statement.specs.Solve.{shape_in, solution, solve_fault, settled_solve, solve}
use Rattle.statement.specs.Job.{Frames, matrix_of, job_room}
use Rattle.statement.specs.Demands.{Such}
use Rattle.laws.specs.Given.{nth, Met, Ordered, ran}
use Rattle.laws.specs.Jobs.{factored, summary, areas, solved, JobsSuffice}
use Rattle.laws.specs.Numbered as numbered
use Rattle.laws.proofs.Stages.{short_passed}
use Rattle.laws.proofs.Given.{factor_none, factor_given}
use Rattle.laws.proofs.Analysed as analysed
use Rattle.laws.proofs.Solvable.{Held, accepted_solves}
use Rattle.laws.proofs.Sides.{one_side}
use Rattle.laws.proofs.Lengths.{fits}
use Rattle.laws.proofs.JobsRead.{Stands, job_stands}
use Rattle.laws.proofs.JobsRoom.{triangle, triangle_grows, rows_triangle, updates_triangle}
use Rattle.statement.specs.declared.Answer.TheVariants.{Accepted, ShortArea}
use Rattle.statement.specs.declared.Order.TheVariants.{Plain}
use Rattle.statement.specs.declared.Stop.TheVariants.{End}

module _ (j : Frames) (s : Stands j) where
  abbrev M : Matrix
  M = matrix_of j

  -- ---- number 5

  early_met : Met (factor_needs M job_room)
  unfolding factor_needs needs job_room matrix_of
  early_met zero h = s.small
  early_met (suc zero) h = omega (arith, s.small)
  early_met (suc (suc zero)) h = omega (arith, s.small)
  early_met (suc (suc (suc zero))) h = omega (arith, s.small)
  early_met (suc (suc (suc (suc zero)))) h = omega (arith, s.small)
  early_met (suc (suc (suc (suc (suc zero))))) h = s.small
  early_met (suc (suc (suc (suc (suc (suc zero)))))) h = omega (arith, s.small, s.few, s.many)
  early_met (suc (suc (suc (suc (suc (suc (suc zero))))))) h = omega (arith, s.small, s.few, s.many)
  early_met (suc (suc (suc (suc (suc (suc (suc (suc k)))))))) h = absurd (omega arith)

  largest : triangle M.n ≤ 8256
  unfolding matrix_of
  largest = let t : triangle 128 ≡ 8256 = unfold triangle in refl in omega (arith, triangle_grows j.n 128 s.small)

  rows_fit : WellFormed M → length (analysis M).shape.rows ≤ 8256
  unfolding analysis
  rows_fit w = omega (arith, rows_triangle (numbered.factored (pattern M) M.n) M.n (analysed.up M w), largest)

  updates_fit : WellFormed M → length (updates (analysis M).shape) ≤ 8256
  unfolding analysis
  updates_fit w = omega (arith, updates_triangle (numbered.factored (pattern M) M.n) M.n (analysed.up M w), largest)

  late_named : (w : WellFormed M) (a k : ℕ) → k < 3 → (nth (factor_later (analysis M) job_room) k).length < (nth (factor_later (analysis M) job_room) k).need → a ≡ (nth (factor_later (analysis M) job_room) k).area → a ≡ 11
  unfolding factor_later later job_room
  late_named w a zero h z e = absurd (omega (arith, rows_fit w))
  late_named w a (suc zero) h z e = absurd (omega (arith, updates_fit w))
  late_named w a (suc (suc zero)) h z e = e
  late_named w a (suc (suc (suc k))) h z e = absurd (omega arith)

  eleven : (a d : ℕ) → (factored j).returned.answer ≡ ShortArea a d → a ≡ 11
  unfolding factor_later later
  eleven a d e =
      ⊎_elim (λ x. let f = x.1.first in absurd (omega (arith, f.holds, early_met x.1.place f.below)))
      (λ x. let f = x.1.first in late_named x.0.0.0 a x.1.place f.below f.holds x.1.area)
      (((factor_given M j.cap Plain [] End job_room).sizes.short_area a d).0 e)

  -- ---- solve

  module _ (sided : length j.b ≡ j.n) (ok : (factored j).returned.answer ≡ Accepted) where
    ordered : Ordered M j.cap Plain [] End job_room
    ordered = ((factor_given M j.cap Plain [] End job_room).accepted.0 ok).0

    such : Such M j.cap job_room
    such =
        let g = ordered.0 in
        record {
          well = g.0.0.0;
          numbers = unfold matrix_of in s.numbers;
          capped = unfold analysis in g.0.1;
          room = (short_passed (factor_needs M job_room)).1 g.0.0.1;
          more = (short_passed (factor_later (analysis M) job_room)).1 g.1;
        }

    held : Held M job_room (factored j) (ran M j.cap Plain [] End job_room).values
    unfolding factor
    held =
        let N = supernodes (analysis M).shape in
        rw (factor_none M j.cap Plain [] End job_room ok, le-ltb N N (le_refl N))
        (unfold settled in record { summary = refl; areas = refl; filled = fits M j.cap Plain [] End job_room ordered ∙ unfold analysis in refl })

    passes : solve_fault (summary j) (areas j) 1 j.b job_room.words job_room.floats ≡ none
    unfolding matrix_of job_room
    passes = accepted_solves M j.cap job_room such (factored j) _ held 1 j.b job_room.words job_room.floats (omega arith) (omega (arith, sided)) (omega (arith, s.small)) (omega (arith, s.small))

    accepted : (solved j).answer ≡ Accepted
    unfolding solve settled_solve
    accepted = rw passes

    printed : (solved j).b ≡ solution (summary j).n (areas j).permutation (shape_in (summary j) (areas j)) (areas j).values j.b
    unfolding solve settled_solve
    printed = rw passes (one_side (summary j).n _ _ _ j.b (sided ∙ sym (ap (λ R. R.n) held.summary ∙ unfold record_of matrix_of in refl)))

pub jobs_suffice : JobsSuffice
jobs_suffice text j e = let h = job_stands text j e in record { eleven = eleven j h.0; accepted = accepted j h.0 h.1; printed = printed j h.0 h.1 }
