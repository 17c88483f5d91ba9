-- What is read as a job: its form, and its lists at the start of their areas. Assumes nothing.
use mathlib.Core.Path.{◌≡◌, refl, sym, ap, subst, ◌∙◌}
use mathlib.Core.Bool.{Bool, true, false}
use mathlib.Core.List.{List, [], ◌∷◌, ◌++◌}
use mathlib.Core.Option.{Option, none, some}
use Prim.Native.Nat.{ℕ, suc, ◌-◌, ◌≤◌}
use lib.Dec.{eqb}
use lib.ListN.{length, take, replicate}
use lib.Seq.{take_at}
use lib.Ieee.{Float}
use Rattle.statement.specs.Input.{matrix}
use Rattle.statement.specs.Supernodes.{below}
use Rattle.statement.specs.Areas.{held}
use Rattle.statement.specs.Job.{Phase, unbegun, storing, siding, ended, Frames, no_frames, next, Reading, whole, fault, at_end, read, matrix_of}
use Rattle.laws.proofs.Ranks.{list_length}
use Rattle.frames.specs.Held.{stage_of, Form, reading_of, answer_of, Kept}
use Rattle.std.specs.Prelude.{Result, IfOk}
use Rattle.frames.specs.declared.Whole.{Whole}
use Rattle.frames.specs.declared.Fault.{Fault}
use Rattle.frames.proofs.Forms.{none_form, takes_form}
use Rattle.frames.proofs.Going.{going, read_lf, read_on, fault_whole}
use Rattle.frames.proofs.Limit.{next_takes}

abbrev Ended : Frames → Type 0
Ended i = Form i × (stage_of i.phase ≡ 3)

end_ended : (h : Phase) (j : Frames) (k : ℕ) (cur : List ℕ) (i : Frames) → j.phase ≡ h → Form j → at_end h j k cur ≡ whole i → Ended i
unfolding at_end
end_ended unbegun j k cur i p g e = absurd (fault_whole e)
end_ended storing j k cur i p g e = absurd (fault_whole e)
end_ended siding j k cur i p g e = absurd (fault_whole e)
end_ended ended j k [] i p g e = let q : j ≡ i = cc in subst Ended q (g, ap stage_of p)
end_ended ended j k (b ∷ cur) i p g e = absurd (fault_whole e)

line_ended : (j : Frames) (k : ℕ) (cur t : List ℕ) (i : Frames) (o : Option Frames) → next j cur ≡ o → Form j
    → ((x : Frames) → Form x → read t x (suc k) [] ≡ whole i → Ended i) → going o k t ≡ whole i → Ended i
line_ended j k cur t i none e g f h = absurd (fault_whole h)
line_ended j k cur t i (some x) e g f h = let w = next_takes j cur x e in f x (takes_form j w.0 x g w.2) h

byte_ended : (j : Frames) (k : ℕ) (cur : List ℕ) (b : ℕ) (t : List ℕ) (i : Frames) (d : Bool) → eqb b 10 ≡ d → Form j
    → ((x : Frames) → Form x → read t x (suc k) [] ≡ whole i → Ended i) → (read t j k (cur ++ b ∷ []) ≡ whole i → Ended i) → read (b ∷ t) j k cur ≡ whole i → Ended i
byte_ended j k cur b t i true e g f h q = line_ended j k cur t i (next j cur) refl g f (sym (read_lf j k cur b t e) ∙ q)
byte_ended j k cur b t i false e g f h q = h (sym (read_on j k cur b t e) ∙ q)

read_ended : (j : Frames) (k : ℕ) (cur t : List ℕ) (i : Frames) → Form j → read t j k cur ≡ whole i → Ended i
unfolding read
read_ended j k cur [] i g e = end_ended j.phase j k cur i refl g e
read_ended j k cur (b ∷ t) i g e = byte_ended j k cur b t i (eqb b 10) refl g (λ x a q. read_ended x (suc k) [] t i a q) (λ q. read_ended j k (cur ++ b ∷ []) t i g q) e

-- a job: n to 128, at most 4,096 entries, with as many rows and values, and n right sides
pub whole_form : (t : List ℕ) (i : Frames) → reading_of t ≡ whole i → Form i × (stage_of i.phase ≡ 3)
whole_form t i e = read_ended no_frames 1 [] t i none_form e

pub whole_fits : (t : List ℕ) (r : Result Whole Fault) → r ≡ answer_of (reading_of t) → IfOk r (λ job. (job.n ≤ 128) × (job.entries ≤ 4096))
whole_fits t r e = rw e (go (reading_of t) refl)
  where
    go : (g : Reading) → reading_of t ≡ g → IfOk (answer_of g) (λ job. (job.n ≤ 128) × (job.entries ≤ 4096))
    go (whole j) q = let f = whole_form t j q in (f.0.small, f.0.few)
    go (fault k) q = tt

-- ---- the job's lists, from areas that hold them

front : {A : Type 0} (z : A) (m : ℕ) (xs l : List A) (n : ℕ) → l ≡ held m z xs → length xs ≡ n → take n l ≡ xs
unfolding held
front z m xs l n e h = ap (take n) e ∙ take_at xs (replicate (m - length xs) z) n h

module _ (i : Frames) (g : Form i) (st₀ ro₀ : List ℕ) (va₀ ri₀ : List Float) (st ro : List ℕ) (va ri : List Float) (k : Kept st₀ ro₀ va₀ ri₀ (whole i) st ro va ri) where
  pub front_starts : take (suc i.n) st ≡ (matrix_of i).starts
  unfolding matrix_of
  front_starts = front 0 (length st₀) (matrix_of i).starts st (suc i.n) k.starts (list_length (λ c. below c i.columns) (suc i.n))

  pub front_rows : take (length i.columns) ro ≡ i.rows
  front_rows = front 0 (length ro₀) i.rows ro (length i.columns) k.rows g.many

  pub front_values : take (length i.columns) va ≡ i.values
  front_values = front _ (length va₀) i.values va (length i.columns) k.values g.beside

  pub front_right : stage_of i.phase ≡ 3 → take i.n ri ≡ i.b
  front_right s = front _ (length ri₀) i.b ri i.n k.right (g.full s)

  -- the matrix that the areas lend is the job's
  pub front_matrix : matrix i.n (take (suc i.n) st) (take (length i.columns) ro) (take (length i.columns) va) ≡ matrix_of i
  unfolding matrix_of
  front_matrix = rw (front_starts, front_rows, front_values)
