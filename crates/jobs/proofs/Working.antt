-- From what is read to what is factored. Assumes nothing.
use mathlib.Core.Path.{◌≡◌, refl, sym, ap, ◌∙◌}
use mathlib.Core.List.{List, []}
use Prim.Native.Nat.{ℕ, ◌+◌, ◌≤◌}
use native.Mathlib.Numerals.{add-one}
use native.Mathlib.Omega.{arith}
use lib.ListN.{length, take, length-append, length-drop}
use lib.Ieee.{Float}
use Rattle.statement.specs.Input.{Matrix, matrix}
use Rattle.statement.specs.Calls.{factor}
use Rattle.statement.specs.Solve.{factored_in}
use Rattle.statement.specs.Job.{Frames, Reading, whole, fault, matrix_of, job_room, refusal, written, job, answer_in}
use Rattle.statement.specs.declared.Answer.TheVariants.{WrongFrame}
use Rattle.statement.specs.declared.Outcome.{Outcome}
use Rattle.statement.specs.declared.Order.{Order}
use Rattle.statement.specs.declared.Order.TheVariants.{Plain}
use Rattle.statement.specs.declared.Stop.{Stop}
use Rattle.statement.specs.declared.Update.{Update}
use Rattle.statement.specs.declared.Stop.TheVariants.{End}
use Rattle.statement.specs.declared.Room.{Room}
use Rattle.laws.specs.Jobs.{factored}
use Rattle.laws.specs.Lent.{lent}
use Rattle.factor.specs.Filled.{lent_all}
use Rattle.frames.specs.Held.{reading_of, answer_of, Kept, Done}
use Rattle.frames.specs.declared.Whole.{Whole}
use Rattle.frames.specs.declared.Fault.{Fault}
use Rattle.std.specs.Prelude.{Result, Ok, Err}
use Rattle.frames.proofs.Wholes.{whole_form, front_matrix, front_right}
use Rattle.reply.specs.Made.{Made}

-- what factor settles over a job's areas is the job's
pub made : (j : Frames) {M : Matrix} {cap : ℕ} {o : Order} {list : List ℕ} {e : Stop} {room : Room} {x : Outcome} {p f s g t top w : List ℕ} {y : List Float} {n : List ℕ} {u : List Update} {v b : List Float} {words floats : ℕ}
    → M ≡ matrix_of j → cap ≡ j.cap → o ≡ Plain → list ≡ [] → e ≡ End → room ≡ job_room → record { returned = x; areas = record { permutation = p; firsts = f; starts = s; groups = g; tasks = t; top = top; words = w; floats = y; rows = n; updates = u; values = v } } ≡ factor M cap o list e room → b ≡ j.b → words ≡ job_room.words → floats ≡ job_room.floats → Made j x (lent p f s n v) b words floats
unfolding factored_in
made j m c o l e r h d w y =
    let is : factor _ _ _ _ _ _ ≡ factored j = λ i. factor (m i) (c i) (o i) (l i) (e i) (r i) in
    let z = h ∙ is in
    record {
      out = ap (λ k. k.returned) z;
      factor_areas = ap (λ k. factored_in k.areas) z;
      right = d;
      seven = w;
      eight = y;
    }

-- areas and updates as long as a job's
module _ {p f s g t top w y n v : ℕ} where
  pub roomed : {u : ℕ} → u ≡ 8256 → lent_all p f s g t top w y n job_room.updates v ≡ job_room → lent_all p f s g t top w y n u v ≡ job_room
  unfolding job_room
  roomed e r = ap (λ z. lent_all p f s g t top w y n z v) e ∙ r

  pub words_of : {u : ℕ} → lent_all p f s g t top w y n u v ≡ job_room → w ≡ job_room.words
  words_of r = ap (λ z. z.words) r

  pub floats_of : {u : ℕ} → lent_all p f s g t top w y n u v ≡ job_room → y ≡ job_room.floats
  floats_of r = ap (λ z. z.floats) r

-- ---- the reading

pub read_fault : (t : List ℕ) (k : ℕ) → Err (record { line = k }) ≡ answer_of (reading_of t) → refusal (WrongFrame k) ≡ job t
unfolding job written
read_fault t k e = go (reading_of t) e
  where
    go : (g : Reading) → ◌≡◌ {A = Result Whole Fault} (Err (record { line = k })) (answer_of g) → refusal (WrongFrame k) ≡ written g
    go (whole j) q = absurd (let z : ◌≡◌ {A = ℕ} 0 1 = cc in omega arith)
    go (fault i) q = let s : ◌≡◌ {A = Fault} (record { line = k }) (record { line = i }) = cc in rw (ap (λ (f : Fault). f.line) s)

-- a job that was read, in areas of a job's lengths
pub record Gotten (t : List ℕ) (n cap entries : ℕ) (st ro : List ℕ) (va ri : List Float) : Type 0 where
  pub frames : Frames
  pub reads : reading_of t ≡ whole frames
  pub matrix_is : matrix n (take (n + 1) st) (take entries ro) (take entries va) ≡ matrix_of frames
  pub cap_is : cap ≡ frames.cap
  pub right_is : take n ri ≡ frames.b

pub gotten : (t : List ℕ) {st₀ ro₀ : List ℕ} {va₀ ri₀ : List Float} (n cap entries : ℕ) {st ro : List ℕ} {va ri : List Float} → Done (reading_of t) (Ok (record { n = n; cap = cap; entries = entries })) st₀ ro₀ va₀ ri₀ st ro va ri → Gotten t n cap entries st ro va ri
gotten t {st₀} {ro₀} {va₀} {ri₀} n cap entries {st} {ro} {va} {ri} d = go (reading_of t) refl d.answer d.kept
  where
    go : (g : Reading) → reading_of t ≡ g → ◌≡◌ {A = Result Whole Fault} (Ok (record { n = n; cap = cap; entries = entries })) (answer_of g) → Kept st₀ ro₀ va₀ ri₀ g st ro va ri → Gotten t n cap entries st ro va ri
    go (fault i) q e k = absurd (let z : ◌≡◌ {A = ℕ} 0 1 = cc in omega arith)
    go (whole j) q e k =
        let w = whole_form t j q in
        let s : ◌≡◌ {A = Whole} (record { n = n; cap = cap; entries = entries }) (record { n = j.n; cap = j.cap; entries = length j.columns }) = cc in
        let a = ap (λ (x : Whole). x.n) s in
        let b = ap (λ (x : Whole). x.cap) s in
        let c = ap (λ (x : Whole). x.entries) s in
        record {
          frames = j;
          reads = q;
          matrix_is = rw (a, c, add-one) (front_matrix j w.0 st₀ ro₀ va₀ ri₀ st ro va ri k);
          cap_is = b;
          right_is = rw a (front_right j w.0 st₀ ro₀ va₀ ri₀ st ro va ri k w.1);
        }

pub reads_job : (t : List ℕ) (j : Frames) → reading_of t ≡ whole j → written (whole j) ≡ job t
unfolding job
reads_job t j q = ap written (sym q)

-- ---- the buffer

-- an answer fits
pub answer_fits : (answer out₀ : List ℕ) {out : List ℕ} {r : ℕ} → record { out = out; bytes = r } ≡ answer_in answer out₀ → r ≤ length out
unfolding answer_in
answer_fits answer out₀ w = let b = ap (λ x. x.bytes) w in let h = simp (length-append, length-drop) at (ap (λ x. length x.out) w) in omega arith
