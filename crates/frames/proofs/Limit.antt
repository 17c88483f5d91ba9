-- A job's text has fewer bytes than the limit, at most 15 + 4,096 * 27 + 128 * 23 + 3 = 113,554, and what a text says is
-- decided by as many of its first bytes as the limit allows. Assumes nothing.
use mathlib.Core.Path.{◌≡◌, refl, sym, ap, subst, ◌∙◌}
use mathlib.Core.Bool.{Bool, true, false, ◌&&◌, cond}
use mathlib.Core.List.{List, [], ◌∷◌, ◌++◌}
use mathlib.Core.Logic.{⊎_elim}
use mathlib.Core.Option.{Option, none, some, none-ne-some}
use Prim.Native.Nat.{ℕ, zero, suc, ◌+◌, ◌*◌, ◌≤◌, ◌<◌, min}
use native.Mathlib.Nat.{le_of_lt, min-eq_left, min-eq_right}
use native.Mathlib.Omega.{arith}
use borrow.Author.Tests.{eqb-true}
use lib.Dec.{eqb}
use lib.ListN.{length, take, length-append}
use lib.Seq.{take_all, take-take, take-length}
use Rattle.statement.specs.Job.{value_from, Frame, begin, stored, side, end, frame, frame_of, Phase, unbegun, storing, siding, ended, Frames, no_frames, takes, next, fault, read, written, job, text_limit, ReadIn}
use Rattle.laws.proofs.Bools.{le-or-lt}
use Rattle.frames.specs.Held.{stage_of, last_column, Form, reading_of}
use Rattle.frames.proofs.Forms.{and_both, cond_some, begin_says, stored_says, side_says, end_says, begin_takes, stored_takes, side_takes, end_takes, takes_form, none_form}
use Rattle.frames.proofs.Going.{going, read_lf, read_on, end_cut}

-- ---- a frame has its line's length

abbrev size_of : Frame → ℕ
size_of (begin n cap) = 14
size_of (stored column row bits) = 26
size_of (side position bits) = 22
size_of end = 2

sized : (k m : ℕ) (t : Bool) (g f : Frame) (o : Option Frame) → size_of g ≡ m → (o ≡ some f → k ≡ size_of f) → cond (eqb k m && t) (some g) o ≡ some f → k ≡ size_of f
sized k m t g f o s h e = go (eqb k m && t) refl e
  where
    go : (b : Bool) → eqb k m && t ≡ b → cond b (some g) o ≡ some f → k ≡ size_of f
    go true p q = let r : g ≡ f = cc in eqb-true k m (and_both (eqb k m) t p).0 ∙ sym s ∙ ap size_of r
    go false p q = h q

frame_sized : (k x : ℕ) (f : Frame) → frame k x ≡ some f → k ≡ size_of f
unfolding frame
frame_sized k x f e = sized k 14 _ _ f _ refl (sized k 26 _ _ f _ refl (sized k 22 _ _ f _ refl (sized k 2 _ _ f _ refl (λ q. absurd (none-ne-some _ q))))) e

line_sized : (l : List ℕ) (f : Frame) → frame_of l ≡ some f → length l ≡ size_of f
unfolding frame_of
line_sized l f e = go (value_from 0 l) e
  where
    go : (o : Option ℕ) → (elim o [ none ↦ none | some x ↦ frame (length l) x ]) ≡ some f → length l ≡ size_of f
    go none q = absurd (none-ne-some _ q)
    go (some x) q = frame_sized (length l) x f q

-- ---- the bytes of the lines so far

-- those of the lines `01` and `04`
abbrev ends : Phase → ℕ
ends unbegun = 0
ends storing = 15
ends siding = 15
ends ended = 18

ends_most : (h : Phase) → ends h ≤ 18
ends_most unbegun = omega arith
ends_most storing = omega arith
ends_most siding = omega arith
ends_most ended = omega arith

ends_open : (h : Phase) → 1 ≤ stage_of h → stage_of h ≤ 2 → ends h ≡ 15
ends_open unbegun a b = absurd (omega arith)
ends_open storing a b = refl
ends_open siding a b = refl
ends_open ended a b = absurd (omega arith)

record Counted (j : Frames) (u : ℕ) : Type 0 where
  form : Form j
  bound : u ≤ ends j.phase + 27 * length j.columns + 23 * length j.b

most : (j : Frames) (u : ℕ) → Counted j u → u < text_limit
most j u g = omega (arith, g.bound, g.form.few, g.form.sides, g.form.small, ends_most j.phase)

takes_counted : (j : Frames) (u : ℕ) (f : Frame) (i : Frames) → Counted j u → takes j.phase j f ≡ some i → u + size_of f + 1 ≤ ends i.phase + 27 * length i.columns + 23 * length i.b
unfolding no_frames
takes_counted j u (begin n cap) i g e =
    let w = cond_some _ _ i (sym (begin_takes j.phase j n cap) ∙ e) in
    let z = g.form.fresh (begin_says (stage_of j.phase) n w.0).0 in
    let b : u ≤ 0 = subst (λ (x : Frames). u ≤ ends x.phase + 27 * length x.columns + 23 * length x.b) z g.bound in
    subst (λ (x : Frames). u + 14 + 1 ≤ ends x.phase + 27 * length x.columns + 23 * length x.b) w.1 (omega arith)
takes_counted j u (stored column row bits) i g e =
    let w = cond_some _ _ i (sym (stored_takes j.phase j column row bits) ∙ e) in
    let s = stored_says (stage_of j.phase) j.n (last_column j.columns) (length j.columns) column w.0 in
    let z = g.form.bare s.stage_is in
    let o = ends_open j.phase (omega (arith, s.stage_is)) (omega (arith, s.stage_is)) in
    let m = length-append j.columns (column.0 ∷ []) in
    subst (λ (x : Frames). u + 26 + 1 ≤ ends x.phase + 27 * length x.columns + 23 * length x.b) w.1 (omega (arith, g.bound))
takes_counted j u (side position bits) i g e =
    let w = cond_some _ _ i (sym (side_takes j.phase j position bits) ∙ e) in
    let s = side_says (stage_of j.phase) j.n (length j.b) position w.0 in
    let o = ends_open j.phase s.from s.to in
    subst (λ (x : Frames). u + 22 + 1 ≤ ends x.phase + 27 * length x.columns + 23 * length x.b) w.1 (simp length-append (omega (arith, g.bound)))
takes_counted j u end i g e =
    let w = cond_some _ _ i (sym (end_takes j.phase j) ∙ e) in
    let s = end_says (stage_of j.phase) j.n (length j.b) w.0 in
    let o = ends_open j.phase s.0 s.1 in
    subst (λ (x : Frames). u + 2 + 1 ≤ ends x.phase + 27 * length x.columns + 23 * length x.b) w.1 (omega (arith, g.bound))

-- a line that stands is a frame that is taken
pub next_takes : (j : Frames) (l : List ℕ) (i : Frames) → next j l ≡ some i → (f : Frame) × (frame_of l ≡ some f) × (takes j.phase j f ≡ some i)
unfolding next
next_takes j l i e = go (frame_of l) refl e
  where
    go : (o : Option Frame) → frame_of l ≡ o → (elim o [ none ↦ none | some f ↦ takes j.phase j f ]) ≡ some i → (f : Frame) × (frame_of l ≡ some f) × (takes j.phase j f ≡ some i)
    go none p q = absurd (none-ne-some _ q)
    go (some f) p q = (f, p, q)

next_counted : (j : Frames) (u : ℕ) (l : List ℕ) (i : Frames) → Counted j u → next j l ≡ some i → Counted i (u + length l + 1)
next_counted j u l i g e =
    let w = next_takes j l i e in
    let n = line_sized l w.0 w.1 in
    record { form = takes_form j w.0 i g.form w.2; bound = rw n (takes_counted j u w.0 i g w.2) }

-- ---- past the limit nothing stands

past_line : (j : Frames) (u k : ℕ) (cur t : List ℕ) (o : Option Frames) → next j cur ≡ o → Counted j u → text_limit ≤ u + length cur → going o k t ≡ fault k
past_line j u k cur t none e g h = refl
past_line j u k cur t (some i) e g h = absurd (let m = most i (u + length cur + 1) (next_counted j u cur i g e) in omega arith)

past_case : (j : Frames) (u k : ℕ) (cur : List ℕ) (b : ℕ) (t : List ℕ) (d : Bool) → eqb b 10 ≡ d → Counted j u → text_limit ≤ u + length cur → read t j k (cur ++ b ∷ []) ≡ fault k → read (b ∷ t) j k cur ≡ fault k
past_case j u k cur b t true e g h i = read_lf j k cur b t e ∙ past_line j u k cur t (next j cur) refl g h
past_case j u k cur b t false e g h i = read_on j k cur b t e ∙ i

past : (j : Frames) (u k : ℕ) (cur t : List ℕ) → Counted j u → text_limit ≤ u + length cur → read t j k cur ≡ fault k
unfolding read
past j u k cur [] g h = end_cut j.phase j k cur (let m = most j u g in omega arith)
past j u k cur (b ∷ t) g h = past_case j u k cur b t (eqb b 10) refl g h (past j u k (cur ++ b ∷ []) t g (simp length-append (omega arith)))

-- ---- a text and its first bytes say the same

same_line : (j : Frames) (u k m : ℕ) (cur t : List ℕ) (o : Option Frames) → next j cur ≡ o → Counted j u
    → ((i : Frames) (w : ℕ) → Counted i w → w ≡ u + length cur + 1 → read t i (suc k) [] ≡ read (take m t) i (suc k) []) → going o k t ≡ going o k (take m t)
same_line j u k m cur t none e g f = refl
same_line j u k m cur t (some i) e g f = f i (u + length cur + 1) (next_counted j u cur i g e) refl

same_case : (j : Frames) (u k m : ℕ) (cur : List ℕ) (b : ℕ) (t : List ℕ) (d : Bool) → eqb b 10 ≡ d → Counted j u
    → ((i : Frames) (w : ℕ) → Counted i w → w ≡ u + length cur + 1 → read t i (suc k) [] ≡ read (take m t) i (suc k) [])
    → read t j k (cur ++ b ∷ []) ≡ read (take m t) j k (cur ++ b ∷ [])
    → read (b ∷ t) j k cur ≡ read (b ∷ take m t) j k cur
same_case j u k m cur b t true e g f h = read_lf j k cur b t e ∙ same_line j u k m cur t (next j cur) refl g f ∙ sym (read_lf j k cur b (take m t) e)
same_case j u k m cur b t false e g f h = read_on j k cur b t e ∙ h ∙ sym (read_on j k cur b (take m t) e)

same : (j : Frames) (u k m : ℕ) (cur t : List ℕ) → Counted j u → text_limit ≤ u + length cur + m → read t j k cur ≡ read (take m t) j k cur
same j u k zero cur [] g h = refl
same j u k (suc m) cur [] g h = refl
same j u k zero cur (b ∷ t) g h = past j u k cur (b ∷ t) g (omega arith) ∙ sym (past j u k cur [] g (omega arith))
same j u k (suc m) cur (b ∷ t) g h =
    same_case j u k m cur b t (eqb b 10) refl g (λ i w a l. same i w (suc k) m [] t a (omega arith))
    (same j u k m (cur ++ b ∷ []) t g (simp length-append (omega arith)))

-- what a text says is decided by its first bytes
pub limit : (t : List ℕ) → reading_of t ≡ reading_of (take text_limit t)
unfolding no_frames
limit t = same no_frames 0 1 text_limit [] t (record { form = none_form; bound = omega arith }) (omega arith)

pub job_limit : (t : List ℕ) → job t ≡ job (take text_limit t)
unfolding job
job_limit t = ap written (limit t)

take_least : (l : List ℕ) (m : ℕ) → take (min (length l) m) l ≡ take m l
take_least l m =
    ⊎_elim (λ h. ap (λ (k : ℕ). take k l) (min-eq_left h) ∙ take-length l ∙ sym (take_all m l h))
    (λ h. ap (λ (k : ℕ). take k l) (min-eq_right (le_of_lt h))) (le-or-lt (length l) m)

-- so what is read of a text into a buffer that is long enough says what the text says
pub job_read : (text buffer : List ℕ) (k : ℕ) → text_limit ≤ length buffer → ReadIn text buffer k → job (take k buffer) ≡ job text
job_read text buffer k l h =
    let m = length buffer in
    ap job (h.1 ∙ ap (λ (m : ℕ). take m text) h.0 ∙ take_least text m)
    ∙ job_limit (take m text)
    ∙ ap job (take-take text_limit m text l)
    ∙ sym (job_limit text)
