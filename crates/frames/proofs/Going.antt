-- A text is read line by line: what the lines so far say, and what is left. Assumes nothing.
use mathlib.Core.Path.{◌≡◌, refl, sym, ap, subst, ◌∙◌}
use mathlib.Core.Bool.{Bool, true, false}
use mathlib.Core.List.{List, [], ◌∷◌, ◌++◌, append-nil}
use mathlib.Core.Option.{Option, none, some}
use Prim.Native.Nat.{ℕ, zero, suc, ◌+◌, ◌-◌, ◌<◌, ◌≤◌}
use native.Mathlib.Nat.{not-suc-le-zero, le_of_suc-le-suc}
use native.Mathlib.Numerals.{add-one}
use native.Mathlib.Omega.{arith}
use borrow.Author.Tests.{eq-eqb, ne_eqb}
use lib.Dec.{eqb}
use lib.ListN.{length, get_or, take, drop, replicate, length-append, length-drop, length-replicate, drop_of_length-le}
use lib.Seq.{drop-drop, drop-cons, append_snoc}
use lib.Ieee.{Float}
use Rattle.statement.specs.Lists.{list}
use Rattle.statement.specs.Input.{+0}
use Rattle.statement.specs.Supernodes.{below}
use Rattle.statement.specs.Areas.{held}
use Rattle.statement.specs.Job.{Phase, unbegun, storing, siding, ended, Frames, no_frames, next, Reading, whole, fault, at_end, read, matrix_of}
use Rattle.frames.specs.Held.{rank, stage_of, Small, Holds, After, Enough, Cleared, reading_of, answer_of, Kept, Scanned, Done, line_len}
use Rattle.frames.specs.declared.Progress.{Progress}
use Rattle.frames.specs.declared.Phase.TheVariants.{Unbegun}
use Rattle.frames.specs.declared.Whole.{Whole}
use Rattle.frames.specs.declared.Fault.{Fault}
use Rattle.std.specs.Prelude.{None, Some, Result, Ok, Err, is_err}
use Rattle.frames.proofs.Pad.{zeros}
use Rattle.frames.proofs.Forms.{none_form}

-- ---- a line of the text

pub len_here : (l : List ℕ) (i : ℕ) → i < length l → get_or l i 0 ≡ 10 → line_len (drop i l) ≡ 0
unfolding line_len
len_here l i h e = rw (drop-cons l i 0 h, eq-eqb (get_or l i 0) 10 e)

pub len_step : (l : List ℕ) (i : ℕ) → i < length l → (get_or l i 0 ≡ 10 → ⊥) → line_len (drop i l) ≡ line_len (drop (i + 1) l) + 1
unfolding line_len
len_step l i h e = rw (add-one i, drop-cons l i 0 h, ne_eqb (get_or l i 0) 10 e)

pub len_none : (l : List ℕ) (i : ℕ) → length l ≤ i → line_len (drop i l) ≡ 0
unfolding line_len
len_none [] zero h = refl
len_none [] (suc i) h = refl
len_none (b ∷ s) zero h = absurd (not-suc-le-zero h)
len_none (b ∷ s) (suc i) h = len_none s i (le_of_suc-le-suc h)

-- what follows line k, by the frames with it
abbrev pub going : Option Frames → ℕ → List ℕ → Reading
going none k t = fault k
going (some j) k t = read t j (suc k) []

pub read_lf : (j : Frames) (k : ℕ) (cur : List ℕ) (b : ℕ) (t : List ℕ) → eqb b 10 ≡ true → read (b ∷ t) j k cur ≡ going (next j cur) k t
unfolding read
read_lf j k cur b t e = rw (e, read) (go (next j cur) refl)
  where
    go : (o : Option Frames) → next j cur ≡ o → (elim (next j cur) [ none ↦ fault k | some i ↦ read t i (suc k) [] ]) ≡ going (next j cur) k t
    go none f = rw f
    go (some i) f = rw f

pub read_on : (j : Frames) (k : ℕ) (cur : List ℕ) (b : ℕ) (t : List ℕ) → eqb b 10 ≡ false → read (b ∷ t) j k cur ≡ read t j k (cur ++ b ∷ [])
unfolding read
read_on j k cur b t e = rw (e, read)

line_case : (j : Frames) (k : ℕ) (cur : List ℕ) (b : ℕ) (t : List ℕ) (d : Bool) → eqb b 10 ≡ d
    → (line_len t < length t → read t j k (cur ++ b ∷ []) ≡ going (next j (cur ++ b ∷ [] ++ take (line_len t) t)) k (drop (line_len t + 1) t))
    → line_len (b ∷ t) < length (b ∷ t)
    → read (b ∷ t) j k cur ≡ going (next j (cur ++ take (line_len (b ∷ t)) (b ∷ t))) k (drop (line_len (b ∷ t) + 1) (b ∷ t))
unfolding line_len
line_case j k cur b t true e ih h = read_lf j k cur b t e ∙ rw (e, append-nil)
line_case j k cur b t false e ih h =
    let l : line_len t + 1 < suc (length t) = rw e at h in
    read_on j k cur b t e ∙ rw (e, add-one (line_len t + 1), add-one (line_len t), ← append_snoc cur b (take (line_len t) t)) (rw (add-one (line_len t)) at (ih (omega arith)))

pub read_line : (j : Frames) (k : ℕ) (cur t : List ℕ) → line_len t < length t → read t j k cur ≡ going (next j (cur ++ take (line_len t) t)) k (drop (line_len t + 1) t)
read_line j k cur [] h = absurd (not-suc-le-zero h)
read_line j k cur (b ∷ t) h = line_case j k cur b t (eqb b 10) refl (λ l. read_line j k (cur ++ b ∷ []) t l) h

none_left : (n : ℕ) → 0 ≡ suc n → ⊥
none_left n h = omega arith

pub end_cut : (h : Phase) (j : Frames) (k : ℕ) (cur : List ℕ) → 0 < length cur → at_end h j k cur ≡ fault k
unfolding at_end
end_cut unbegun j k cur h = refl
end_cut storing j k cur h = refl
end_cut siding j k cur h = refl
end_cut ended j k [] h = absurd (not-suc-le-zero h)
end_cut ended j k (b ∷ cur) h = refl

cut_case : (j : Frames) (k : ℕ) (cur : List ℕ) (b : ℕ) (t : List ℕ) (d : Bool) → eqb b 10 ≡ d
    → (line_len t ≡ length t → 0 < length (cur ++ b ∷ []) + length t → read t j k (cur ++ b ∷ []) ≡ fault k)
    → line_len (b ∷ t) ≡ length (b ∷ t)
    → read (b ∷ t) j k cur ≡ fault k
unfolding line_len
cut_case j k cur b t true e ih h = absurd (none_left (length t) (rw e at h))
cut_case j k cur b t false e ih h =
    let l : line_len t + 1 ≡ suc (length t) = rw e at h in
    read_on j k cur b t e ∙ ih (omega arith) (simp length-append (omega arith))

-- bytes that no LF ends
read_cut : (j : Frames) (k : ℕ) (cur t : List ℕ) → line_len t ≡ length t → 0 < length cur + length t → read t j k cur ≡ fault k
unfolding read
read_cut j k cur [] h p = end_cut j.phase j k cur (omega arith)
read_cut j k cur (b ∷ t) h p = cut_case j k cur b t (eqb b 10) refl (λ l q. read_cut j k (cur ++ b ∷ []) t l q) h

-- ---- the loop

pub record Going (text st₀ ro₀ : List ℕ) (va₀ ri₀ : List Float) (st ro : List ℕ) (va ri : List Float) (p : Progress) (at line : ℕ) : Type 0 where
  pub frames : Frames
  pub holds : Holds p st ro va ri frames
  pub rest : read (drop at text) frames line [] ≡ reading_of text
  pub inside : at ≤ length text
  pub lines : line ≤ at + 1
  pub small : Small p
  pub long₁ : length st ≡ length st₀
  pub long₂ : length ro ≡ length ro₀
  pub long₃ : length va ≡ length va₀
  pub long₄ : length ri ≡ length ri₀
  pub room : Enough st₀ ro₀ va₀ ri₀

abbrev none_p : Progress
none_p = record { phase = Unbegun; n = 0; cap = 0; known = record { 0 = 0 }; count = 0; given = 0 }

held_one : (st : List ℕ) → 0 < length st → st ≡ replicate (length st) 0 → st ≡ held (length st) 0 (0 ∷ [])
unfolding held
held_one st h e = let k : length st ≡ suc (length st - 1) = omega arith in e ∙ ap (λ (n : ℕ). replicate n 0) k

pub going_start : (text st ro : List ℕ) (va ri : List Float) (p : Progress) → p ≡ none_p → Enough st ro va ri → Cleared st ro va ri st ro va ri → Going text st ro va ri st ro va ri p 0 1
unfolding no_frames list below
going_start text st ro va ri p e room b =
    subst (λ (q : Progress). Going text st ro va ri st ro va ri q 0 1) (sym e)
    (record {
      frames = no_frames;
      holds = record { form = none_form; stage = refl; n = refl; cap = refl; count = refl; given = refl; last = λ z. refl; closed = λ z. refl; starts = held_one st (let k = room.starts in omega arith) b.starts; rows = b.rows ∙ zeros 0 (length ro); values = b.values ∙ zeros +0 (length va); right = b.right ∙ zeros +0 (length ri) };
      rest = refl;
      inside = omega arith;
      lines = omega arith;
      small = record { n = omega arith; known = omega arith };
      long₁ = refl;
      long₂ = refl;
      long₃ = refl;
      long₄ = refl;
      room = room;
    })

pub fault_whole : {k : ℕ} {j : Frames} → fault k ≡ whole j → ⊥
fault_whole h = let z : ◌≡◌ {A = ℕ} 0 1 = cc in omega arith

fault_scanned : (g : Reading) (st ro : List ℕ) (va ri : List Float) (k : ℕ) → g ≡ fault k → Scanned g (Err (record { line = k })) st ro va ri
fault_scanned g st ro va ri k e = record { answer = sym (ap answer_of e); kept = λ j f. absurd (fault_whole (sym e ∙ f)) }

whole_scanned : (g : Reading) (st ro : List ℕ) (va ri : List Float) (p : Progress) (j : Frames) → g ≡ whole j → Holds p st ro va ri j → rank p.phase ≡ 3 → Scanned g (Ok (record { n = p.n; cap = p.cap; entries = p.count })) st ro va ri
unfolding matrix_of
whole_scanned g st ro va ri p j e h s =
    let a = h.n in
    let b = h.cap in
    let c = h.count in
    record {
      answer = rw (e, a, b, c);
      kept = λ i f. subst (λ (x : Reading). Kept st ro va ri x st ro va ri) (sym e ∙ f)
          (record { starts = h.starts ∙ ap (λ (m : ℕ). held (length st) 0 (list (λ k. below k j.columns) (suc m))) (h.closed s); rows = h.rows; values = h.values; right = h.right });
    }

module _ (text st₀ ro₀ : List ℕ) (va₀ ri₀ : List Float) (st ro : List ℕ) (va ri : List Float) (p : Progress) (at line : ℕ) (g : Going text st₀ ro₀ va₀ ri₀ st ro va ri p at line) where
  -- no LF ends what is left
  pub cut_scanned : at < length text → line_len (drop at text) ≡ length (drop at text) → Scanned (reading_of text) (Err (record { line = line })) st ro va ri
  cut_scanned l q = let c = length-drop at text in fault_scanned (reading_of text) st ro va ri line (sym g.rest ∙ read_cut g.frames line [] (drop at text) q (omega arith))

  module _ (e : ℕ) (f : e ≡ at + line_len (drop at text)) (l : e < length text) where
    -- the line that is next
    rest-is : going (next g.frames (take (e - at) (drop at text))) line (drop (e + 1) text) ≡ reading_of text
    rest-is =
        let a = g.inside in
        let c = length-drop at text in
        let k : e - at ≡ line_len (drop at text) = omega arith in
        let m : e + 1 ≡ at + (line_len (drop at text) + 1) = omega arith in
        let d = drop-drop (line_len (drop at text) + 1) at text in
        rw (k, m, ← d) (sym (read_line g.frames line [] (drop at text) (omega arith)) ∙ g.rest)

    module _ (st' ro' : List ℕ) (va' ri' : List Float) where
      pub stop_scanned : After None st' ro' va' ri' (next g.frames (take (e - at) (drop at text))) → Scanned (reading_of text) (Err (record { line = line })) st' ro' va' ri'
      stop_scanned h = fault_scanned (reading_of text) st' ro' va' ri' line (by (next g.frames (take (e - at) (drop at text))) h rest-is)
        where
          by : (o : Option Frames) → After None st' ro' va' ri' o → going o line (drop (e + 1) text) ≡ reading_of text → reading_of text ≡ fault line
          by none a b = sym b
          by (some j) a b = absurd a

      pub going_next : (r : Progress) → After (Some r) st' ro' va' ri' (next g.frames (take (e - at) (drop at text))) → Small r → length st' ≡ length st → length ro' ≡ length ro → length va' ≡ length va → length ri' ≡ length ri
          → Going text st₀ ro₀ va₀ ri₀ st' ro' va' ri' r (e + 1) (line + 1)
      going_next r h small a b c d = by (next g.frames (take (e - at) (drop at text))) h rest-is
        where
          by : (o : Option Frames) → After (Some r) st' ro' va' ri' o → going o line (drop (e + 1) text) ≡ reading_of text → Going text st₀ ro₀ va₀ ri₀ st' ro' va' ri' r (e + 1) (line + 1)
          by none x y = absurd x
          by (some j) x y =
              let n = g.lines in
              let w = g.inside in
              record {
                frames = j;
                holds = x;
                rest = ap (λ (m : ℕ). read (drop (e + 1) text) j m []) (add-one line) ∙ y;
                inside = omega arith;
                lines = omega arith;
                small = small;
                long₁ = a ∙ g.long₁;
                long₂ = b ∙ g.long₂;
                long₃ = c ∙ g.long₃;
                long₄ = d ∙ g.long₄;
                room = g.room;
              }

module _ (text st₀ ro₀ : List ℕ) (va₀ ri₀ : List Float) (st ro : List ℕ) (va ri : List Float) (p : Progress) (at line : ℕ) (g : Going text st₀ ro₀ va₀ ri₀ st ro va ri p at line) (l : length text ≤ at) where
  last : at_end g.frames.phase g.frames line [] ≡ reading_of text
  unfolding read
  last = subst (λ (t : List ℕ). read t g.frames line [] ≡ reading_of text) (drop_of_length-le text l) g.rest

  end_done : (x : Phase) (j : Frames) (k : ℕ) → stage_of x ≡ 3 → at_end x j k [] ≡ whole j
  unfolding at_end
  end_done unbegun j k h = absurd (omega arith)
  end_done storing j k h = absurd (omega arith)
  end_done siding j k h = absurd (omega arith)
  end_done ended j k h = refl

  end_early : (x : Phase) (j : Frames) (k : ℕ) → (stage_of x ≡ 3 → ⊥) → at_end x j k [] ≡ fault k
  unfolding at_end
  end_early unbegun j k h = refl
  end_early storing j k h = refl
  end_early siding j k h = refl
  end_early ended j k h = absurd (h refl)

  pub done_scanned : rank p.phase ≡ 3 → Scanned (reading_of text) (Ok (record { n = p.n; cap = p.cap; entries = p.count })) st ro va ri
  done_scanned q = whole_scanned (reading_of text) st ro va ri p g.frames (sym last ∙ end_done g.frames.phase g.frames line (sym g.holds.stage ∙ q)) g.holds q

  pub short_scanned : (rank p.phase ≡ 3 → ⊥) → Scanned (reading_of text) (Err (record { line = line })) st ro va ri
  short_scanned q = fault_scanned (reading_of text) st ro va ri line (sym last ∙ end_early g.frames.phase g.frames line (λ z. q (g.holds.stage ∙ z)))

-- ---- the whole reader

pub ready : (st₀ ro₀ : List ℕ) (va₀ ri₀ : List Float) (st ro : List ℕ) (va ri : List Float) → Enough st₀ ro₀ va₀ ri₀ → Cleared st₀ ro₀ va₀ ri₀ st ro va ri → Enough st ro va ri × Cleared st ro va ri st ro va ri
ready st₀ ro₀ va₀ ri₀ st ro va ri room c =
    let a : length st ≡ length st₀ = ap length c.starts ∙ length-replicate (length st₀) 0 in
    let b : length ro ≡ length ro₀ = ap length c.rows ∙ length-replicate (length ro₀) 0 in
    let d : length va ≡ length va₀ = ap length c.values ∙ length-replicate (length va₀) +0 in
    let e : length ri ≡ length ri₀ = ap length c.right ∙ length-replicate (length ri₀) +0 in
    let r = room in (
      record { starts = omega arith; rows = omega arith; values = omega arith; right = omega arith },
      record {
        starts = c.starts ∙ ap (λ (n : ℕ). replicate n 0) (sym a);
        rows = c.rows ∙ ap (λ (n : ℕ). replicate n 0) (sym b);
        values = c.values ∙ ap (λ (n : ℕ). replicate n +0) (sym d);
        right = c.right ∙ ap (λ (n : ℕ). replicate n +0) (sym e);
      },
    )

module _ (g : Reading) (st₀ ro₀ : List ℕ) (va₀ ri₀ : List Float) (r : Result Whole Fault) (st ro : List ℕ) (va ri : List Float) (s : Scanned g r st ro va ri)
    (long₁ : length st ≡ length st₀) (long₂ : length ro ≡ length ro₀) (long₃ : length va ≡ length va₀) (long₄ : length ri ≡ length ri₀) where
  pub read_whole : is_err r ≡ false → Done g r st₀ ro₀ va₀ ri₀ st ro va ri
  unfolding matrix_of
  read_whole e = record { answer = s.answer; kept = by g refl }
    where
      by : (x : Reading) → g ≡ x → Kept st₀ ro₀ va₀ ri₀ g st ro va ri
      by (whole j) f =
          let k = s.kept j f in
          subst (λ (x : Reading). Kept st₀ ro₀ va₀ ri₀ x st ro va ri) (sym f)
          (record {
            starts = k.starts ∙ ap (λ (m : ℕ). held m 0 (matrix_of j).starts) long₁;
            rows = k.rows ∙ ap (λ (m : ℕ). held m 0 j.rows) long₂;
            values = k.values ∙ ap (λ (m : ℕ). held m +0 j.values) long₃;
            right = k.right ∙ ap (λ (m : ℕ). held m +0 j.b) long₄;
          })
      by (fault k) f =
          let q : true ≡ false = ap is_err (sym (s.answer ∙ ap answer_of f)) ∙ e in
          absurd (let z : ◌≡◌ {A = ℕ} 0 1 = cc in omega arith)

  pub read_fault : (st' ro' : List ℕ) (va' ri' : List Float) → is_err r ≡ true → Cleared st ro va ri st' ro' va' ri' → Done g r st₀ ro₀ va₀ ri₀ st' ro' va' ri'
  read_fault st' ro' va' ri' e c = record { answer = s.answer; kept = by g refl }
    where
      by : (x : Reading) → g ≡ x → Kept st₀ ro₀ va₀ ri₀ g st' ro' va' ri'
      by (whole j) f =
          let q : false ≡ true = ap is_err (sym (s.answer ∙ ap answer_of f)) ∙ e in
          absurd (let z : ◌≡◌ {A = ℕ} 0 1 = cc in omega arith)
      by (fault l) f =
          subst (λ (x : Reading). Kept st₀ ro₀ va₀ ri₀ x st' ro' va' ri') (sym f)
          (record {
            starts = c.starts ∙ ap (λ (m : ℕ). replicate m 0) long₁ ∙ zeros 0 (length st₀);
            rows = c.rows ∙ ap (λ (m : ℕ). replicate m 0) long₂ ∙ zeros 0 (length ro₀);
            values = c.values ∙ ap (λ (m : ℕ). replicate m +0) long₃ ∙ zeros +0 (length va₀);
            right = c.right ∙ ap (λ (m : ℕ). replicate m +0) long₄ ∙ zeros +0 (length ri₀);
          })
