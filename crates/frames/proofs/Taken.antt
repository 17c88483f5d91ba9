-- One line more: what the progress and the areas hold follows what the lines say. Assumes nothing.
use mathlib.Core.Path.{◌≡◌, refl, sym, ap, subst, ◌∙◌}
use mathlib.Core.Bool.{Bool, true, false, cond}
use mathlib.Core.List.{List, [], ◌∷◌, ◌++◌}
use mathlib.Core.Logic.{⊎_elim}
use mathlib.Core.Option as math
use Rattle.std.specs.Prelude.{Option, Some, None}
use Prim.Native.Nat.{ℕ, suc, ◌+◌, ◌-◌, ◌<◌, ◌≤◌}
use native.Mathlib.Omega.{arith}
use borrow.Author.Tests.{ne_eqb}
use lib.ListN.{length, take, drop, set, replicate, length-append}
use lib.Ieee.{Float, of_bits, binary64}
use Rattle.statement.specs.Lists.{list}
use Rattle.statement.specs.Input.{+0}
use Rattle.statement.specs.Supernodes.{below}
use Rattle.statement.specs.Areas.{held}
use Rattle.statement.specs.Job.{begin, stored, side, end, Frames, no_frames, takes, next, frame_of}
use Rattle.statement.specs.Job as job
use Rattle.statement.specs.declared.Original.{Original}
use Rattle.laws.proofs.Bools.{lt_or_le}
use Rattle.laws.proofs.Ranks.{list_length}
use Rattle.areas.proofs.Lists.{list_ext}
use Rattle.frames.specs.Held.{rank, stage_of, last_column, begin_ok, stored_ok, side_ok, end_ok, Holds, After}
use Rattle.frames.specs.declared.Progress.{Progress}
use Rattle.frames.specs.declared.Phase.TheVariants.{Storing, Siding, Ended}
use Rattle.frames.proofs.Pad.{put_held, fill_held, list_run}
use Rattle.frames.proofs.Forms.{begun_in, stored_in, sided_in, ended_in, begin_takes, stored_takes, side_takes, end_takes, begin_says, stored_says, side_says, end_says, begun_form, stored_form, sided_form, ended_form, below_same, last_more}

module _ (p : Progress) (st ro : List ℕ) (va ri : List Float) (t : Bool) (x : Frames) (o : math.Option Frames) (e : o ≡ cond t (math.some x) math.none) where
  after_no : t ≡ false → After None st ro va ri o
  after_no f = rw (e, f) tt

  after_yes : t ≡ true → Holds p st ro va ri x → After (Some p) st ro va ri o
  after_yes f h = rw (e, f) h

module _ (p : Progress) (st ro : List ℕ) (va ri : List Float) (j : Frames) (h : Holds p st ro va ri j) where
  begin_same : (n : ℕ) (b : Bool) → begin_ok (rank p.phase) n ≡ b → begin_ok (stage_of j.phase) n ≡ b
  begin_same n b e = rw (← h.stage) e

  pub begin_no : (n cap : ℕ) → begin_ok (rank p.phase) n ≡ false → After None st ro va ri (takes j.phase j (begin n cap))
  begin_no n cap e = after_no p st ro va ri _ _ _ (begin_takes j.phase j n cap) (begin_same n false e)

  pub begin_yes : (n cap : ℕ) → begin_ok (rank p.phase) n ≡ true
      → After (Some (record { phase = Storing; n = n; cap = cap; known = record { 0 = 0 }; count = 0; given = 0 })) st ro va ri (takes j.phase j (begin n cap))
  unfolding no_frames
  begin_yes n cap e =
      let w = begin_says (rank p.phase) n e in
      let q : j ≡ no_frames = h.form.fresh (sym h.stage ∙ w.0) in
      let g = subst (λ (i : Frames). Holds p st ro va ri i) q h in
      let z = ap (λ (o : Original). o.0) (g.last (omega arith)) in
      after_yes _ st ro va ri _ (begun_in n cap) _ (begin_takes j.phase j n cap) (begin_same n true e)
      (record {
        form = begun_form n cap w.1;
        stage = refl;
        n = refl;
        cap = refl;
        count = refl;
        given = refl;
        last = λ y. refl;
        closed = λ y. absurd (omega arith);
        starts = g.starts ∙ ap (λ (m : ℕ). held (length st) 0 (list (λ k. below k []) (suc m))) z;
        rows = g.rows;
        values = g.values;
        right = g.right;
      })

  stored_same : (column : Original) → stored_ok (rank p.phase) p.n p.known p.count column ≡ stored_ok (stage_of j.phase) j.n (last_column j.columns) (length j.columns) column
  stored_same column =
      ⊎_elim (λ l. let k = h.last l in rw (h.stage, h.n, k, h.count))
      (λ l.
      let q : (rank p.phase) ≡ 1 → ⊥ = (λ z. omega arith) in
      let s = ne_eqb (rank p.phase) 1 q in
      rw (← h.stage, s))
      (lt_or_le (rank p.phase) 3)

  pub stored_no : (column row : Original) (bits : ℕ) → stored_ok (rank p.phase) p.n p.known p.count column ≡ false → After None st ro va ri (takes j.phase j (stored column row bits))
  stored_no column row bits e = after_no p st ro va ri _ _ _ (stored_takes j.phase j column row bits) (sym (stored_same column) ∙ e)

  -- the starts to column e, of other columns
  reach : (st' : List ℕ) (e : ℕ) (l : List ℕ) → (rank p.phase) < 3 → p.known.0 ≤ e → e < length st → ((k : ℕ) → k ≤ e → below k l ≡ below k j.columns)
      → st' ≡ take (p.known.0 + 1) st ++ (replicate (e - p.known.0) p.count ++ drop (e - p.known.0) (drop (p.known.0 + 1) st))
      → st' ≡ held (length st') 0 (list (λ k. below k l) (suc e))
  reach st' e l s a m same f =
      let hc = h.count in
      let hl = ap (λ (o : Original). o.0) (h.last s) in
      let c = list_length (λ k. below k j.columns) (suc p.known.0) in
      let w = fill_held 0 p.count st st' (list (λ k. below k j.columns) (suc p.known.0)) (p.known.0 + 1) (e - p.known.0) h.starts (omega arith) (omega arith) f in
      let r = list_run (λ k. below k j.columns) p.count (suc p.known.0) (e - p.known.0) (λ k x y. h.form.last k (omega arith) ∙ sym hc) in
      let n : suc p.known.0 + (e - p.known.0) ≡ suc e = omega arith in
      w
      ∙ ap (held (length st') 0) (r ∙ ap (list (λ k. below k j.columns)) n ∙ list_ext (λ k. below k j.columns) (λ k. below k l) (suc e) (λ k x. sym (same k (omega arith))))

  pub stored_yes : (column row : Original) (bits : ℕ) (f : Float) (st' : List ℕ) → stored_ok (rank p.phase) p.n p.known p.count column ≡ true
      → p.n ≤ 128 → 129 ≤ length st → 4096 ≤ length ro → 4096 ≤ length va
      → st' ≡ take (p.known.0 + 1) st ++ (replicate (column.0 - p.known.0) p.count ++ drop (column.0 - p.known.0) (drop (p.known.0 + 1) st)) → f ≡ of_bits binary64 bits
      → After (Some (record { phase = Storing; n = p.n; cap = p.cap; known = column; count = p.count + 1; given = 0 })) st' (set ro p.count row.0) (set va p.count f) ri (takes j.phase j (stored column row bits))
  stored_yes column row bits f st' e small long₁ long₂ long₃ g q =
      let t = sym (stored_same column) ∙ e in
      let u = stored_says (rank p.phase) p.n p.known p.count column e in
      let hc = h.count in
      let hm = h.form.many in
      let hb = h.form.beside in
      let z : length j.b ≡ 0 = h.form.bare (sym h.stage ∙ u.stage_is) in
      after_yes _ st' (set ro p.count row.0) (set va p.count f) ri _ (stored_in j column row bits) _ (stored_takes j.phase j column row bits) t
      (record {
        form = stored_form j h.form column row bits t;
        stage = refl;
        n = h.n;
        cap = h.cap;
        count = simp length-append (omega arith);
        given = refl;
        last = λ y. sym (ap (λ (c : ℕ). record { 0 = c }) (last_more column.0 j.columns));
        closed = λ y. absurd (omega arith);
        starts = reach st' column.0 (j.columns ++ column.0 ∷ []) (omega (arith, u.stage_is)) u.rises (omega (arith, u.inside)) (λ k y. below_same k column.0 j.columns y) g;
        rows = put_held 0 row.0 ro j.rows p.count h.rows (omega arith) (omega (arith, u.room));
        values = subst (λ (x : Float). set va p.count f ≡ held (length (set va p.count f)) +0 (j.values ++ x ∷ [])) q (put_held +0 f va j.values p.count h.values (omega arith) (omega (arith, u.room)));
        right = h.right ∙ ap (held (length ri) +0) (empty j.b z);
      })
    where
      empty : (l : List Float) → length l ≡ 0 → l ≡ []
      empty [] y = refl
      empty (x ∷ l) y = absurd (omega arith)

  side_same : (position : Original) (b : Bool) → side_ok (rank p.phase) p.n p.given position ≡ b → side_ok (stage_of j.phase) j.n (length j.b) position ≡ b
  side_same position b e = rw (← h.stage, ← h.n, ← h.given) e

  pub side_no : (position : Original) (bits : ℕ) → side_ok (rank p.phase) p.n p.given position ≡ false → After None st ro va ri (takes j.phase j (side position bits))
  side_no position bits e = after_no p st ro va ri _ _ _ (side_takes j.phase j position bits) (side_same position false e)

  pub side_yes : (position : Original) (bits : ℕ) (f : Float) → side_ok (rank p.phase) p.n p.given position ≡ true → p.n ≤ 128 → 128 ≤ length ri → f ≡ of_bits binary64 bits
      → After (Some (record { phase = Siding; n = p.n; cap = p.cap; known = p.known; count = p.count; given = position.0 + 1 })) st ro va (set ri position.0 f) (takes j.phase j (side position bits))
  side_yes position bits f e small long q =
      let t = side_same position true e in
      let u = side_says (rank p.phase) p.n p.given position e in
      let hg = h.given in
      after_yes _ st ro va (set ri position.0 f) _ (sided_in j bits) _ (side_takes j.phase j position bits) t
      (record {
        form = sided_form j h.form position bits t;
        stage = refl;
        n = h.n;
        cap = h.cap;
        count = h.count;
        given = simp length-append (omega (arith, u.next));
        last = λ y. h.last (omega (arith, u.to));
        closed = λ y. absurd (omega arith);
        starts = h.starts;
        rows = h.rows;
        values = h.values;
        right = subst (λ (x : Float). set ri position.0 f ≡ held (length (set ri position.0 f)) +0 (j.b ++ x ∷ [])) q (put_held +0 f ri j.b position.0 h.right (omega (arith, u.next)) (omega (arith, u.inside)));
      })

  end_same : (b : Bool) → end_ok (rank p.phase) p.n p.given ≡ b → end_ok (stage_of j.phase) j.n (length j.b) ≡ b
  end_same b e = rw (← h.stage, ← h.n, ← h.given) e

  pub end_no : end_ok (rank p.phase) p.n p.given ≡ false → After None st ro va ri (takes j.phase j end)
  end_no e = after_no p st ro va ri _ _ _ (end_takes j.phase j) (end_same false e)

  pub end_yes : (st' : List ℕ) → end_ok (rank p.phase) p.n p.given ≡ true → p.n ≤ 128 → p.known.0 ≤ p.n → 129 ≤ length st
      → st' ≡ take (p.known.0 + 1) st ++ (replicate (p.n - p.known.0) p.count ++ drop (p.n - p.known.0) (drop (p.known.0 + 1) st))
      → After (Some (record { phase = Ended; n = p.n; cap = p.cap; known = record { 0 = p.n }; count = p.count; given = p.given })) st' ro va ri (takes j.phase j end)
  end_yes st' e small within long g =
      let t = end_same true e in
      let u = end_says (rank p.phase) p.n p.given e in
      after_yes _ st' ro va ri _ (ended_in j) _ (end_takes j.phase j) t
      (record {
        form = ended_form j h.form t;
        stage = refl;
        n = h.n;
        cap = h.cap;
        count = h.count;
        given = h.given;
        last = λ y. absurd (omega arith);
        closed = λ y. h.n;
        starts = reach st' p.n j.columns (omega arith) within (omega arith) (λ k y. refl) g;
        rows = h.rows;
        values = h.values;
        right = h.right;
      })

-- what holds of a line's frame holds of the line
module _ (st ro : List ℕ) (va ri : List Float) (j : Frames) (l : List ℕ) where
  pub next_as : (r : Option Progress) (f : job.Frame) → frame_of l ≡ math.some f → After r st ro va ri (takes j.phase j f) → After r st ro va ri (next j l)
  unfolding next
  next_as r f e h = rw (e, next) h

  pub next_none : frame_of l ≡ math.none → After None st ro va ri (next j l)
  unfolding next
  next_none e = rw (e, next) tt
