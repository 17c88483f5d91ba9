-- What `takes` does, by the code's tests, and the form that lines which can stand leave. Assumes nothing.
use mathlib.Core.Path.{◌≡◌, refl, sym, ap, subst, ◌∙◌}
use mathlib.Core.Bool.{Bool, true, false, cond, ◌&&◌}
use mathlib.Core.List.{List, [], ◌∷◌, ◌++◌}
use mathlib.Core.Option.{none, some}
use Prim.Native.Nat.{ℕ, suc, ◌-◌, ◌<◌, ◌≤◌}
use native.Mathlib.Omega.{arith}
use borrow.Author.Tests.{ltb-true, leb-true, eqb-true, lt-ltb, le-ltb}
use lib.Dec.{eqb, leb, ltb}
use lib.ListN.{length, length-append}
use lib.Seq.{get_or-append_seam}
use lib.Ieee.{of_bits, binary64}
use Rattle.statement.specs.Supernodes.{below}
use Rattle.statement.specs.Job.{Frame, begin, stored, side, end, Phase, unbegun, storing, siding, ended, Frames, no_frames, begun, with_stored, with_side, finished, takes}
use Rattle.statement.specs.declared.Original.{Original}
use Rattle.laws.proofs.Bools.{and_l, and_r}
use Rattle.frames.specs.Held.{stage_of, last_column, Form, begin_ok, stored_ok, is_open, side_ok, end_ok}

-- ---- tests

pub and_both : (a b : Bool) → a && b ≡ true → (a ≡ true) × (b ≡ true)
and_both a b h = (and_l a b h, and_r a b h)

pub begin_says : (stage n : ℕ) → begin_ok stage n ≡ true → (stage ≡ 0) × (n ≤ 128)
begin_says stage n e = let h = and_both (eqb stage 0) (leb n 128) e in (eqb-true stage 0 h.0, leb-true n 128 h.1)

pub record Stores (stage n : ℕ) (known : Original) (count : ℕ) (column : Original) : Type 0 where
  pub stage_is : stage ≡ 1
  pub inside : column.0 < n
  pub rises : known.0 ≤ column.0
  pub room : count < 4096

pub stored_says : (stage n : ℕ) (known : Original) (count : ℕ) (column : Original) → stored_ok stage n known count column ≡ true → Stores stage n known count column
stored_says stage n known count column e =
    let a = and_both (eqb stage 1) _ e in
    let b = and_both (ltb column.0 n) _ a.1 in
    let d = and_both (leb known.0 column.0) (ltb count 4096) b.1 in
    record { stage_is = eqb-true stage 1 a.0; inside = ltb-true column.0 n b.0; rises = leb-true known.0 column.0 d.0; room = ltb-true count 4096 d.1 }

open_says : (stage : ℕ) → is_open stage ≡ true → (1 ≤ stage) × (stage ≤ 2)
open_says stage e = let h = and_both (leb 1 stage) (leb stage 2) e in (leb-true 1 stage h.0, leb-true stage 2 h.1)

pub record Sides (stage n given : ℕ) (position : Original) : Type 0 where
  pub from : 1 ≤ stage
  pub to : stage ≤ 2
  pub inside : position.0 < n
  pub next : position.0 ≡ given

pub side_says : (stage n given : ℕ) (position : Original) → side_ok stage n given position ≡ true → Sides stage n given position
side_says stage n given position e =
    let a = and_both (is_open stage) _ e in
    let b = and_both (ltb position.0 n) (eqb position.0 given) a.1 in
    let o = open_says stage a.0 in
    record { from = o.0; to = o.1; inside = ltb-true position.0 n b.0; next = eqb-true position.0 given b.1 }

pub end_says : (stage n given : ℕ) → end_ok stage n given ≡ true → (1 ≤ stage) × (stage ≤ 2) × (given ≡ n)
end_says stage n given e =
    let a = and_both (is_open stage) (eqb given n) e in
    let o = open_says stage a.0 in
    (o.0, o.1, eqb-true given n a.1)

-- ---- the frames with one more

abbrev pub begun_in : ℕ → ℕ → Frames
begun_in n cap = record { phase = storing; n = n; cap = cap; columns = []; rows = []; values = []; b = [] }

abbrev pub stored_in : Frames → Original → Original → ℕ → Frames
stored_in j column row bits = record { phase = storing; n = j.n; cap = j.cap; columns = j.columns ++ (column.0 ∷ []); rows = j.rows ++ (row.0 ∷ []); values = j.values ++ (of_bits binary64 bits ∷ []); b = [] }

abbrev pub sided_in : Frames → ℕ → Frames
sided_in j bits = record { phase = siding; n = j.n; cap = j.cap; columns = j.columns; rows = j.rows; values = j.values; b = j.b ++ (of_bits binary64 bits ∷ []) }

abbrev pub ended_in : Frames → Frames
ended_in j = record { phase = ended; n = j.n; cap = j.cap; columns = j.columns; rows = j.rows; values = j.values; b = j.b }

pub begin_takes : (h : Phase) (j : Frames) (n cap : ℕ) → takes h j (begin n cap) ≡ cond (begin_ok (stage_of h) n) (some (begun_in n cap)) none
unfolding takes begun
begin_takes unbegun j n cap = refl
begin_takes storing j n cap = refl
begin_takes siding j n cap = refl
begin_takes ended j n cap = refl

pub stored_takes : (h : Phase) (j : Frames) (column row : Original) (bits : ℕ)
    → takes h j (stored column row bits) ≡ cond (stored_ok (stage_of h) j.n (last_column j.columns) (length j.columns) column) (some (stored_in j column row bits)) none
unfolding takes with_stored
stored_takes unbegun j column row bits = refl
stored_takes storing j column row bits = refl
stored_takes siding j column row bits = refl
stored_takes ended j column row bits = refl

pub side_takes : (h : Phase) (j : Frames) (position : Original) (bits : ℕ) → takes h j (side position bits) ≡ cond (side_ok (stage_of h) j.n (length j.b) position) (some (sided_in j bits)) none
unfolding takes with_side
side_takes unbegun j position bits = refl
side_takes storing j position bits = refl
side_takes siding j position bits = refl
side_takes ended j position bits = refl

pub end_takes : (h : Phase) (j : Frames) → takes h j end ≡ cond (end_ok (stage_of h) j.n (length j.b)) (some (ended_in j)) none
unfolding takes finished
end_takes unbegun j = refl
end_takes storing j = refl
end_takes siding j = refl
end_takes ended j = refl

-- ---- columns below k

below_more : (k x : ℕ) (l : List ℕ) → x < k → below k (l ++ x ∷ []) ≡ suc (below k l)
unfolding below
below_more k x [] h = rw (lt-ltb x k h)
below_more k x (y ∷ l) h = go (ltb y k) (below_more k x l h)
  where
    go : (t : Bool) → below k (l ++ x ∷ []) ≡ suc (below k l) → cond t (suc (below k (l ++ x ∷ []))) (below k (l ++ x ∷ [])) ≡ suc (cond t (suc (below k l)) (below k l))
    go true i = ap suc i
    go false i = i

pub below_same : (k x : ℕ) (l : List ℕ) → k ≤ x → below k (l ++ x ∷ []) ≡ below k l
unfolding below
below_same k x [] h = rw (le-ltb x k h)
below_same k x (y ∷ l) h = rw (below_same k x l h)

pub last_more : (x : ℕ) (l : List ℕ) → (last_column (l ++ x ∷ [])).0 ≡ x
last_more x l = let n : length (l ++ x ∷ []) - 1 ≡ length l = simp length-append (omega arith) in rw n (get_or-append_seam l x [] 0)

-- ---- the form

pub begun_form : (n cap : ℕ) → n ≤ 128 → Form (begun_in n cap)
unfolding below
begun_form n cap h = record {
  small = h;
  few = omega arith;
  many = refl;
  beside = refl;
  sides = omega arith;
  fresh = λ z. absurd (omega arith);
  bare = λ z. refl;
  full = λ z. absurd (omega arith);
  last = λ k l. refl;
  under = λ k l. refl;
}

pub none_form : Form no_frames
unfolding no_frames below
none_form = record {
  small = omega arith;
  few = omega arith;
  many = refl;
  beside = refl;
  sides = omega arith;
  fresh = λ z. refl;
  bare = λ z. refl;
  full = λ z. refl;
  last = λ k l. refl;
  under = λ k l. refl;
}

module _ (j : Frames) (g : Form j) where
  pub stored_form : (column row : Original) (bits : ℕ) → stored_ok (stage_of j.phase) j.n (last_column j.columns) (length j.columns) column ≡ true → Form (stored_in j column row bits)
  stored_form column row bits e =
      let s = stored_says (stage_of j.phase) j.n (last_column j.columns) (length j.columns) column e in
      let m = length-append j.columns (column.0 ∷ []) in
      let r = length-append j.rows (row.0 ∷ []) in
      let v = length-append j.values (of_bits binary64 bits ∷ []) in
      let a = g.many in
      let b = g.beside in
      let t = last_more column.0 j.columns in
      record {
        small = g.small;
        few = omega (arith, s.room);
        many = omega arith;
        beside = omega arith;
        sides = omega arith;
        fresh = λ z. absurd (omega arith);
        bare = λ z. refl;
        full = λ z. absurd (omega arith);
        last = λ k l. below_more k column.0 j.columns (omega arith) ∙ (let q = g.last k (omega (arith, s.rises)) in omega arith);
        under = λ k l. below_more k column.0 j.columns (omega (arith, s.inside)) ∙ (let q = g.under k l in omega arith);
      }

  pub sided_form : (position : Original) (bits : ℕ) → side_ok (stage_of j.phase) j.n (length j.b) position ≡ true → Form (sided_in j bits)
  sided_form position bits e =
      let s = side_says (stage_of j.phase) j.n (length j.b) position e in
      let m = length-append j.b (of_bits binary64 bits ∷ []) in
      record {
        small = g.small;
        few = g.few;
        many = g.many;
        beside = g.beside;
        sides = omega (arith, s.inside, s.next);
        fresh = λ z. absurd (omega arith);
        bare = λ z. absurd (omega arith);
        full = λ z. absurd (omega arith);
        last = g.last;
        under = g.under;
      }

  pub ended_form : end_ok (stage_of j.phase) j.n (length j.b) ≡ true → Form (ended_in j)
  ended_form e = record {
    small = g.small;
    few = g.few;
    many = g.many;
    beside = g.beside;
    sides = g.sides;
    fresh = λ z. absurd (omega arith);
    bare = λ z. absurd (omega arith);
    full = λ z. (end_says (stage_of j.phase) j.n (length j.b) e).2;
    last = g.last;
    under = g.under;
  }

pub cond_some : (t : Bool) (x y : Frames) → cond t (some x) none ≡ some y → (t ≡ true) × (x ≡ y)
cond_some true x y e = (refl, (cc))
cond_some false x y e = absurd (let z : ◌≡◌ {A = ℕ} 0 1 = cc in omega arith)

pub takes_form : (j : Frames) (f : Frame) (i : Frames) → Form j → takes j.phase j f ≡ some i → Form i
takes_form j (begin n cap) i g e = let w = cond_some _ _ i (sym (begin_takes j.phase j n cap) ∙ e) in subst Form w.1 (begun_form n cap (begin_says (stage_of j.phase) n w.0).1)
takes_form j (stored column row bits) i g e = let w = cond_some _ _ i (sym (stored_takes j.phase j column row bits) ∙ e) in subst Form w.1 (stored_form j g column row bits w.0)
takes_form j (side position bits) i g e = let w = cond_some _ _ i (sym (side_takes j.phase j position bits) ∙ e) in subst Form w.1 (sided_form j g position bits w.0)
takes_form j end i g e = let w = cond_some _ _ i (sym (end_takes j.phase j) ∙ e) in subst Form w.1 (ended_form j g w.0)
