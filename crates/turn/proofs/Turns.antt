-- One supernode's turn: the positions of its rows are set among the words, and what is only read stays. Assumes nothing.
use mathlib.Core.Path.{◌≡◌, refl, sym, ap, ◌∙◌}
use mathlib.Core.List.{List, ◌++◌}
use Prim.Native.Nat.{ℕ, suc, ◌+◌, ◌-◌, ◌≤◌, ◌<◌}
use native.Mathlib.Omega.{arith}
use native.Mathlib.Nat.{le_refl}
use native.Mathlib.Numerals.{add-one}
use lib.ListN.{length, get_or, take, drop, get_or-append}
use lib.Seq.{drop-drop}
use lib.Ieee.{Float}
use Rattle.statement.specs.Shape.{Shape, height}
use Rattle.laws.specs.Lower.{lower_value, Lower}
use Rattle.areas.specs.Touch.{Touched}
use Rattle.areas.proofs.Part as part
use Rattle.areas.proofs.Middle as middle
use Rattle.updates.specs.Layout.{updates_at, owners_at, offsets_at, starts_at, rows_at}
use Rattle.assembly.specs.Ready.{row, Rows}
use Rattle.step.specs.Answer.{Ready, Stepped}
use Rattle.std.specs.Prelude.{⊤, Result}
use Rattle.statement.specs.declared.Factored.{Factored}
use Rattle.assembly.proofs.Gather as gather
use Rattle.turn.specs.Turn.{DueAt, Fetched}

-- words that are the same from e on
pub drop_same : (v w : List ℕ) (e x : ℕ) → e ≤ x → drop e w ≡ drop e v → drop x w ≡ drop x v
drop_same v w e x h q = back w ∙ ap (drop (x - e)) q ∙ sym (back v)
  where
    back : (u : List ℕ) → drop x u ≡ drop (x - e) (drop e u)
    back u = ap (λ k. drop k u) (let z : x ≡ e + (x - e) = omega arith in z) ∙ sym (drop-drop (x - e) e u)

-- past e, words that are the same from e on
pub later : (v w : List ℕ) (e x : ℕ) → e ≤ x → drop e w ≡ drop e v → part.mid 0 w x ≡ drop x v
later v w e x h q = part.mid_is 0 w x ∙ drop_same v w e x h q

module _ (S : Shape) (J : ℕ) (groups words : List ℕ) (matrix : List Float) (vlen wlen : ℕ) (t : DueAt S J groups words matrix vlen wlen) where
  abbrev e : ℕ
  e = updates_at S.n

  pub from : S.n + 1 ≤ e
  from = omega arith

  pub room : e ≤ length words
  room = omega (arith, t.inside)

  pub next_is : get_or groups (J + 1) 0 ≡ get_or groups (suc J) 0
  next_is = ap (λ k. get_or groups k 0) (add-one J)

  pub lent_is : length (middle.lent words (S.n + 1) e from room) ≡ S.n
  lent_is = omega (arith, middle.lent_length words (S.n + 1) e from room)

  module _ (pl : List ℕ) (p : Touched 0 (middle.lent words (S.n + 1) e from room) pl (get_or S.starts (J + 1) 0 - get_or S.starts J 0) (λ i. get_or S.rows (get_or S.starts J 0 + i) 0) (λ i. i)) where
    abbrev now : List ℕ
    now = middle.back words (S.n + 1) e from room pl

    long : length pl ≡ e - (S.n + 1)
    long = p.size ∙ middle.lent_length words (S.n + 1) e from room

    pub kept : length now ≡ length words
    kept = middle.back_length words (S.n + 1) e from room pl long

    pub front : take (S.n + 1) now ≡ take (S.n + 1) words
    front = middle.back_take words (S.n + 1) e from room pl long

    tail : drop e now ≡ drop e words
    tail = middle.back_drop words (S.n + 1) e from room pl long

    pub rest : drop (owners_at S.n) now ≡ drop (owners_at S.n) words
    rest = drop_same words now e (owners_at S.n) (omega arith) tail

    -- what stands past the positions, as it is lent
    past : (x : ℕ) → e ≤ x → part.mid 0 now x ≡ drop x words
    past x h = later words now e x h tail

    places : part.mid 0 now (S.n + 1) ≡ pl ++ drop e words
    places = part.mid_is 0 now (S.n + 1) ∙ middle.back_from words (S.n + 1) e from room pl long

    b : Rows S (suc J)
    b = t.shape

    -- J's rows know their positions
    pub placed : (i : ℕ) → i < height S J → get_or (part.mid 0 now (S.n + 1)) (row S J i) 0 ≡ i
    placed i h =
        ap (λ l. get_or l (row S J i) 0) places ∙
        get_or-append pl (drop e words) 0 (row S J i) (omega (arith, long, t.shape.below J i (le_refl (suc J)) h)) ∙
        ap (λ x. get_or pl x 0) (sym (gather.row_is S b J i (le_refl (suc J)) h)) ∙
        p.inside i (omega (arith, gather.height_code S b J (le_refl (suc J))))

    pub ready : Fetched S J groups words → Ready S J (part.mid 0 now (offsets_at S.n)) (part.mid 0 now e) (get_or groups (J + 1) 0 - get_or groups J 0) S.n (part.mid 0 now (starts_at S.n)) (part.mid 0 now (rows_at S.n)) vlen wlen (part.mid 0 now (S.n + 1))
    ready f =
        record {
          shape = t.shape;
          updates = rw (next_is, past e (omega arith)) f.updates;
          words = omega (arith, next_is, f.fits, part.mid_length 0 now e, kept, t.inside);
          offsets = rw (past (offsets_at S.n) (omega arith)) t.offsets;
          columns = refl;
          pattern = rw (past (starts_at S.n) (omega arith), past (rows_at S.n) (omega arith)) t.pattern;
          values = t.values;
          work = t.work;
          placed = placed;
          places = omega (arith, part.mid_length 0 now (S.n + 1), kept, room);
        }

    -- A's lower columns, as they are lent
    pub lower_now : Lower (part.mid 0 now (starts_at S.n)) (part.mid 0 now (rows_at S.n)) matrix S.n
    lower_now = rw (past (starts_at S.n) (omega arith), past (rows_at S.n) (omega arith)) t.lower

    pub stepped : (l r : List ℕ) (v old new : List Float) (x : Result ⊤ Factored) → l ≡ part.mid 0 now (starts_at S.n) → r ≡ part.mid 0 now (rows_at S.n) →
        Stepped S (lower_value l r v) J old new x → Stepped S (lower_value (drop (starts_at S.n) words) (drop (rows_at S.n) words) v) J old new x
    stepped l r v old new x e₁ e₂ q = rw (← past (starts_at S.n) (omega arith), ← past (rows_at S.n) (omega arith), ← e₁, ← e₂) q
