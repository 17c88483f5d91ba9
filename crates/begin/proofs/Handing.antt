-- What the phases after the survey ask, from what it leaves. Assumes nothing.
use mathlib.Core.Path.{◌≡◌, sym, ◌∙◌}
use mathlib.Core.List.{List}
use mathlib.Core.Option.{none}
use Prim.Native.Nat.{ℕ, ◌+◌, ◌*◌, ◌-◌, ◌≤◌}
use native.Mathlib.Omega.{arith}
use lib.ListN.{length, drop, replicate, length-drop}
use lib.Seq.{get_or-drop}
use lib.Ieee.{Float}
use Rattle.laws.specs.Numbered.{shape_for}
use Rattle.statement.specs.Input.{Matrix, pattern, rows_length}
use Rattle.statement.specs.Fill.{entries}
use Rattle.statement.specs.Postorder as postorder
use Rattle.statement.specs.Supernodes.{update_starts}
use Rattle.statement.specs.Areas.{short, needs}
use Rattle.statement.specs.Calls.{analysis, later, factor_needs, factor_later}
use Rattle.statement.specs.declared.Room.{Room}
use Rattle.laws.proofs.Stages.{short_passed}
use Rattle.areas.specs.Buckets.{Holds}
use Rattle.updates.specs.Layout.{places_at, owners_at, offsets_at}
use Rattle.survey.specs.Laid.{Laid}
use Rattle.survey.specs.declared.Findings.{Findings}
use Rattle.survey.proofs.Surveying.{long}
use Rattle.survey.proofs.Reading.{held_is, fewer, enough_words}
use Rattle.ready.specs.Known.{Structured, Kept}

enough_floats : (M : Matrix) (r : Room) → short (factor_needs M r) ≡ none → rows_length M + M.n ≤ r.floats
unfolding factor_needs needs
enough_floats M r e = (short_passed _).0 e 7 (omega arith)

enough_values : (M : Matrix) (r : Room) → short (factor_later (analysis M) r) ≡ none → entries (pattern M) M.n ≤ r.values
unfolding factor_later later analysis
enough_values M r e = (short_passed _).0 e 2 (omega arith)

-- m words from p on that are kept
kept_part : (n p m : ℕ) {f : ℕ → ℕ} (w w' : List ℕ) → places_at n ≤ p → p + m ≤ offsets_at n → length w' ≡ length w → Kept n w w' → Holds f m (drop p w) → Holds f m (drop p w')
kept_part n p m w w' a b e k h = record {
  fits = omega (arith, h.fits, length-drop p w, length-drop p w', e);
  at = λ j q. get_or-drop p w' j 0 ∙ k (p + j) (omega arith) (omega arith) ∙ sym (get_or-drop p w j 0) ∙ h.at j q;
}

module _ {M : Matrix} {cap : ℕ} {r : Room} {s : Findings} {permutation firsts starts groups tasks words nine : List ℕ} (l : Laid M cap r s permutation firsts starts groups tasks words nine) where
  pub structured : Structured M s.supernodes s.entries permutation firsts starts groups tasks nine
  structured = record {
    known = record {
      well = l.well;
      number = l.many_supernodes;
      order_rest = replicate (r.permutation - length (postorder.permutation (pattern M) M.n)) 0;
      firsts_rest = replicate (r.firsts - length (shape_for M).firsts) 0;
      starts_rest = replicate (r.starts - length (shape_for M).starts) 0;
      tasks_rest = l.rest;
      order_is = held_is r.permutation (postorder.permutation (pattern M) M.n) l.one;
      firsts_are = held_is r.firsts (shape_for M).firsts l.two;
      starts_are = held_is r.starts (shape_for M).starts l.three;
      tasks_are = l.five;
    };
    total_is = l.entries_are;
    groups_rest = replicate (r.groups - length (update_starts (shape_for M))) 0;
    nine_rest = replicate (r.rows - length (shape_for M).rows) 0;
    groups_are = held_is r.groups (update_starts (shape_for M)) l.four;
    nine_is = held_is r.rows (shape_for M).rows l.nine_holds;
  }

  pub enough : (top words : List ℕ) (floats : List Float) → length top ≡ r.top → length words ≡ r.words → length floats ≡ r.floats →
      (M.n ≤ length top) × (24 * M.n + length M.rows + 24 ≤ length words) × (length M.rows + M.n ≤ length floats)
  enough top words floats a b c = (omega (arith, (long M r l.room).six, a), omega (arith, enough_words M r l.room, b), omega (arith, enough_floats M r l.room, c))

  pub entries_fit : s.entries ≤ r.values
  entries_fit = omega (arith, enough_values M r l.later, l.entries_are)

  few : s.supernodes ≤ M.n
  few = omega (arith, fewer M l.well, l.many_supernodes)

  -- over words that keep what laying the updates reads
  pub moved : (words' : List ℕ) → length words' ≡ length words → Kept M.n words words' → Laid M cap r s permutation firsts starts groups tasks words' nine
  moved words' e k = record {
    calm = l.calm;
    well = l.well;
    room = l.room;
    later = l.later;
    many_supernodes = l.many_supernodes;
    many_rows = l.many_rows;
    many_updates = l.many_updates;
    entries_are = l.entries_are;
    work_is = l.work_is;
    one = l.one;
    two = l.two;
    three = l.three;
    four = l.four;
    rest = l.rest;
    five = l.five;
    nine_holds = l.nine_holds;
    laying = record {
      laid = record {
        formed = l.laying.laid.formed;
        small = l.laying.laid.small;
        number = l.laying.laid.number;
        first-is = l.laying.laid.first-is;
        own_is = kept_part M.n (owners_at M.n) M.n words words' (omega arith) (omega arith) e k l.laying.laid.own_is;
        from_is = l.laying.laid.from_is;
        list_is = l.laying.laid.list_is;
      };
      next = kept_part M.n (places_at M.n) s.supernodes words words' (omega arith) (omega (arith, few)) e k l.laying.next;
      room = omega (arith, l.laying.room, e);
      fits = l.laying.fits;
    };
  }
