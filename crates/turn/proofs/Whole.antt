-- From the areas that the analysis leaves to what the run asks, and from the lent structure back to the whole one. Assumes nothing.
use mathlib.Core.Path.{◌≡◌, sym, ap, ◌∙◌}
use mathlib.Core.List.{List}
use Prim.Native.Nat.{ℕ, suc, ◌+◌, ◌-◌, ◌≤◌, ◌<◌}
use native.Mathlib.Omega.{arith}
use lib.ListN.{length, get_or, take, drop, length-append, length-drop}
use lib.Seq.{get_or-drop}
use lib.Ieee.{Float}
use Rattle.laws.specs.Lent.{laid}
use Rattle.statement.specs.Lists.{joined}
use Rattle.statement.specs.Shape.{Shape, supernodes, parent_of, rows_of, offset}
use Rattle.statement.specs.Supernodes.{updates_of, update_starts}
use Rattle.statement.specs.Run.{run}
use Rattle.laws.specs.Built.{Built}
use Rattle.laws.specs.Lower.{Lower, Pattern}
use Rattle.laws.proofs.Ranks.{list_length}
use Rattle.laws.proofs.Stretches.{offset_mono}
use Rattle.laws.proofs.Listing.{Spans}
use Rattle.laws.proofs.Agree.{Alike, offset_agree, run_agree}
use Rattle.statement.specs.declared.Factored.{Factored}
use Rattle.statement.specs.declared.Update.{Update}
use Rattle.updates.specs.Layout.{offsets_at, parents_at, names_at, starts_at, rows_at}
use Rattle.assembly.specs.Ready.{from}
use Rattle.step.specs.Laid.{Laid}
use Rattle.step.proofs.Link as link
use Rattle.turn.specs.Turn.{count, under, Due}
use Rattle.turn.specs.Run.{fresh, Ran, RunReady}

module _ (S : Shape) (b : Built S) (s : Spans S) (F St R U : List ℕ) (us : List Update) (l : Laid S F St R U us) where
  many : suc (supernodes S) ≤ length U
  unfolding update_starts
  many = omega (arith, ap length l.groups_are, length-append (update_starts S) l.groups_rest, list_length (λ J. length (joined (updates_of S) J)) (suc (supernodes S)))

  -- the structure's offsets and parents, and A's lower columns, stand among the words
  pub due_of : (a : ℕ) (words : List ℕ) (floats : List Float) (entries : ℕ) → S.n ≤ 32768 → supernodes S ≤ S.n → rows_at S.n ≤ length words →
      ((K : ℕ) → K < supernodes S → get_or words (offsets_at S.n + K) 0 ≡ offset S K) → ((K : ℕ) → K < supernodes S → get_or words (parents_at S.n + K) 0 ≡ parent_of S K) →
      ((K : ℕ) → K < supernodes S → parent_of S K ≤ S.n) → Lower (drop (starts_at S.n) words) (drop (rows_at S.n) words) (take a floats) S.n →
      ((J : ℕ) → J < supernodes S → Pattern S J (drop (starts_at S.n) words) (drop (rows_at S.n) words)) → offset S (supernodes S) ≤ entries → a + S.n ≤ length floats →
      Due S.n F St R (supernodes S) U words (take a floats) entries (length floats - a)
  due_of a words floats entries few less room offs parents top lower pattern values work =
      record {
        at = λ J h.
            let T : Shape = laid S.n F St R in
            let same : Alike T S J = link.alike S b s F St R U us l J h in
            record {
              shape = link.rows_of_lem S b s F St R U us l J h few;
              grouped = omega (arith, many);
              inside = room;
              offsets = record {
                room = omega (arith, length-drop (offsets_at S.n) words);
                at = λ K k. get_or-drop (offsets_at S.n) words K 0 ∙ offs K (omega arith) ∙ sym (offset_agree T S J same K (omega arith));
              };
              lower = lower;
              pattern = link.pattern_alike T S J same (drop (starts_at S.n) words) (drop (rows_at S.n) words) (pattern J h);
              values = omega (arith, offset_agree T S J same (suc J) (omega arith), offset_mono S (supernodes S) (suc J) h);
              work = omega (arith, work);
            };
        few = less;
        up = λ K h. omega (arith, parents K h, b.up K h);
        top = λ K h. omega (arith, parents K h, top K h);
      }

  -- and t names and the flags
  pub ready_of : (t a entries : ℕ) (words : List ℕ) (floats values : List Float) → Due S.n F St R (supernodes S) U words (take a floats) entries (length floats - a) → supernodes S ≤ S.n → t ≤ supernodes S →
      ((p : ℕ) → p < t → get_or words (names_at S.n + p) 0 < supernodes S) → ((J : ℕ) → J < supernodes S → get_or words J 0 ≡ 0) → entries ≤ length values →
      RunReady t (supernodes S) S.n a entries F St R U us words floats values
  ready_of t a entries words floats values due less most names flags room =
      record {
        due = due;
        updates = λ J h. (
          link.listed_alike (laid S.n F St R) S J (link.alike S b s F St R U us l J h) (from us (get_or U J 0)) (count U J) (link.listed_areas S b s F St R U us l J h),
          link.group_rise S b s F St R U us l J h,
          link.group_in S b s F St R U us l J h,
          omega (arith, link.group_few S b s F St R U us l J h),
        );
        most = most;
        names = names;
        flags = flags;
        room = room;
      }

  -- what the run leaves, at the whole structure
  pub ran_of : (A : ℕ → ℕ → Float) (P names : List ℕ) (values values' : List Float) (r : Factored) → ((K : ℕ) → K < supernodes S → get_or P K 0 ≡ parent_of S K) →
      ((p : ℕ) → p < length names → get_or names p 0 < supernodes S) → Ran (under S.n F St R P) A names values values' r → Ran S A names values values' r
  unfolding rows_of
  ran_of A P names values values' r parents known t = record { held = t.held ∙ ap (λ z. z.values) same; low = t.low ∙ ap (λ z. z.least) same }
    where
      alike : (J : ℕ) → J < supernodes S → Alike (under S.n F St R P) S J
      alike J h = record { firsts = (link.alike S b s F St R U us l J h).firsts; rows = (link.alike S b s F St R U us l J h).rows }

      same : run (under S.n F St R P) A (fresh S values) names ≡ run S A (fresh S values) names
      same = run_agree (under S.n F St R P) S (supernodes S) alike parents A (fresh S values) names known
