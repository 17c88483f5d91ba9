-- From what each call leaves to what the run reads. Assumes nothing.
use mathlib.Core.Path.{◌≡◌, refl, sym, ap, ◌∙◌}
use mathlib.Core.Bool.{Bool}
use mathlib.Core.List.{List, ◌++◌}
use Prim.Native.Nat.{ℕ, ◌+◌, ◌*◌, ◌-◌, ◌≤◌, ◌<◌}
use native.Mathlib.Omega.{arith}
use lib.Dec.{T}
use lib.ListN.{length, get_or, take, drop, replicate, length-append, length-drop, length-replicate, get_or-replicate, get_or-append}
use lib.Ieee.{Float}
use lib.Seq.{get_or-take, drop_at, drop-drop, length-take-le}
use borrow.Rule.Slice.PartMut.{put_mid}
use Rattle.statement.specs.Lists.{list}
use Rattle.statement.specs.Input.{Matrix, pattern, rows_length}
use Rattle.statement.specs.Fill.{parent}
use Rattle.statement.specs.Shape.{supernodes, offset, parent_of}
use Rattle.statement.specs.Supernodes.{shape_of}
use Rattle.laws.specs.Numbered.{factored, shape_for}
use Rattle.laws.proofs.Input.{upper}
use Rattle.laws.proofs.FactorTree.{upper'}
use Rattle.laws.proofs.Postorder.{pos}
use Rattle.laws.proofs.Ranks.{list_length, list_at}
use Rattle.laws.proofs.Shapes.{supernodes_few}
use Rattle.areas.proofs.Tail.{tail_back, back_length, tail_length}
use Rattle.lower.specs.Entries.{Lowered, Sited}
use Rattle.lower.proofs.Bridge.{sited}
use Rattle.offsets.specs.Lent.{Rising, Of}
use Rattle.offsets.proofs.Shaped.{shape_of_lem, shape_rising}
use Rattle.updates.specs.Layout.{offsets_at, parents_at, starts_at, rows_at}
use Rattle.ready.specs.Known.{Known, Laid, Kept}
use Rattle.ready.proofs.Wrote.{Wrote, wrote, wrote_part, wrote_above}

-- a part has room for what is not past its end
pub room : (off m : ℕ) (w : List ℕ) → off + m ≤ length w → m ≤ length (take (length w - off) (drop off w))
room off m w h = omega (arith, tail_length off w (omega arith))

-- ---- the words after each call

abbrev part : ℕ → List ℕ → List ℕ
part off w = take (length w - off) (drop off w)

abbrev pub w₁ : ℕ → (w lower : List ℕ) → List ℕ
w₁ n w lower = put_mid (starts_at n) (length w - starts_at n) w lower

abbrev pub w₂ : ℕ → (w lower offsets : List ℕ) → List ℕ
w₂ n w lower offsets = put_mid (offsets_at n) (length (w₁ n w lower) - offsets_at n) (w₁ n w lower) offsets

abbrev pub w₃ : (n ns : ℕ) (w lower offsets parents : List ℕ) → List ℕ
w₃ n ns w lower offsets parents = put_mid (parents_at n) (parents_at n + ns - parents_at n) (w₂ n w lower offsets) parents

-- they stay as many
module _ (n : ℕ) (w lower : List ℕ) (long : 24 * n + 24 ≤ length w) (k₁ : length lower ≡ length (part (starts_at n) w)) where
  pub long₁ : length (w₁ n w lower) ≡ length w
  long₁ = back_length (starts_at n) w lower (omega arith) k₁

  module _ (offsets : List ℕ) (k₂ : length offsets ≡ length (part (offsets_at n) (w₁ n w lower))) where
    pub long₂ : length (w₂ n w lower offsets) ≡ length w
    long₂ = back_length (offsets_at n) (w₁ n w lower) offsets (omega (arith, long₁)) k₂ ∙ long₁

    pub long₃ : (ns : ℕ) (parents : List ℕ) → ns ≤ n → length parents ≡ ns → length (w₃ n ns w lower offsets parents) ≡ length w
    long₃ ns parents h k₃ = (wrote (parents_at n) (parents_at n + ns - parents_at n) parents (w₂ n w lower offsets) (w₃ n ns w lower offsets parents) (omega (arith, long₂)) (omega (arith, k₃)) refl).len ∙ long₂

-- ---- what the calls ask
module _ {M : Matrix} {ns : ℕ} {permutation firsts starts tasks : List ℕ} (k : Known M ns permutation firsts starts tasks) where
  abbrev p : ℕ → ℕ → Bool
  p = factored (pattern M) M.n

  u : (i j : ℕ) → T (factored (pattern M) M.n i j) → i ≤ j
  u = upper' (pattern M) M.n (upper M.n M.starts M.rows k.well.columns)

  pub fewer : ns ≤ M.n
  fewer = omega (arith, k.number, few)
    where
      few : supernodes (shape_for M) ≤ M.n
      few = unfold shape_of in omega (arith, supernodes_few p M.n u)

  pub sited_in : Sited M.n M.starts M.rows permutation tasks
  sited_in = sited M.n M.starts M.rows M.values k.well permutation k.order_rest tasks _ k.order_is k.tasks_are

  pub rising : Rising firsts starts ns
  rising = rw k.number (shape_rising p M.n u k.well.small firsts starts k.firsts_rest k.starts_rest k.firsts_are k.starts_are)

  pub of_shape : Of (shape_for M) firsts starts ns
  of_shape = rw k.number (shape_of_lem p M.n u k.well.small firsts starts k.firsts_rest k.starts_rest k.firsts_are k.starts_are)

  parents_many : length (shape_for M).parents ≡ ns
  parents_many = rw k.number (unfold shape_of in list_length _ _)

  past_places : drop M.n tasks ≡ (shape_for M).parents ++ k.tasks_rest
  past_places = ap (drop M.n) k.tasks_are ∙ drop_at (list (pos (parent (pattern M) M.n) M.n) M.n) _ M.n (list_length _ M.n)

  pub tasks_long : M.n + ns ≤ length tasks
  tasks_long = omega (arith, ap length k.tasks_are, length-append (list (pos (parent (pattern M) M.n) M.n) M.n) ((shape_for M).parents ++ k.tasks_rest), length-append (shape_for M).parents k.tasks_rest, list_length (pos (parent (pattern M) M.n) M.n) M.n, parents_many)

  parent_at : (K : ℕ) → K < ns → get_or (take ns (drop M.n tasks)) K 0 ≡ parent_of (shape_for M) K
  parent_at K h = get_or-take ns _ K 0 h ∙ ap (λ l. get_or l K 0) past_places ∙ get_or-append (shape_for M).parents k.tasks_rest 0 K (omega (arith, parents_many))

  -- what they leave: the lower columns, the offsets, the parents, the flags
  module _ (w lower offsets parents l : List ℕ) (long : 24 * M.n + 24 ≤ length w) (k₁ : length lower ≡ length (part (starts_at M.n) w))
      (e₂ : offsets ≡ list (offset (shape_for M)) ns ++ drop ns (part (offsets_at M.n) (w₁ M.n w lower)))
      (e₃ : parents ≡ take ns (drop M.n tasks))
      (e₄ : l ≡ replicate (M.n + 1) 0 ++ drop (M.n + 1) (w₃ M.n ns w lower offsets parents)) where
    same : length (w₁ M.n w lower) ≡ length w
    same = long₁ M.n w lower long k₁

    lower_back : drop (starts_at M.n) (w₁ M.n w lower) ≡ lower
    lower_back = ap (drop (starts_at M.n)) (tail_back (starts_at M.n) w lower) ∙ drop_at (take (starts_at M.n) w) lower (starts_at M.n) (length-take-le (starts_at M.n) w (omega arith))

    offsets_long : length (list (offset (shape_for M)) ns) ≡ ns
    offsets_long = list_length (offset (shape_for M)) ns

    second : Wrote (offsets_at M.n) (list (offset (shape_for M)) ns) (w₁ M.n w lower) (w₂ M.n w lower offsets)
    second = wrote_part (offsets_at M.n) ns (list (offset (shape_for M)) ns) (w₁ M.n w lower) offsets (omega (arith, same, fewer)) offsets_long e₂

    copied_long : length (take ns (drop M.n tasks)) ≡ ns
    copied_long = length-take-le ns (drop M.n tasks) (omega (arith, tasks_long, length-drop M.n tasks))

    third : Wrote (parents_at M.n) (take ns (drop M.n tasks)) (w₂ M.n w lower offsets) (w₃ M.n ns w lower offsets parents)
    third = wrote (parents_at M.n) (parents_at M.n + ns - parents_at M.n) (take ns (drop M.n tasks)) (w₂ M.n w lower offsets) (w₃ M.n ns w lower offsets parents) (omega (arith, second.len, same, fewer)) (omega (arith, copied_long))
        (ap (λ z. put_mid (parents_at M.n) (parents_at M.n + ns - parents_at M.n) (w₂ M.n w lower offsets) z) e₃)

    flags_long : length {A = ℕ} (replicate (M.n + 1) 0) ≡ M.n + 1
    flags_long = length-replicate (M.n + 1) 0

    fourth : Wrote 0 (replicate (M.n + 1) 0) (w₃ M.n ns w lower offsets parents) l
    fourth = wrote 0 (M.n + 1) (replicate (M.n + 1) 0) (w₃ M.n ns w lower offsets parents) l (omega (arith, third.len, second.len, same)) flags_long e₄

    lower_stays : drop (starts_at M.n) l ≡ lower
    lower_stays = fourth.past (starts_at M.n) (omega (arith, flags_long)) ∙ third.past (starts_at M.n) (omega (arith, copied_long, fewer)) ∙ second.past (starts_at M.n) (omega (arith, offsets_long, fewer)) ∙ lower_back

    rows_stay : drop (rows_at M.n) l ≡ drop (M.n + 1) lower
    rows_stay = ap (λ d. drop d l) (let q : rows_at M.n ≡ starts_at M.n + (M.n + 1) = omega arith in q) ∙ sym (drop-drop (M.n + 1) (starts_at M.n) l) ∙ ap (drop (M.n + 1)) lower_stays

    pub laid : (floats : List Float) → Lowered M.n M.starts M.rows M.values lower (drop (M.n + 1) lower) (take (rows_length M) floats) → Laid M ns l floats
    laid floats a = record {
      flags = λ J h. ap (λ j. get_or l j 0) (let q : J ≡ 0 + J = omega arith in q) ∙ fourth.at J (omega (arith, flags_long, fewer)) ∙ get_or-replicate (M.n + 1) J 0 0 (omega (arith, fewer));
      offsets = λ K h. wrote_above fourth (offsets_at M.n + K) (omega (arith, flags_long)) ∙ third.below (offsets_at M.n + K) (omega (arith, fewer)) ∙ second.at K (omega (arith, offsets_long)) ∙ list_at (offset (shape_for M)) ns K 0 h;
      parents = λ K h. wrote_above fourth (parents_at M.n + K) (omega (arith, flags_long)) ∙ third.at K (omega (arith, copied_long)) ∙ parent_at K h;
      lower = rw (lower_stays, rows_stay) a;
    }

    first_below : (i : ℕ) → i < starts_at M.n → get_or (w₁ M.n w lower) i 0 ≡ get_or w i 0
    first_below i h = ap (λ z. get_or z i 0) (tail_back (starts_at M.n) w lower) ∙ get_or-append (take (starts_at M.n) w) lower 0 i (omega (arith, length-take-le (starts_at M.n) w (omega arith))) ∙ get_or-take (starts_at M.n) w i 0 h

    pub kept : Kept M.n w l
    kept i a b = wrote_above fourth i (omega (arith, flags_long)) ∙ third.below i (omega arith) ∙ second.below i b ∙ first_below i (omega arith)
