-- From what each phase leaves to what the next asks. Assumes nothing.
use mathlib.Core.Path.{◌≡◌, refl, sym, ap, ◌∙◌}
use mathlib.Core.Bool.{Bool}
use mathlib.Core.List.{List, [], ◌++◌}
use Prim.Native.Nat.{ℕ, suc, ◌≤◌}
use native.Mathlib.Omega.{arith}
use lib.Dec.{T}
use lib.ListN.{length, get_or, take, drop, replicate, length-append, get_or-append}
use lib.Seq.{get_or-take, drop_at, take_at}
use Rattle.statement.specs.Lists.{list}
use Rattle.statement.specs.Input.{Columns, stored}
use Rattle.statement.specs.Fill.{parent, count}
use Rattle.statement.specs.Postorder.{permutation}
use Rattle.statement.specs.Shape.{Shape, supernodes}
use Rattle.statement.specs.Supernodes.{first_columns, shape_of, update_starts}
use Rattle.laws.specs.Numbered.{shape}
use Rattle.laws.proofs.Fill.{parent_above, parent_to}
use Rattle.laws.proofs.Input.{upper}
use Rattle.laws.proofs.FactorTree.{upper'}
use Rattle.laws.proofs.Postorder.{pos, length_postorder}
use Rattle.laws.proofs.Ranks.{list_at, list_length}
use Rattle.laws.proofs.Shapes as Shapes
use Rattle.areas.specs.Buckets.{Holds}
use Rattle.areas.proofs.Buckets.{holds_of, holds_ext}
use Rattle.numbering.specs.Done.{Done}
use Rattle.structure.specs.Node.{nodes, owner_of, above, row_start}
use Rattle.structure.specs.Line.{factored_pattern, Known}
use Rattle.structure.proofs.Node as Node
use Rattle.structure.proofs.Begun.{few}
use Rattle.updates.specs.Scan.{shaped, Laid}
use Rattle.analysis.specs.Phases.{Numbered, Placed}

-- the elements of a list from the start of an area
pub holds_front : (l x d : List ℕ) (m : ℕ) → length x ≡ m → l ≡ x ++ d → Holds (λ j. get_or x j 0) m l
holds_front l x d m q e = record {
  fits = rw (e, length-append) (omega arith);
  at = λ j h. ap (λ z. get_or z j 0) e ∙ get_or-append x d 0 j (omega arith);
}

-- of which only the first n are known
pub holds_taken : (f : ℕ → ℕ) (n : ℕ) (l : List ℕ) → n ≤ length l → take n l ≡ list f n → Holds f n l
holds_taken f n l h e = record { fits = h; at = λ j k. sym (get_or-take n l j 0 k) ∙ ap (λ z. get_or z j 0) e ∙ list_at f n j 0 k }

module _ (n : ℕ) (input_starts input_rows : List ℕ) (formed : Columns n input_starts input_rows) (small : n ≤ 32768) where
  abbrev s : ℕ → ℕ → Bool
  s = stored input_starts input_rows

  abbrev P : ℕ → ℕ → Bool
  P = factored_pattern n input_starts input_rows

  up : (i k : ℕ) → T (factored_pattern n input_starts input_rows i k) → i ≤ k
  up = upper' s n (upper n input_starts input_rows formed)

  pub known_of : {ns : ℕ} {firsts : List ℕ} (d : List ℕ) → ns ≡ nodes (factored_pattern n input_starts input_rows) n → firsts ≡ first_columns (factored_pattern n input_starts input_rows) n ++ d → Known n ns input_starts input_rows firsts
  known_of {ns} {firsts} d q e = record {
    formed = formed;
    small = small;
    number = q;
    first-is = holds_front firsts (first_columns P n) d (suc ns) (omega (arith, Shapes.firsts_length P n up)) e;
  }

  pub few_of : {ns : ℕ} → ns ≡ nodes (factored_pattern n input_starts input_rows) n → ns ≤ n
  few_of q = omega (arith, few n (nodes P n) input_starts input_rows (first_columns P n ++ []) (known_of [] refl refl))

  -- after numbering and the row starts
  module _ {ns : ℕ} {permutation₀ firsts₀ starts₀ groups₀ tasks₀ top₀ permutation firsts starts groups tasks top words : List ℕ}
      (w : Done (stored input_starts input_rows) n ns permutation₀ firsts₀ starts₀ groups₀ tasks₀ top₀ permutation firsts starts groups tasks top words) where
    pub known : Known n ns input_starts input_rows firsts
    known = known_of _ w.number w.two

    pub counts_hold : Holds (count (factored_pattern n input_starts input_rows) n) n groups
    counts_hold = holds_of _ n groups _ w.four

    pub parents_hold : Holds (parent (factored_pattern n input_starts input_rows) n) n top
    parents_hold = holds_of _ n top _ w.six

    pub owners_hold : n ≤ length words → Holds (owner_of (factored_pattern n input_starts input_rows) n) n words
    owners_hold h = holds_taken _ n words h w.seven

    pub numbered : {rows : ℕ} {starts' tasks' : List ℕ} → rows ≡ length (shape (stored input_starts input_rows) n).rows → starts' ≡ (shape (stored input_starts input_rows) n).starts ++ drop (suc ns) starts
        → tasks' ≡ take n tasks ++ ((shape (stored input_starts input_rows) n).parents ++ drop ns (drop n tasks))
        → Numbered (stored input_starts input_rows) n ns rows permutation₀ firsts₀ starts₀ tasks₀ permutation firsts starts' tasks' words
    unfolding shape_of
    numbered r a b = record {
      number = w.number;
      many = r;
      one = w.one;
      two = w.two;
      three = a ∙ ap (λ l. (shape s n).starts ++ drop (suc ns) l) w.three;
      five = b ∙ ap (λ l. take n l ++ ((shape s n).parents ++ drop ns (drop n l))) w.five
          ∙ ap (λ l. l ++ ((shape s n).parents ++ drop ns (drop n (list (pos (parent s n) n) n ++ drop n tasks₀)))) (take_at (list (pos (parent s n) n) n) (drop n tasks₀) n (list_length _ n))
          ∙ ap (λ l. list (pos (parent s n) n) n ++ ((shape s n).parents ++ drop ns l)) (drop_at (list (pos (parent s n) n) n) (drop n tasks₀) n (list_length _ n));
      seven = w.seven;
    }

  -- what comes after reads
  module _ {ns rows : ℕ} {permutation₀ firsts₀ starts₀ tasks₀ perm firsts starts tasks words : List ℕ}
      (w : Numbered (stored input_starts input_rows) n ns rows permutation₀ firsts₀ starts₀ tasks₀ perm firsts starts tasks words) where
    perm_length : length (permutation (stored input_starts input_rows) n) ≡ n
    unfolding permutation
    perm_length = length_postorder (parent s n) n (parent_above s n) (parent_to s n)

    number : ns ≡ nodes (factored_pattern n input_starts input_rows) n
    number = w.number ∙ Node.number_is P n

    starts_length : length (shape (stored input_starts input_rows) n).starts ≡ suc ns
    starts_length = ap length (Node.starts_are P n) ∙ list_length _ (suc (nodes P n)) ∙ ap suc (sym number)

    ups : Holds (above (factored_pattern n input_starts input_rows) n) (nodes (factored_pattern n input_starts input_rows) n) (drop n tasks)
    ups = holds_of _ (nodes P n) (drop n tasks) (drop ns (drop n tasks₀))
        (ap (drop n) w.five ∙ drop_at (list (pos (parent s n) n) n) _ n (list_length _ n) ∙ ap (λ l. l ++ drop ns (drop n tasks₀)) (Node.parents_are P n))

    pub few_in : ns ≤ n
    few_in = few_of number

    pub placed_of : n ≤ length words → Placed n ns input_starts input_rows perm firsts starts tasks words
    unfolding shape_of
    placed_of h = record {
      known = known_of _ number w.two;
      given = record {
        formed = formed;
        perm_is = holds_front perm (permutation s n) _ n perm_length w.one;
        place_is = holds_of _ n tasks _ w.five;
        own_is = holds_taken _ n words h w.seven;
        up_is = ups;
      };
      begun = holds_front starts (shape s n).starts _ (suc ns) starts_length w.three;
    }

module _ {n ns : ℕ} {input_starts input_rows perm firsts starts tasks words : List ℕ} (w : Placed n ns input_starts input_rows perm firsts starts tasks words) where
  -- the row starts by themselves
  pub starts_begun : Holds (row_start (factored_pattern n input_starts input_rows) n) (suc ns) starts
  starts_begun = holds_ext _ (λ j h. ap (λ l. get_or l j 0) (Node.starts_are (factored_pattern n input_starts input_rows) n) ∙ list_at _ (suc (nodes (factored_pattern n input_starts input_rows) n)) j 0 (omega (arith, w.known.number))) w.begun

  -- with the rows
  pub laid_of : {nine : List ℕ} (d : List ℕ) → nine ≡ (shape (stored input_starts input_rows) n).rows ++ d → Laid n ns input_starts input_rows firsts words starts nine
  unfolding shape_of
  laid_of {nine} d e = record {
    formed = w.known.formed;
    small = w.known.small;
    number = w.known.number;
    first-is = w.known.first-is;
    own_is = w.given.own_is;
    from_is = w.begun;
    list_is = holds_front nine (shaped n input_starts input_rows).rows d _ refl e;
  }

-- a list over an area that was cleared before
pub over_cleared : (x g z l l₀ : List ℕ) (k : ℕ) → g ≡ x ++ drop k z → z ≡ replicate (length l) 0 → length l ≡ length l₀ → g ≡ x ++ drop k (replicate (length l₀) 0)
over_cleared x g z l l₀ k a b c = a ∙ ap (λ y. x ++ drop k y) (b ∙ ap (λ m. replicate m 0) c)

-- the update starts, as updates reads them
pub groups_hold : (S : Shape) {ns : ℕ} {groups : List ℕ} (d : List ℕ) → ns ≡ supernodes S → groups ≡ update_starts S ++ d → Holds (λ J. get_or (update_starts S) J 0) (suc ns) groups
unfolding update_starts
groups_hold S {ns} {groups} d q e = holds_front groups (update_starts S) d (suc ns) (list_length _ (suc (supernodes S)) ∙ ap suc (sym q)) e

-- the same of an area as long as it
pub groups_same : {s : ℕ → ℕ → Bool} {n ns rows : ℕ} {permutation₀ firsts₀ starts₀ tasks₀ perm firsts starts tasks words : List ℕ} → Numbered s n ns rows permutation₀ firsts₀ starts₀ tasks₀ perm firsts starts tasks words
    → {g : List ℕ} (l l₀ : List ℕ) → g ≡ update_starts (shape s n) ++ drop (suc ns) (replicate (length l) 0) → length l ≡ length l₀ → g ≡ update_starts (shape s n) ++ drop (suc ns) (replicate (length l₀) 0)
groups_same {s} {n} {ns} w {g} l l₀ e q = over_cleared (update_starts (shape s n)) g _ l l₀ (suc ns) e refl q
