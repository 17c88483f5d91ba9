-- The words that the updates are laid from: the owners written, then where each target's updates start. Assumes nothing.
use mathlib.Core.Path.{◌≡◌, refl, sym, ap, ◌∙◌}
use mathlib.Core.List.{List, ◌++◌}
use Prim.Native.Nat.{ℕ, suc, ◌+◌, ◌-◌, ◌≤◌}
use native.Mathlib.Omega.{arith}
use lib.ListN.{length, take, drop}
use lib.Seq.{length-take-le, drop_at, drop-drop}
use borrow.Rule.Slice.PartMut.{put_mid}
use Rattle.statement.specs.Input.{Columns, stored}
use Rattle.statement.specs.Supernodes.{updates}
use Rattle.statement.specs.declared.Room.{Room}
use Rattle.areas.specs.Buckets.{Holds}
use Rattle.areas.proofs.Parts.{holds_copied}
use Rattle.areas.proofs.Tail.{tail_back, tail_length, tail_written, back_length}
use Rattle.updates.specs.Scan.{shaped}
use Rattle.updates.specs.Layout.{places_at, owners_at, offsets_at}
use Rattle.updates.specs.Laying.{ToLay}
use Rattle.analysis.specs.Phases.{Analysed}
use Rattle.analysis.proofs.Linked.{placed_of, laid_of, groups_hold}
use Rattle.analysis.proofs.Verdicts.{ten_fits}

fewer_held : {f : ℕ → ℕ} {m : ℕ} {l : List ℕ} → Holds f (suc m) l → Holds f m l
fewer_held h = record { fits = omega (arith, h.fits); at = λ j k. h.at j (omega arith) }

module _ (n : ℕ) (w owners : List ℕ) (long : offsets_at n ≤ length w) (kept : length owners ≡ length (take (length w - owners_at n) (drop (owners_at n) w))) where
  -- the words with the owners in them
  abbrev pub owned : List ℕ
  owned = put_mid (owners_at n) (length w - owners_at n) w owners

  pub owned_length : length owned ≡ length w
  owned_length = back_length (owners_at n) w owners (omega arith) kept

  pub owners_long : n ≤ length owners
  owners_long = omega (arith, kept, tail_length (owners_at n) w (omega arith))

  owners_in : drop (owners_at n) owned ≡ owners
  owners_in = ap (drop (owners_at n)) (tail_back (owners_at n) w owners) ∙ drop_at (take (owners_at n) w) owners (owners_at n) (length-take-le (owners_at n) w (omega arith))

  -- and then with the first ns of the groups
  module _ (ns : ℕ) (groups next : List ℕ) (few : ns ≤ n) (many : ns ≤ length groups) (e : next ≡ take ns groups ++ drop ns (take (length owned - places_at n) (drop (places_at n) owned))) where
    abbrev pub placed : List ℕ
    placed = put_mid (places_at n) (length owned - places_at n) owned next

    pub placed_length : length next ≡ length (take (length owned - places_at n) (drop (places_at n) owned)) → length placed ≡ length w
    placed_length q = back_length (places_at n) owned next (omega (arith, owned_length)) q ∙ owned_length

    pub places_in : drop (places_at n) placed ≡ take ns groups ++ drop ns (drop (places_at n) owned)
    places_in = ap (drop (places_at n)) (tail_written (places_at n) owned (take ns groups) next ns e) ∙ drop_at (take (places_at n) owned) _ (places_at n) (length-take-le (places_at n) owned (omega (arith, owned_length)))

    pub owners_stay : drop (owners_at n) placed ≡ owners
    owners_stay =
        let d = owners_at n - (places_at n + ns) in
        let q : places_at n + ns + d ≡ owners_at n = omega arith in
        let back : drop (places_at n + ns) placed ≡ drop (places_at n + ns) owned = sym (drop-drop ns (places_at n) placed) ∙ ap (drop ns) places_in ∙ drop_at (take ns groups) _ ns (length-take-le ns groups many) ∙ drop-drop ns (places_at n) owned in
        ap (λ k. drop k placed) (sym q) ∙ sym (drop-drop d (places_at n + ns) placed) ∙ ap (drop d) back ∙ drop-drop d (places_at n + ns) owned ∙ ap (λ k. drop k owned) q ∙ owners_in

-- what is laid, over any words that have the owners and the starts
pub to_lay : {n entries ns many updates' : ℕ} {r : Room} {input_starts input_rows permutation₀ firsts₀ starts₀ groups₀ tasks₀ nine₀ permutation firsts starts groups tasks owners nine : List ℕ} (words d : List ℕ)
    → Columns n input_starts input_rows → n ≤ 32768
    → Analysed (stored input_starts input_rows) n entries r ns many updates' permutation₀ firsts₀ starts₀ groups₀ tasks₀ nine₀ permutation firsts starts groups tasks owners nine
    → n ≤ length owners → drop (owners_at n) words ≡ owners → drop (places_at n) words ≡ take ns groups ++ d → offsets_at n ≤ length words
    → ToLay n ns input_starts input_rows firsts starts nine words r.updates
to_lay {n} {entries} {ns} {r = r} {input_starts} {input_rows} {nine = nine} words d formed small z long o g room =
    let w = z.numbered in
    record {
      laid = rw o (laid_of (placed_of n input_starts input_rows formed small w long) _ z.area_nine);
      next = holds_copied d (fewer_held (groups_hold (shaped n input_starts input_rows) _ w.number z.four)) g;
      room = room;
      fits = ten_fits (stored input_starts input_rows) n entries r z.calm;
    }
