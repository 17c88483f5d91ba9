-- What a text that reads as a job holds: few columns and entries, f64 values, and n right sides. Assumes nothing.
use mathlib.Core.Path.{◌≡◌, refl, subst}
use mathlib.Core.Bool.{Bool, true, false, cond, ◌&&◌}
use mathlib.Core.List.{List, [], ◌∷◌, ◌++◌}
use mathlib.Core.Option.{Option, none, some}
use Prim.Native.Nat.{ℕ, zero, suc, ◌-◌, ◌≤◌}
use native.Mathlib.Omega.{arith}
use borrow.Author.Tests.{ltb-true, leb-true, eqb-true}
use lib.Dec.{T, eqb, leb, ltb}
use lib.ListN.{length, get_or, length-append}
use lib.Ieee.{Float, binary64, of_bits, fits}
use lib.Ieee.Bits.{of_bits-fits}
use Rattle.statement.specs.Input.{+0}
use Rattle.statement.specs.Job.{Frame, begin, stored, side, end, frame_of, Phase, unbegun, storing, siding, ended, Frames, no_frames, begun, with_stored, with_side, finished, takes, next, whole, fault, at_end, read}
use Rattle.statement.specs.declared.Original.{Original}
use Rattle.laws.proofs.Bools.{and_r}

abbrev F64s : List Float → Type 0
F64s l = (p : ℕ) → T (fits binary64 (get_or l p +0))

f64s_none : F64s []
unfolding fits
f64s_none p = tt

f64s_more : (l : List Float) (x : Float) → F64s l → T (fits binary64 x) → F64s (l ++ x ∷ [])
f64s_more [] x h f zero = f
f64s_more [] x h f (suc p) = h p
f64s_more (y ∷ l) x h f zero = h 0
f64s_more (y ∷ l) x h f (suc p) = f64s_more l x (λ q. h (suc q)) f p

-- once 04 has come, there are n right sides
abbrev Sided : Phase → Frames → Type 0
Sided unbegun j = Unit
Sided storing j = Unit
Sided siding j = Unit
Sided ended j = length j.b ≡ j.n

-- what lines that can stand leave
pub record Stands (j : Frames) : Type 0 where
  pub small : j.n ≤ 128
  pub few : length j.columns ≤ 4096
  pub many : length j.rows ≡ length j.columns
  pub numbers : F64s j.values
  pub sided : Sided j.phase j

none_stands : Stands no_frames
unfolding no_frames
none_stands = record { small = omega arith; few = omega arith; many = refl; numbers = f64s_none; sided = tt }

-- ---- one frame more

never : {A : Type 0} {x : Frames} → none ≡ some x → A
never e = absurd (let z : ◌≡◌ {A = ℕ} 0 1 = cc in omega arith)

tested : (t : Bool) (x i : Frames) → (t ≡ true → Stands x) → cond t (some x) none ≡ some i → Stands i
tested true x i h e = let q : x ≡ i = cc in subst Stands q (h refl)
tested false x i h e = never e

begun_stands : (n cap : ℕ) (i : Frames) → begun n cap ≡ some i → Stands i
unfolding begun
begun_stands n cap i e = tested (leb n 128) _ i (λ t. record { small = leb-true n 128 t; few = omega arith; many = refl; numbers = f64s_none; sided = tt }) e

module _ (j : Frames) (s : Stands j) (i : Frames) where
  stored_stands : (column row : Original) (bits : ℕ) → with_stored j column row bits ≡ some i → Stands i
  unfolding with_stored
  stored_stands column row bits e = tested (ltb column.0 j.n && (leb last column.0 && ltb (length j.columns) 4096)) _ i
      (λ t.
      let room = ltb-true (length j.columns) 4096 (and_r (leb last column.0) _ (and_r (ltb column.0 j.n) _ t)) in
      record {
        small = s.small;
        few = simp length-append (omega arith);
        many = simp length-append (omega (arith, s.many));
        numbers = f64s_more j.values (of_bits binary64 bits) s.numbers (of_bits-fits binary64 bits);
        sided = tt;
      })
      e
    where
      last : ℕ
      last = get_or j.columns (length j.columns - 1) 0

  side_stands : (position : Original) (bits : ℕ) → with_side j position bits ≡ some i → Stands i
  unfolding with_side
  side_stands position bits e = tested (ltb position.0 j.n && eqb position.0 (length j.b)) _ i (λ t. record { small = s.small; few = s.few; many = s.many; numbers = s.numbers; sided = tt }) e

  end_stands : finished j ≡ some i → Stands i
  unfolding finished
  end_stands e = tested (eqb (length j.b) j.n) _ i (λ t. record { small = s.small; few = s.few; many = s.many; numbers = s.numbers; sided = eqb-true (length j.b) j.n t }) e

  takes_stands : (h : Phase) (f : Frame) → takes h j f ≡ some i → Stands i
  unfolding takes
  takes_stands unbegun (begin n cap) e = begun_stands n cap i e
  takes_stands unbegun (stored column row bits) e = never e
  takes_stands unbegun (side position bits) e = never e
  takes_stands unbegun end e = never e
  takes_stands storing (begin n cap) e = never e
  takes_stands storing (stored column row bits) e = stored_stands column row bits e
  takes_stands storing (side position bits) e = side_stands position bits e
  takes_stands storing end e = end_stands e
  takes_stands siding (begin n cap) e = never e
  takes_stands siding (stored column row bits) e = never e
  takes_stands siding (side position bits) e = side_stands position bits e
  takes_stands siding end e = end_stands e
  takes_stands ended (begin n cap) e = never e
  takes_stands ended (stored column row bits) e = never e
  takes_stands ended (side position bits) e = never e
  takes_stands ended end e = never e

  next_stands : (l : List ℕ) → next j l ≡ some i → Stands i
  unfolding next
  next_stands l e = go (frame_of l) e
    where
      go : (o : Option Frame) → (elim o [ none ↦ none | some f ↦ takes j.phase j f ]) ≡ some i → Stands i
      go none q = never q
      go (some f) q = takes_stands j.phase f q

-- ---- a whole text

abbrev Job : Frames → Type 0
Job i = Stands i × (length i.b ≡ i.n)

no_fault : {A : Type 0} {k : ℕ} {i : Frames} → fault k ≡ whole i → A
no_fault e = absurd (let z : ◌≡◌ {A = ℕ} 0 1 = cc in omega arith)

end_whole : (h : Phase) (j : Frames) (k : ℕ) (l : List ℕ) (i : Frames) → j.phase ≡ h → Stands j → at_end h j k l ≡ whole i → Job i
unfolding at_end
end_whole unbegun j k l i p s e = no_fault e
end_whole storing j k l i p s e = no_fault e
end_whole siding j k l i p s e = no_fault e
end_whole ended j k [] i p s e = let q : j ≡ i = cc in subst Job q (s, rw p at s.sided)
end_whole ended j k (b ∷ l) i p s e = no_fault e

read_job : (text : List ℕ) (j : Frames) (k : ℕ) (l : List ℕ) (i : Frames) → Stands j → read text j k l ≡ whole i → Job i
unfolding read
read_job [] j k l i s e = end_whole j.phase j k l i refl s e
read_job (b ∷ text) j k l i s e = byte (eqb b 10) (λ x t. read_job text x (suc k) [] i t) (read_job text j k (l ++ (b ∷ [])) i s) e
  where
    line : (o : Option Frames) → ((x : Frames) → o ≡ some x → Stands x) → ((x : Frames) → Stands x → read text x (suc k) [] ≡ whole i → Job i)
        → (elim o [ none ↦ fault k | some x ↦ read text x (suc k) [] ]) ≡ whole i → Job i
    line none t f q = no_fault q
    line (some x) t f q = f x (t x refl) q

    byte : (d : Bool) → ((x : Frames) → Stands x → read text x (suc k) [] ≡ whole i → Job i) → (read text j k (l ++ (b ∷ [])) ≡ whole i → Job i)
        → (elim d [ true ↦ elim (next j l) [ none ↦ fault k | some x ↦ read text x (suc k) [] ] | false ↦ read text j k (l ++ (b ∷ [])) ]) ≡ whole i → Job i
    byte true f g q = line (next j l) (λ x. next_stands j s x l) f q
    byte false f g q = g q

pub job_stands : (text : List ℕ) (j : Frames) → read text no_frames 1 [] ≡ whole j → Stands j × (length j.b ≡ j.n)
job_stands text j e = read_job text no_frames 1 [] j none_stands e
