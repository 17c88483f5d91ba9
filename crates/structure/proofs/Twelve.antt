-- Number 12: the search for a supernode whose rows do not end where the next one's start, and that there is none. Assumes nothing.
use mathlib.Core.Path.{◌≡◌, refl, sym, ap, ◌∙◌}
use mathlib.Core.Logic.{⊎_elim}
use mathlib.Core.Bool.{Bool, true, false, not}
use mathlib.Core.List.{List}
use Prim.Native.Nat.{ℕ, suc, ◌+◌, ◌-◌, ◌≤◌, ◌<◌}
use native.Mathlib.Omega.{arith}
use lib.Dec.{T, T_not, eqb, ltb, eqb→eq}
use lib.Pointwise.{pointwise, bytes_decides}
use lib.Seq.{ext_get_or, length-take-le, get_or-take, get_or-drop}
use lib.ListN.{length, get_or, take, drop, length-drop}
use Rattle.statement.specs.Lists.{least}
use Rattle.laws.proofs.Bools.{eqb_of, ltb_yes, ltb_no, lt_or_le, T_dec}
use Rattle.laws.proofs.Fill.{Least, least_is}
use Rattle.areas.specs.Buckets.{Holds}

-- supernode K's rows do not
abbrev pub off : List ℕ → List ℕ → ℕ → Bool
off starts next K = not (eqb (get_or next K 0) (get_or starts (suc K) 0))

-- the rows of the first ns supernodes end where the next ones' start, or one's do not
pub differ_is : (starts next : List ℕ) (ns : ℕ) → ns < length starts → ns ≤ length next → not (pointwise eqb (take ns next) (take (ns + 1 - 1) (drop 1 starts))) ≡ ltb (least (off starts next) 0 ns) ns
differ_is starts next ns a b = ⊎_elim
    (λ (l : first < ns). ap not (not_true _ (λ e. T_not (eqb (get_or next first 0) (get_or starts (suc first) 0)) (found.at (omega arith)) (eqb_of (sym (left first l) ∙ ap (λ x. get_or x first 0) ((bytes_decides ends begun).0 e) ∙ right first l)))) ∙ sym (ltb_yes l))
    (λ (l : ns ≤ first). ap not ((bytes_decides ends begun).1 (ext_get_or 0 ends begun (omega (arith, long, length-take-le ns next b)) (λ i h. left i (omega (arith, length-take-le ns next b)) ∙ none i (omega (arith, length-take-le ns next b)) l ∙ sym (right i (omega (arith, length-take-le ns next b)))))) ∙ sym (ltb_no l))
    (lt_or_le first ns)
  where
    first : ℕ
    first = least (off starts next) 0 ns

    ends : List ℕ
    ends = take ns next

    begun : List ℕ
    begun = take (ns + 1 - 1) (drop 1 starts)

    found : Least (off starts next) 0 ns first
    found = least_is (off starts next) 0 ns

    long : length begun ≡ ns
    long = length-take-le (ns + 1 - 1) (drop 1 starts) (omega (arith, length-drop 1 starts)) ∙ omega arith

    left : (i : ℕ) → i < ns → get_or ends i 0 ≡ get_or next i 0
    left i h = get_or-take ns next i 0 h

    right : (i : ℕ) → i < ns → get_or begun i 0 ≡ get_or starts (suc i) 0
    right i h = get_or-take (ns + 1 - 1) (drop 1 starts) i 0 (omega arith) ∙ get_or-drop 1 starts i 0 ∙ ap (λ x. get_or starts x 0) (let q : 1 + i ≡ suc i = omega arith in q)

    not_true : (x : Bool) → (x ≡ true → ⊥) → x ≡ false
    not_true true f = absurd (f refl)
    not_true false f = refl

    none : (i : ℕ) → i < ns → ns ≤ first → get_or next i 0 ≡ get_or starts (suc i) 0
    none i h l = ⊎_elim
        (λ (t : T (off starts next i)). absurd (found.none i (omega arith) (omega arith) t))
        (λ (t : T (not (off starts next i))). eqb→eq (get_or next i 0) (get_or starts (suc i) 0) (twice (eqb (get_or next i 0) (get_or starts (suc i) 0)) t))
        (T_dec (off starts next i))
      where
        twice : (x : Bool) → T (not (not x)) → T x
        twice true t = tt
        twice false t = t

-- the test never fires
pub never_off : (f : ℕ → ℕ) (ns : ℕ) (starts next : List ℕ) → Holds f (suc ns) starts → Holds (λ K. f (suc K)) ns next → ltb (least (off starts next) 0 ns) ns ≡ false
never_off f ns starts next a b = ⊎_elim
    (λ (l : least (off starts next) 0 ns < ns).
    let K = least (off starts next) 0 ns in
    absurd (T_not (eqb (get_or next K 0) (get_or starts (suc K) 0)) ((least_is (off starts next) 0 ns).at (omega arith)) (eqb_of (b.at K l ∙ sym (a.at (suc K) (let z : suc K < suc ns = omega arith in z))))))
    (λ (l : ns ≤ least (off starts next) 0 ns). ltb_no l) (lt_or_le (least (off starts next) 0 ns) ns)
