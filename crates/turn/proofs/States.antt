-- One turn of the run, over plain lists. Assumes nothing.
use mathlib.Core.Path.{◌≡◌, refl, sym, ap, ap₂, ◌∙◌, subst}
use mathlib.Core.Bool.{Bool, true, false, ◌||◌}
use mathlib.Core.List.{List, ◌∷◌, ◌++◌}
use Prim.Native.Nat.{ℕ, zero, suc, ◌+◌, ◌-◌, ◌≤◌, ◌<◌}
use native.Mathlib.Omega.{arith}
use native.Mathlib.Nat.{add-zero, add-suc, add-sub_of_le}
use native.Mathlib.Decide.{ℕ_discrete}
use lib.ListN.{length, get_or, set, take, drop}
use lib.Seq.{take_at, drop_at, length-take-le, drop-set-lt, get_or-set_same, get_or-set_other, get_or-take, get_or-drop}
use lib.Ieee.{Float}
use borrow.Author.Tests.{eq-eqb, ne_eqb}
use Rattle.laws.specs.Lent.{laid}
use Rattle.statement.specs.Lists.{bit}
use Rattle.statement.specs.Shape.{Shape, parent_of, rows_of}
use Rattle.statement.specs.Rules.{Out, made, broke, step}
use Rattle.statement.specs.Run.{State, blocked, fate_of, lesser, settle, fate}
use Rattle.laws.proofs.Loops.{blocked_cons}
use Rattle.updates.specs.Layout.{owners_at, parents_at}
use Rattle.std.specs.Prelude.{⊤, Result, Ok, Err}
use Rattle.step.proofs.Link.{stepped_alike}
use Rattle.step.specs.Answer.{answer_of, leaves, Stepped}
use Rattle.statement.specs.declared.Factored.{Factored}
use Rattle.turn.specs.Turn.{under, Due, Flagged, Is, Turned}

-- children come before their parent
closed : (S : Shape) (h : List ℕ) (J d : ℕ) → ((K : ℕ) → J ≤ K → K < J + d → K < parent_of S K) → blocked S h J (J + d) ≡ blocked S h J J
unfolding blocked
closed S h J zero up = ap (blocked S h J) (add-zero J)
closed S h J (suc d) up =
    ap (blocked S h J) (add-suc J d) ∙
    rw (ne_eqb (parent_of S (J + d)) J (λ e. omega (arith, up (J + d) (omega arith) (omega arith)))) (no (blocked S h J (J + d)) ∙ closed S h J d (λ K l k. up K l (omega arith)))
  where
    no : (b : Bool) → b || false ≡ b
    no true = refl
    no false = refl

bit_one : (b : Bool) → (bit b ≡ 0 → ⊥) → b ≡ true
bit_one true h = refl
bit_one false h = absurd (h refl)

bit_zero : (b : Bool) → bit b ≡ 0 → b ≡ false
bit_zero true h = absurd (omega arith)
bit_zero false h = refl

module _ (S : Shape) (ns J : ℕ) (k : J < ns) (up : (K : ℕ) → K < ns → K < parent_of S K) where
  same : (h : List ℕ) → blocked S h J ns ≡ blocked S h J J
  same h = subst (λ x. blocked S h J x ≡ blocked S h J J) (add-sub_of_le (let q : J ≤ ns = omega arith in q)) (closed S h J (ns - J) (λ K l m. up K (omega arith)))

  pub halted : (h words : List ℕ) → Flagged S ns h words → (get_or words J 0 ≡ 0 → ⊥) → blocked S h J J ≡ true
  halted h words f n = sym (same h) ∙ bit_one (blocked S h J ns) (λ e. n (f J k ∙ e))

  pub free : (h words : List ℕ) → Flagged S ns h words → get_or words J 0 ≡ 0 → blocked S h J J ≡ false
  free h words f e = sym (same h) ∙ bit_zero (blocked S h J ns) (sym (f J k) ∙ e)

  -- J flags its parent
  pub mark : (h words : List ℕ) → parent_of S J < length words → Flagged S ns h words → Flagged S ns (J ∷ h) (set words (parent_of S J) 1)
  mark h words r f M m = go (ℕ_discrete (parent_of S J) M)
    where
      or-true : (b : Bool) → bit (b || true) ≡ 1
      or-true true = refl
      or-true false = refl

      or-false : (b : Bool) → b || false ≡ b
      or-false true = refl
      or-false false = refl

      go : Dec (parent_of S J ≡ M) → get_or (set words (parent_of S J) 1) M 0 ≡ bit (blocked S (J ∷ h) M ns)
      go (yes e) =
          ap (λ x. get_or (set words (parent_of S J) 1) x 0) (sym e) ∙
          get_or-set_same words (parent_of S J) 1 0 r ∙
          sym (ap bit (blocked_cons S h M J ns k) ∙ ap (λ b. bit (blocked S h M ns || b)) (eq-eqb (parent_of S J) M e) ∙ or-true (blocked S h M ns))
      go (no e) =
          get_or-set_other words (parent_of S J) M 1 0 (λ d. e (sym d)) ∙
          f M m ∙
          sym (ap bit (blocked_cons S h M J ns k ∙ ap (λ b. blocked S h M ns || b) (ne_eqb (parent_of S J) M e) ∙ or-false (blocked S h M ns)))

  module _ (A : ℕ → ℕ → Float) (s : State) (values : List Float) (least : Factored) (words : List ℕ) (i : Is S ns s values least words) where
    pub skip : parent_of S J < length words → (get_or words J 0 ≡ 0 → ⊥) → Is S ns (settle S s J (fate S A s J)) values least (set words (parent_of S J) 1)
    unfolding fate fate_of settle
    skip r n = rw (halted s.halted words i.flags n) (record { held = i.held; low = i.low; flags = mark s.halted words r i.flags })

    -- the flags do not turn on what stands past them
    kept : (words' : List ℕ) (b : ℕ) → ns ≤ b → take b words' ≡ take b words → Flagged S ns s.halted words'
    kept words' b l e M m = sym (get_or-take b words' M 0 (omega arith)) ∙ ap (λ x. get_or x M 0) e ∙ get_or-take b words M 0 (omega arith) ∙ i.flags M m

    module _ (words' : List ℕ) (b : ℕ) (l : ns ≤ b) (e : take b words' ≡ take b words) (z : get_or words J 0 ≡ 0) (values' : List Float) where
      made_by : (o : Out) → Ok tt ≡ answer_of o → values' ≡ leaves S s.values J o → Is S ns (settle S s J (fate_of false o)) values' least words'
      unfolding fate_of settle answer_of leaves
      made_by (made x) q v = record { held = v; low = i.low; flags = kept words' b l e }
      made_by (broke c) q v = absurd (let w : ◌≡◌ {A = ℕ} 0 1 = cc q in omega arith)

      broke_by : (c : Factored) (o : Out) → Err c ≡ answer_of o → values' ≡ leaves S s.values J o → parent_of S J < length words' →
          Is S ns (settle S s J (fate_of false o)) values' (lesser c least) (set words' (parent_of S J) 1)
      unfolding fate_of settle answer_of leaves
      broke_by c (made x) q v r = absurd (let w : ◌≡◌ {A = ℕ} 0 1 = cc q in omega arith)
      broke_by c (broke x) q v r =
          record {
            held = v;
            low = ap₂ lesser (let w : c ≡ x = cc q in w) i.low;
            flags = mark s.halted words' r (kept words' b l e);
          }

      stepped_at : (r : Result ⊤ Factored) → Stepped S A J values values' r → (r ≡ answer_of (step S A s.values J)) × (values' ≡ leaves S s.values J (step S A s.values J))
      stepped_at r t = (t.answer ∙ ap (λ v. answer_of (step S A v J)) i.held, t.values ∙ ap (λ v. leaves S v J (step S A v J)) i.held)

      pub done : Stepped S A J values values' (Ok tt) → Is S ns (settle S s J (fate S A s J)) values' least words'
      unfolding fate
      done t = let q = stepped_at (Ok tt) t in rw (free s.halted words i.flags z) (made_by (step S A s.values J) q.0 q.1)

      pub fail : (c : Factored) → Stepped S A J values values' (Err c) → parent_of S J < length words' →
          Is S ns (settle S s J (fate S A s J)) values' (lesser c least) (set words' (parent_of S J) 1)
      unfolding fate
      fail c t r = let q = stepped_at (Err c) t in rw (free s.halted words i.flags z) (broke_by c (step S A s.values J) q.0 q.1 r)

module _ (n : ℕ) (F St R : List ℕ) (ns : ℕ) (groups words : List ℕ) (matrix values : List Float) (entries wlen : ℕ)
    (t : Due n F St R ns groups words matrix entries wlen) (A : ℕ → ℕ → Float) (J : ℕ) (k : J < ns) (least : Factored) (p : ℕ) (e : p ≡ get_or words (parents_at n + J) 0) where
  abbrev S : Shape
  S = under n F St R (drop (parents_at n) words)

  parent_at : (K : ℕ) → parent_of S K ≡ get_or words (parents_at n + K) 0
  parent_at K = get_or-drop (parents_at n) words K 0

  up : (K : ℕ) → K < ns → K < parent_of S K
  up K h = omega (arith, parent_at K, t.up K h)

  p_is : p ≡ parent_of S J
  p_is = e ∙ sym (parent_at J)

  pub p_low : p ≤ n
  p_low = omega (arith, t.top J k)

  pub p_in : p < length words
  p_in = omega (arith, t.top J k, (t.at J k).inside)

  pub skipped : (get_or words J 0 ≡ 0 → ⊥) → Turned S A ns J least least words (set words p 1) values values
  skipped z =
      record {
        next = λ s i. rw p_is (skip S ns J k up A s values least words i (omega (arith, p_is, p_in)) z);
        rest = drop-set-lt (owners_at n) words p 1 (omega (arith, p_low));
        sized = refl;
      }

  module _ (z : get_or words J 0 ≡ 0) (words' : List ℕ) (values' : List Float) (w : take (n + 1) words' ≡ take (n + 1) words)
      (d : drop (owners_at n) words' ≡ drop (owners_at n) words) (l : length words' ≡ length words) (m : length values' ≡ length values) where
    whole : (x r : Result ⊤ Factored) → x ≡ r → Stepped (laid n F St R) A J values values' x → Stepped S A J values values' r
    whole x r h q = subst (Stepped S A J values values') h (stepped_alike (laid n F St R) S J (record { firsts = λ K h. refl; rows = λ K h. unfold rows_of in refl }) A values values' x q)

    pub finished : (x : Result ⊤ Factored) → x ≡ Ok tt → Stepped (laid n F St R) A J values values' x → Turned S A ns J least least words words' values values'
    finished x h q =
        record {
          next = λ s i. done S ns J k up A s values least words i words' (n + 1) (omega (arith, t.few)) w z values' (whole x (Ok tt) h q);
          rest = d;
          sized = m;
        }

    pub broken : (x : Result ⊤ Factored) (c r : Factored) (words'' : List ℕ) → r ≡ lesser c least → words'' ≡ set words' p 1 → x ≡ Err c → Stepped (laid n F St R) A J values values' x →
        Turned S A ns J least r words words'' values values'
    broken x c r words'' e₁ e₂ h q =
        record {
          next = λ s i. rw (e₁, e₂, p_is) (fail S ns J k up A s values least words i words' (n + 1) (omega (arith, t.few)) w z values' c (whole x (Err c) h q) (omega (arith, p_is, p_in)));
          rest = ap (drop (owners_at n)) e₂ ∙ drop-set-lt (owners_at n) words' p 1 (omega (arith, p_low)) ∙ d;
          sized = m;
        }

-- the part of the values that a turn takes, put back
pub over : (S : Shape) (A : ℕ → ℕ → Float) (ns J : ℕ) (least r : Factored) (words words' : List ℕ) (v w : List Float) (entries : ℕ) → entries ≤ length v → length w ≡ length (take entries v) →
    Turned S A ns J least r words words' (take entries v) w →
    (Turned S A ns J least r words words' (take entries v) (take entries (w ++ drop entries v))) × (drop entries (w ++ drop entries v) ≡ drop entries v)
over S A ns J least r words words' v w entries h l t = (rw (take_at w (drop entries v) entries long) t, drop_at w (drop entries v) entries long)
  where
    long : length w ≡ entries
    long = l ∙ length-take-le entries v h
