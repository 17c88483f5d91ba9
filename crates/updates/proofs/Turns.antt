-- A turn of the scan, on the lists. Assumes nothing.
use mathlib.Core.Path.{◌≡◌, refl, sym, ap, ◌∙◌}
use mathlib.Core.Logic.{⊎_elim}
use mathlib.Core.Bool.{Bool, true, false, ◌&&◌}
use mathlib.Core.List.{List}
use Prim.Native.Nat.{ℕ, suc, ◌+◌, ◌-◌, ◌≤◌, ◌<◌}
use native.Mathlib.Omega.{arith}
use native.Mathlib.Nat.{le_refl}
use native.Mathlib.Numerals.{add-one}
use lib.Dec.{leb}
use lib.ListN.{length, get_or, set, length-set}
use lib.Seq.{get_or-set_same, get_or-set_other}
use Rattle.statement.specs.Lists.{bit}
use Rattle.statement.specs.Input.{stored}
use Rattle.statement.specs.Shape.{Shape, supernodes, first, width, height}
use Rattle.statement.specs.Supernodes.{owner, shape_of}
use Rattle.laws.proofs.Bools.{split_at, lt_or_le}
use Rattle.laws.proofs.Input.{upper}
use Rattle.laws.proofs.FactorTree.{upper'}
use Rattle.laws.proofs.Tally.{count_to}
use Rattle.updates.specs.Scan.{from, hits, met, shaped, Laid, Past, RunEnd, Counted}
use Rattle.updates.proofs.Made.{Made, made_of}
use Rattle.updates.proofs.Scans as Scans
use Rattle.updates.proofs.Scans.{Scan, row_at}

-- ---- one turn

-- the scan of k's rows, at position p of the list
pub record Place (S : Shape) (k p : ℕ) : Type 0 where
  pub t : ℕ
  pub x : ℕ
  pub at : p ≡ get_or S.starts k 0 + x
  pub to : x ≤ height S k
  pub scan : Scan S k t x

pub laid_made : {n ns : ℕ} {starts rows firsts own from list : List ℕ} → Laid n ns starts rows firsts own from list → Made (shaped n starts rows)
laid_made {n} {starts} {rows} g = made_of _ n (upper' (stored starts rows) n (upper n starts rows g.formed))

module _ (n ns : ℕ) (starts rows firsts own from' list : List ℕ) (g : Laid n ns starts rows firsts own from' list) (k : ℕ) (kl : k < ns) where
  abbrev S : Shape
  S = shaped n starts rows

  m : Made (shaped n starts rows)
  m = laid_made g

  kn : k < supernodes (shaped n starts rows)
  kn = omega (arith, g.number)

  size : (shaped n starts rows).n ≡ n
  size = unfold shape_of in refl

  firsts_at : (j : ℕ) → j ≤ ns → get_or firsts j 0 ≡ first (shaped n starts rows) j
  firsts_at j h = g.first-is.at j (let z : j < suc ns = omega arith in z)

  starts_at : (j : ℕ) → j ≤ ns → get_or from' j 0 ≡ get_or (shaped n starts rows).starts j 0
  starts_at j h = g.from_is.at j (let z : j < suc ns = omega arith in z)

  pub record Opens : Type 0 where
    pub past : Past firsts from' list k
    pub base : get_or from' k 0 ≡ get_or (shaped n starts rows).starts k 0
    pub next : get_or from' (k + 1) 0 ≡ get_or (shaped n starts rows).starts k 0 + height (shaped n starts rows) k
    pub place : Place (shaped n starts rows) k (get_or from' k 0 + (get_or firsts (k + 1) 0 - get_or firsts k 0))

  pub opens : Opens
  opens = record {
    past = record {
      in_firsts = omega (arith, g.first-is.fits);
      in_starts = omega (arith, g.from_is.fits);
      rise = omega (arith, f0, f1, m.built.rise k kn);
      to = omega (arith, f0, f1, r0, r1, m.built.tall k kn, m.next k kn);
      end = omega (arith, r1, m.within (suc k) kn, g.list_is.fits);
    };
    base = r0;
    next = r1 ∙ m.next k kn;
    place = record {
      t = k;
      x = width S k;
      at = rw (f0, f1, r0) refl;
      to = m.built.tall k kn;
      scan = Scans.scan_begin S m k kn;
    };
  }
    where
      f0 : get_or firsts k 0 ≡ first (shaped n starts rows) k
      f0 = firsts_at k (omega arith)

      f1 : get_or firsts (k + 1) 0 ≡ first (shaped n starts rows) (suc k)
      f1 = ap (λ y. get_or firsts y 0) (add-one k) ∙ firsts_at (suc k) kl

      r0 : get_or from' k 0 ≡ get_or (shaped n starts rows).starts k 0
      r0 = starts_at k (omega arith)

      r1 : get_or from' (k + 1) 0 ≡ get_or (shaped n starts rows).starts (suc k) 0
      r1 = ap (λ y. get_or from' y 0) (add-one k) ∙ starts_at (suc k) kl

  -- no target yet
  pub opens_none : opens.place.t ≡ k
  unfolding opens
  opens_none = refl

  -- the row at place x of k's
  row_of : (x : ℕ) → x < height (shaped n starts rows) k → get_or list (get_or (shaped n starts rows).starts k 0 + x) 0 ≡ row_at (shaped n starts rows) k x
  row_of x h = g.list_is.at (get_or S.starts k 0 + x) (omega (arith, m.next k kn, m.within (suc k) kn)) ∙ m.row_at_lem k x kn h

  -- from position p
  module _ (p : ℕ) (w : Place (shaped n starts rows) k p) (h : p < get_or from' (k + 1) 0) where
    pub x_in : w.x < height (shaped n starts rows) k
    x_in = omega (arith, opens.next, w.at)

    row_is : get_or list p 0 ≡ row_at (shaped n starts rows) k w.x
    row_is = ap (λ y. get_or list y 0) w.at ∙ row_of w.x x_in

    row_in : row_at (shaped n starts rows) k w.x < n
    row_in = omega (arith, m.built.below k w.x kn x_in, size)

    abbrev pub target : ℕ
    target = owner (shaped n starts rows).firsts (row_at (shaped n starts rows) k w.x)

    target_is : get_or own (get_or list p 0) 0 ≡ target
    target_is = ap (λ y. get_or own y 0) row_is ∙ g.own_is.at (row_at S k w.x) row_in

    t_in : target < ns
    t_in = omega (arith, (Scans.row_owned S m k kn w.t w.x w.scan x_in).inside, g.number)

    pub record Turn (j : ℕ) : Type 0 where
      pub in_list : p < length list
      pub in_own : get_or list p 0 < length own
      pub is : j ≡ target
      pub in_nodes : j < ns
      pub in_first : j + 1 < length firsts

    pub turn : Turn (get_or own (get_or list p 0) 0)
    turn = record {
      in_list = omega (arith, opens.past.end);
      in_own = omega (arith, row_is, row_in, g.own_is.fits);
      is = target_is;
      in_nodes = omega (arith, target_is, t_in);
      in_first = omega (arith, target_is, t_in, g.first-is.fits);
    }

    pub turned : {q : ℕ} → RunEnd list p (get_or from' (k + 1) 0) (get_or firsts (get_or own (get_or list p 0) 0 + 1) 0) q → q ≡ get_or (shaped n starts rows).starts k 0 + from (shaped n starts rows) k (suc target)
    turned {q} e = finish (rw bound_is at e)
      where
        a : ℕ
        a = get_or (shaped n starts rows).starts k 0

        b : ℕ
        b = first (shaped n starts rows) (suc target)

        bound_is : get_or firsts (get_or own (get_or list p 0) 0 + 1) 0 ≡ b
        bound_is = rw (target_is, add-one target) (firsts_at (suc target) t_in)

        finish : RunEnd list p (get_or from' (k + 1) 0) b q → q ≡ a + from (shaped n starts rows) k (suc target)
        finish u = omega (
          arith,
          w.at,
          u.from,
          Scans.run_end S m k kn (q - a) b (omega (arith, u.to, opens.next))
              (λ y z. ⊎_elim
              (λ (l : y < w.x).
              let v : suc w.t ≤ suc target = omega (arith, Scans.scan_later S m k kn w.t w.x w.scan x_in) in
              (Scans.row_low S m k kn b y (omega (arith, x_in))).1 (omega (arith, w.scan.here, Scans.from_rise S m k kn (suc w.t) (suc target) v (omega (arith, t_in, g.number)))))
              (λ (l : w.x ≤ y). rw (row_of y (omega (arith, u.to, opens.next))) at (u.low (a + y) (omega (arith, w.at)) (omega arith))) (lt_or_le y w.x))
              (λ z. let v : a + (q - a) ≡ q = omega (arith, w.at, u.from) in
              rw (← (row_of (q - a) z), v) (u.high (omega (arith, opens.next, w.at, u.from)))),
        )

    pub turn_next : {q : ℕ} → RunEnd list p (get_or from' (k + 1) 0) (get_or firsts (get_or own (get_or list p 0) 0 + 1) 0) q → Place (shaped n starts rows) k q
    turn_next e = record {
      t = target;
      x = from S k (suc target);
      at = turned e;
      to = Scans.from_most S m k kn (suc target);
      scan = Scans.scan_next S m k kn w.t w.x w.scan x_in;
    }

    pub turn_past : {q : ℕ} (e : RunEnd list p (get_or from' (k + 1) 0) (get_or firsts (get_or own (get_or list p 0) 0 + 1) 0) q) → (turn_next e).t ≡ target
    unfolding turn_next
    turn_past e = refl

    pub turn_more : {q : ℕ} → RunEnd list p (get_or from' (k + 1) 0) (get_or firsts (get_or own (get_or list p 0) 0 + 1) 0) q → p < q
    turn_more e = omega (arith, turned e, w.at, Scans.scan_more S m k kn w.t w.x w.scan x_in)

-- ---- the count

pub record Counting (S : Shape) (k : ℕ) (c₀ counts : List ℕ) (p : ℕ) : Type 0 where
  pub place : Place S k p
  pub room : supernodes S ≤ length counts
  pub is : (j : ℕ) → j < supernodes S → get_or counts j 0 ≡ met S k place.t j
  pub same_len : length counts ≡ length c₀

-- what a turn from p reads, where there is one
pub record Ahead (list own firsts counts : List ℕ) (p e : ℕ) : Type 0 where
  pub end_to : e ≤ length list
  pub in_own : p < e → get_or list p 0 < length own
  pub in_counts : p < e → get_or own (get_or list p 0) 0 < length counts
  pub in_first : p < e → get_or own (get_or list p 0) 0 + 1 < length firsts
  pub few : p < e → get_or counts (get_or own (get_or list p 0) 0) 0 ≤ length counts

pub bit_to : (b : Bool) → bit b ≤ 1
bit_to true = le_refl 1
bit_to false = omega arith

met_to : (S : Shape) (k t j : ℕ) → met S k t j ≤ suc k
met_to S k t j = omega (arith, count_to (λ i. hits S i j) k, bit_to (hits S k j && leb j t))

module _ (n ns : ℕ) (starts rows firsts own from' list : List ℕ) (g : Laid n ns starts rows firsts own from' list) (k : ℕ) (kl : k < ns) where
  abbrev Q : Shape
  Q = shaped n starts rows

  mm : Made (shaped n starts rows)
  mm = laid_made g

  kk : k < supernodes (shaped n starts rows)
  kk = omega (arith, g.number)

  pub counting_begin : {counts : List ℕ} → Counted (shaped n starts rows) k counts
      → Counting (shaped n starts rows) k counts counts (get_or from' k 0 + (get_or firsts (k + 1) 0 - get_or firsts k 0))
  unfolding opens
  counting_begin w = record {
    place = (opens n ns starts rows firsts own from' list g k kl).place;
    room = w.room;
    is = λ j h. w.is j h ∙ sym (Scans.met_none Q mm k kk j);
    same_len = refl;
  }

  module _ {c₀ counts : List ℕ} {p : ℕ} (w : Counting (shaped n starts rows) k c₀ counts p) where
    module _ (h : p < get_or from' (k + 1) 0) where
      tn : Turn n ns starts rows firsts own from' list g k kl p w.place h (get_or own (get_or list p 0) 0)
      tn = turn n ns starts rows firsts own from' list g k kl p w.place h

      tl : get_or own (get_or list p 0) 0 < supernodes (shaped n starts rows)
      tl = omega (arith, tn.in_nodes, g.number)

      counting_reads : (get_or list p 0 < length own) × (get_or own (get_or list p 0) 0 < length counts) × (get_or own (get_or list p 0) 0 + 1 < length firsts) × (get_or counts (get_or own (get_or list p 0) 0) 0 ≤ length counts)
      counting_reads = (tn.in_own, omega (arith, tl, w.room), tn.in_first, omega (arith, w.is _ tl, met_to Q k w.place.t (get_or own (get_or list p 0) 0), kk, w.room))

      pub counting_more : {q : ℕ} → RunEnd list p (get_or from' (k + 1) 0) (get_or firsts (get_or own (get_or list p 0) 0 + 1) 0) q
          → Counting (shaped n starts rows) k c₀ (set counts (get_or own (get_or list p 0) 0) (get_or counts (get_or own (get_or list p 0) 0) 0 + 1)) q
      unfolding turn_next
      counting_more e = record {
        place = turn_next n ns starts rows firsts own from' list g k kl p w.place h e;
        room = simp length-set w.room;
        is = rw tn.is (split_at {P = λ i. i < supernodes Q → get_or (set counts j (get_or counts j 0 + 1)) i 0 ≡ met Q k j i} j
            (λ a. get_or-set_same counts j _ 0 (omega (arith, w.room)) ∙ omega (arith, w.is j a, Scans.met_same Q mm k kk w.place.t w.place.x w.place.scan xi))
            (λ i ne a. get_or-set_other counts j i _ 0 ne ∙ w.is i a ∙ sym (Scans.met_other Q mm k kk w.place.t w.place.x w.place.scan xi i ne)));
        same_len = simp length-set w.same_len;
      }
        where
          xi : w.place.x < height (shaped n starts rows) k
          xi = x_in n ns starts rows firsts own from' list g k kl p w.place h

          j : ℕ
          j = target n ns starts rows firsts own from' list g k kl p w.place h

    pub counting_over : get_or from' (k + 1) 0 ≤ p → Counted (shaped n starts rows) (suc k) counts
    counting_over h = record { room = w.room; is = λ j a. w.is j a ∙ Scans.scan_over Q mm k kk w.place.t w.place.x w.place.scan (omega (arith, w.place.at, (opens n ns starts rows firsts own from' list g k kl).next)) j a }

    pub counting_ahead : Counting (shaped n starts rows) k c₀ counts p × Ahead list own firsts counts p (get_or from' (k + 1) 0)
    counting_ahead = (
      w,
      record {
        end_to = (opens n ns starts rows firsts own from' list g k kl).past.end;
        in_own = λ h. (counting_reads h).0;
        in_counts = λ h. (counting_reads h).1;
        in_first = λ h. (counting_reads h).2;
        few = λ h. (counting_reads h).3;
      },
    )
