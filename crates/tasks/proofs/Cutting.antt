-- The cut into tasks and top, as it is written. Assumes nothing.
use mathlib.Core.Path.{◌≡◌, refl, sym, ap, ap₂, ◌∙◌}
use mathlib.Core.Logic.{◌≢◌}
use mathlib.Core.List.{List, [], ◌∷◌, ◌++◌, append_assoc, append-nil}
use Prim.Native.Nat.{ℕ, zero, suc, ◌+◌, ◌*◌, ◌≤◌, ◌<◌}
use native.Mathlib.Omega.{arith}
use native.Mathlib.Numerals.{add-one}
use lib.ListN.{length, get_or, set, drop, length-set, length-append}
use lib.Seq.{set_at, drop-cons}
use Rattle.statement.specs.Shape.{Shape, supernodes}
use Rattle.statement.specs.Tasks.{climbed, Task, with_top, with_task, split}
use Rattle.statement.specs.Areas.{flat}
use Rattle.laws.proofs.Bools.{ltb_yes, ltb_no, eqb_yes, eqb_no}
use Rattle.tasks.specs.Given.{Tabled, Cut}

module _ (S : Shape) (h : ℕ) where
  split_task : (d s e : ℕ) → s < supernodes S → climbed S h s (supernodes S) s s ≡ e → e ≢ s → split S h (suc d) s ≡ with_task s e (split S h d e)
  unfolding split
  split_task d s e l q ne = rw (ltb_yes l, q, eqb_no ne, split) (ap (λ z. with_task s z (split S h d z)) q)

  split_top : (d s e : ℕ) → s < supernodes S → climbed S h s (supernodes S) s s ≡ e → e ≡ s → split S h (suc d) s ≡ with_top s (split S h d (suc s))
  unfolding split
  split_top d s e l q eq = rw (ltb_yes l, q, eqb_yes eq, split)

  split_end : (d s : ℕ) → supernodes S ≤ s → split S h d s ≡ record { tasks = []; top = [] }
  unfolding split
  split_end zero s l = refl
  split_end (suc d) s l = rw (ltb_no l, split)

-- ---- one more at the end of what is written

set_one : (l d : List ℕ) (m x : ℕ) → length l ≡ m → m < length d → set (l ++ drop m d) m x ≡ (l ++ (x ∷ [])) ++ drop (m + 1) d
set_one l d m x e h = ap (λ z. set (l ++ z) m x) (drop-cons d m 0 h) ∙ set_at l (get_or d m 0) (drop (suc m) d) x m e ∙ sym (append_assoc l (x ∷ []) (drop (m + 1) d) ∙ ap (λ z. l ++ x ∷ drop z d) (add-one m))

flat_length : (l : List Task) → length (flat l) ≡ 2 * length l
unfolding flat
flat_length [] = refl
flat_length (t ∷ l) = omega (arith, flat_length l)

flat_more : (l : List Task) (s e : ℕ) → (flat l ++ (s ∷ [])) ++ (e ∷ []) ≡ flat (l ++ (record { first = s; past = e } ∷ []))
unfolding flat
flat_more [] s e = refl
flat_more (t ∷ l) s e = ap (λ z. t.first ∷ t.past ∷ z) (flat_more l s e)

long : {A : Type 0} (l : List A) (x : A) {m : ℕ} → m ≡ length l → m + 1 ≡ length (l ++ (x ∷ []))
long l x e = omega (arith, length-append l (x ∷ []))

put_task : (l : List Task) (d : List ℕ) (m s e : ℕ) → m ≡ length l → 2 * m + 1 < length d
    → set (set (flat l ++ drop (2 * m) d) (2 * m) s) (2 * m + 1) e ≡ flat (l ++ (record { first = s; past = e } ∷ [])) ++ drop (2 * (m + 1)) d
put_task l d m s e q h =
    ap (λ z. set z (2 * m + 1) e) (set_one (flat l) d (2 * m) s (omega (arith, flat_length l)) (omega arith))
    ∙ set_one (flat l ++ (s ∷ [])) d (2 * m + 1) e (omega (arith, flat_length l, length-append (flat l) (s ∷ []))) h
    ∙ ap₂ (λ x y. x ++ drop y d) (flat_more l s e) (let z : 2 * m + 1 + 1 ≡ 2 * (m + 1) = omega arith in z)

-- ---- what is written, and what is to come

pub record Written (S : Shape) (ns h : ℕ) (tasks₀ top₀ tasks top : List ℕ) (t o s : ℕ) : Type 0 where
  pub d : ℕ
  pub dt : List Task
  pub dp : List ℕ
  pub enough : ns ≤ s + d
  pub len_t : t ≡ length dt
  pub len_o : o ≡ length dp
  pub is_t : tasks ≡ flat dt ++ drop (2 * t) tasks₀
  pub is_o : top ≡ dp ++ drop o top₀
  pub rest_t : (split S h ns 0).tasks ≡ dt ++ (split S h d s).tasks
  pub rest_o : (split S h ns 0).top ≡ dp ++ (split S h d s).top

pub record Cutting (ns : ℕ) (parents begins loads : List ℕ) (h : ℕ) (tasks₀ top₀ tasks top : List ℕ) (t o s : ℕ) : Type 0 where
  pub to : s ≤ ns
  pub few_t : t ≤ s
  pub few_o : o ≤ s
  pub same_t : length tasks ≡ length tasks₀
  pub same_o : length top ≡ length top₀
  pub is : (S : Shape) → Tabled S ns parents begins loads → Written S ns h tasks₀ top₀ tasks top t o s

pub cutting_begin : (ns : ℕ) (parents begins loads : List ℕ) (h : ℕ) (tasks₀ top₀ : List ℕ) → Cutting ns parents begins loads h tasks₀ top₀ tasks₀ top₀ 0 0 0
unfolding flat
cutting_begin ns parents begins loads h tasks₀ top₀ = record {
  to = omega arith;
  few_t = omega arith;
  few_o = omega arith;
  same_t = refl;
  same_o = refl;
  is = λ S g. record { d = ns; dt = []; dp = []; enough = omega arith; len_t = refl; len_o = refl; is_t = refl; is_o = refl; rest_t = refl; rest_o = refl };
}

module _ {ns : ℕ} {parents begins loads : List ℕ} {h : ℕ} {tasks₀ top₀ tasks top : List ℕ} {t o s : ℕ} (w : Cutting ns parents begins loads h tasks₀ top₀ tasks top t o s) where
  module _ (l : s < ns) (e : ℕ) (from : s ≤ e) (below : e ≤ ns) (is_e : (S : Shape) → Tabled S ns parents begins loads → e ≡ climbed S h s ns s s) (ft : 2 * ns ≤ length tasks₀) (fo : ns ≤ length top₀) where
    module _ (S : Shape) (g : Tabled S ns parents begins loads) where
      sn : s < supernodes S
      sn = rw g.tree.number l

      en : climbed S h s (supernodes S) s s ≡ e
      en = rw g.tree.number (sym (is_e S g))

      task : s < e → Written S ns h tasks₀ top₀ (set (set tasks (2 * t) s) (2 * t + 1) e) top (t + 1) o e
      task k = go (w.is S g).d (w.is S g).enough (w.is S g).rest_t (w.is S g).rest_o
        where
          v : Written S ns h tasks₀ top₀ tasks top t o s
          v = w.is S g

          go : (d : ℕ) → ns ≤ s + d → (split S h ns 0).tasks ≡ v.dt ++ (split S h d s).tasks → (split S h ns 0).top ≡ v.dp ++ (split S h d s).top
              → Written S ns h tasks₀ top₀ (set (set tasks (2 * t) s) (2 * t + 1) e) top (t + 1) o e
          go zero a rt ro = absurd (omega (arith, l, a))
          go (suc d) a rt ro =
              let c = split_task S h d s e sn en (let z : e ≢ s = omega arith in z) in
              record {
                d = d;
                dt = v.dt ++ (record { first = s; past = e } ∷ []);
                dp = v.dp;
                enough = omega arith;
                len_t = long v.dt (record { first = s; past = e }) v.len_t;
                len_o = v.len_o;
                is_t = ap (λ z. set (set z (2 * t) s) (2 * t + 1) e) v.is_t ∙ put_task v.dt tasks₀ t s e v.len_t (omega (arith, w.few_t));
                is_o = v.is_o;
                rest_t = rt ∙ ap (λ z. v.dt ++ z.tasks) c ∙ unfold with_task in sym (append_assoc v.dt (record { first = s; past = e } ∷ []) (split S h d e).tasks);
                rest_o = ro ∙ ap (λ z. v.dp ++ z.top) c ∙ unfold with_task in refl;
              }

      alone : e ≡ s → Written S ns h tasks₀ top₀ tasks (set top o s) t (o + 1) (s + 1)
      alone k = go (w.is S g).d (w.is S g).enough (w.is S g).rest_t (w.is S g).rest_o
        where
          v : Written S ns h tasks₀ top₀ tasks top t o s
          v = w.is S g

          go : (d : ℕ) → ns ≤ s + d → (split S h ns 0).tasks ≡ v.dt ++ (split S h d s).tasks → (split S h ns 0).top ≡ v.dp ++ (split S h d s).top
              → Written S ns h tasks₀ top₀ tasks (set top o s) t (o + 1) (s + 1)
          go zero a rt ro = absurd (omega (arith, l, a))
          go (suc d) a rt ro =
              let c = split_top S h d s e sn en k in
              record {
                d = d;
                dt = v.dt;
                dp = v.dp ++ (s ∷ []);
                enough = omega arith;
                len_t = v.len_t;
                len_o = long v.dp s v.len_o;
                is_t = v.is_t;
                is_o = ap (λ z. set z o s) v.is_o ∙ set_one v.dp top₀ o s (sym v.len_o) (omega (arith, w.few_o));
                rest_t = rw (add-one s) (rt ∙ ap (λ z. v.dt ++ z.tasks) c ∙ unfold with_top in refl);
                rest_o = rw (add-one s) (ro ∙ ap (λ z. v.dp ++ z.top) c ∙ unfold with_top in sym (append_assoc v.dp (s ∷ []) (split S h d (suc s)).top));
              }

    pub cut_task : s < e → Cutting ns parents begins loads h tasks₀ top₀ (set (set tasks (2 * t) s) (2 * t + 1) e) top (t + 1) o e
    cut_task k = record { to = below; few_t = omega (arith, w.few_t); few_o = omega (arith, w.few_o); same_t = simp length-set w.same_t; same_o = w.same_o; is = λ S g. task S g k }

    pub cut_top : e ≡ s → Cutting ns parents begins loads h tasks₀ top₀ tasks (set top o s) t (o + 1) (s + 1)
    cut_top k = record { to = omega arith; few_t = omega (arith, w.few_t); few_o = omega (arith, w.few_o); same_t = w.same_t; same_o = simp length-set w.same_o; is = λ S g. alone S g k }

  pub cutting_over : ns ≤ s → (S : Shape) → Tabled S ns parents begins loads → Cut (split S h ns 0) tasks₀ top₀ tasks top t o
  cutting_over l S g = record {
    many_tasks = v.len_t ∙ ap length (sym all_t);
    many_top = v.len_o ∙ ap length (sym all_o);
    in_tasks = v.is_t ∙ ap₂ (λ x y. x ++ drop y tasks₀) (ap flat (sym all_t)) (let z : 2 * t ≡ length (flat (split S h ns 0).tasks) = omega (arith, v.len_t, flat_length v.dt, ap (λ z. length (flat z)) all_t) in z);
    in_top = v.is_o ∙ ap₂ (λ x y. x ++ drop y top₀) (sym all_o) (v.len_o ∙ ap length (sym all_o));
  }
    where
      v : Written S ns h tasks₀ top₀ tasks top t o s
      v = w.is S g

      over : split S h v.d s ≡ record { tasks = []; top = [] }
      over = split_end S h v.d s (rw g.tree.number l)

      all_t : (split S h ns 0).tasks ≡ v.dt
      all_t = v.rest_t ∙ ap (λ z. v.dt ++ z.tasks) over ∙ append-nil v.dt

      all_o : (split S h ns 0).top ≡ v.dp
      all_o = v.rest_o ∙ ap (λ z. v.dp ++ z.top) over ∙ append-nil v.dp
