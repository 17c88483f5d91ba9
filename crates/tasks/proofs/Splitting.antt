-- From what each call leaves to the split of the structure. Assumes nothing.
use mathlib.Core.Path.{◌≡◌, refl, sym, ap, ap₂, ◌∙◌}
use mathlib.Core.List.{List, ◌∷◌, ◌++◌}
use Prim.Native.Nat.{ℕ, suc, ◌+◌, ◌-◌, ◌*◌, ◌/◌, ◌^◌, ◌≤◌, ◌<◌, max}
use lib.ListN.{length, get_or, take, drop, replicate, length-append, length-take, length-drop, get_or-append}
use lib.Seq.{get_or-take, get_or-drop, drop_at}
use borrow.Rule.Slice.PartMut.{put_mid}
use Rattle.statement.specs.Lists.{sum, list}
use Rattle.statement.specs.Shape.{Shape, supernodes, parent_of}
use Rattle.statement.specs.Tasks.{Split, weight, load, subtree_start, share, split, split_of}
use Rattle.laws.proofs.Sum.{sum_ext}
use Rattle.areas.specs.Buckets.{Holds}
use Rattle.areas.proofs.Held.{held_over}
use Rattle.areas.proofs.Tail.{tail_back}
use Rattle.areas.proofs.Buckets.{holds_of, holds_ext, holds_less}
use Rattle.tasks.specs.Given.{Above, Sized, Given, Tabled, Loaded, Weighed, Spread, Cut, Parts, weight_in}
use Rattle.tasks.proofs.Weighing.{weights_are, weights_sum, weight_of}
use native.Mathlib.Omega.{arith}

pub own_holds : (ns : ℕ) (l d : List ℕ) → l ≡ list (λ k. k) (suc ns) ++ d → Holds (λ k. k) ns l
own_holds ns l d e = holds_less ns (let h : ns ≤ suc ns = omega arith in h) (holds_of (λ k. k) (suc ns) l d e)

-- the loads of a structure
module _ (ns : ℕ) (firsts starts parents : List ℕ) (z : Sized ns firsts starts) (d weights loads : List ℕ) (e1 : weights ≡ list (weight_in firsts starts) ns ++ 0 ∷ d) (e2 : Loaded ns parents weights loads) where
  pub weighed : (S : Shape) → Given S ns firsts starts parents → Weighed S ns loads
  weighed S g = record {
    loaded = e2.are S g.tree (holds_ext (weight S) (weight_of ns firsts starts z parents S g) (weights_are ns firsts starts z weights d e1));
    total = e2.total ∙ weights_sum ns firsts starts z weights d e1 ∙ sum_ext (weight_in firsts starts) (weight S) ns (weight_of ns firsts starts z parents S g) ∙ ap (sum (weight S)) (sym g.tree.number);
  }

-- the three tables, one after another in w: the loads, over which ys stands from b on and zs from p on
module _ (ns : ℕ) (w ys zs : List ℕ) (long : 3 * ns + 3 ≤ length w) (ly : length ys ≡ length w - (ns + 1)) where
  abbrev one : List ℕ
  one = take (ns + 1) w ++ ys

  abbrev two : List ℕ
  two = take (2 * ns + 2) one ++ zs

  one_length : length one ≡ length w
  one_length = simp (length-append, length-take) (omega (arith, ly))

  at_two : (j : ℕ) → j < 2 * ns + 2 → get_or two j 0 ≡ get_or one j 0
  at_two j h = get_or-append (take (2 * ns + 2) one) zs 0 j (simp length-take (omega (arith, one_length))) ∙ get_or-take (2 * ns + 2) one j 0 h

  at_one : (j : ℕ) → j < ns + 1 → get_or one j 0 ≡ get_or w j 0
  at_one j h = get_or-append (take (ns + 1) w) ys 0 j (simp length-take (omega arith)) ∙ get_or-take (ns + 1) w j 0 h

  first : (j : ℕ) → j < ns + 1 → get_or two j 0 ≡ get_or w j 0
  first j h = at_two j (omega arith) ∙ at_one j h

  second : (j : ℕ) → j < ns → get_or (drop (ns + 1) two) j 0 ≡ get_or ys j 0
  second j h = get_or-drop (ns + 1) two j 0 ∙ at_two (ns + 1 + j) (omega arith) ∙ sym (get_or-drop (ns + 1) one j 0) ∙ ap (λ l. get_or l j 0) (drop_at (take (ns + 1) w) ys (ns + 1) (simp length-take (omega arith)))

  pub third : drop (2 * ns + 2) two ≡ zs
  third = drop_at (take (2 * ns + 2) one) zs (2 * ns + 2) (simp length-take (omega (arith, one_length)))

  two_length : length two ≡ 2 * ns + 2 + length zs
  two_length = simp (length-append, length-take) (omega (arith, one_length))

  pub spread : (S : Shape) → Weighed S ns w → Holds (subtree_start S) ns ys → Holds (parent_of S) ns zs → Spread S ns two
  spread S a b c = record {
    loaded = record { fits = omega (arith, two_length); at = λ j h. first j (omega arith) ∙ a.loaded.at j h };
    total = first ns (omega arith) ∙ a.total;
    starting = record { fits = simp length-drop (omega (arith, two_length, c.fits)); at = λ j h. second j h ∙ b.at j h };
    are = rw third c;
  }

  -- the same as the parts come back
  abbrev mid : List ℕ
  mid = put_mid (ns + 1) (length w - (ns + 1)) w ys

  abbrev back : List ℕ
  back = take (2 * ns + 2) mid ++ zs

  back_is : back ≡ two
  back_is = ap (λ l. take (2 * ns + 2) l ++ zs) (tail_back (ns + 1) w ys)

  pub spread_back : (S : Shape) → Weighed S ns w → Holds (subtree_start S) ns ys → Holds (parent_of S) ns zs → Spread S ns back
  spread_back S a b c = rw back_is (spread S a b c)

  pub above_back : Above ns zs → Above ns (drop (2 * ns + 2) back)
  above_back a = rw (back_is, third) a

pub followed : {l r : List ℕ} (d : List ℕ) → l ≡ r → l ++ d ≡ r ++ d
followed d e = ap (λ x. x ++ d) e

-- ns of the parents, copied
pub above_part : {ns : ℕ} {parents zs : List ℕ} (d : List ℕ) → Above ns parents → zs ≡ take ns parents ++ d → Above ns zs
above_part {ns} {parents} {zs} d a e = record {
  len = omega (arith, ap length e, length-append (take ns parents) d, length-take ns parents, a.len);
  rise = λ K h. rw (same K h) (a.rise K h);
  to = λ K h. rw (same K h) (a.to K h);
}
  where
    same : (K : ℕ) → K < ns → get_or zs K 0 ≡ get_or parents K 0
    same K h = ap (λ l. get_or l K 0) e ∙ get_or-append (take ns parents) d 0 K (simp length-take (omega (arith, a.len))) ∙ get_or-take ns parents K 0 h

-- the tables are what the split reads
module _ (ns : ℕ) (words : List ℕ) (most : ℕ) (e : most ≡ max (get_or words ns 0 / 256) (2 ^ 21)) where
  module _ (S : Shape) (number : supernodes S ≡ ns) (g : Spread S ns words) where
    pub tabled : (loads : List ℕ) → Holds (load S) ns loads → Tabled S ns (drop (2 * ns + 2) words) (drop (ns + 1) words) loads
    tabled loads h = record { tree = record { number = number; are = g.are }; starting = g.starting; loaded = h }

    pub same : split S most ns 0 ≡ split_of S
    unfolding split_of share
    same = ap₂ (λ h m. split S h m 0) (e ∙ ap (λ x. max (x / 256) (2 ^ 21)) g.total) (sym number)

pub holds_take : {f : ℕ → ℕ} {ns : ℕ} {l : List ℕ} → Holds f ns l → Holds f ns (take (ns + 1) l)
holds_take {f} {ns} {l} a = record { fits = simp length-take (omega (arith, a.fits)); at = λ j h. get_or-take (ns + 1) l j 0 (omega arith) ∙ a.at j h }

-- over zeros, what the cut leaves is held
pub parts_of : {x : Split} {tasks₀ top₀ tasks₁ top₁ tasks top : List ℕ} {t o : ℕ} → tasks₁ ≡ replicate (length tasks₀) 0 → top₁ ≡ replicate (length top₀) 0 → Cut x tasks₁ top₁ tasks top t o → Parts x tasks₀ top₀ tasks top t o
parts_of e f c = record { many_tasks = c.many_tasks; many_top = c.many_top; in_tasks = held_over _ 0 _ _ refl e c.in_tasks; in_top = held_over _ 0 _ _ refl f c.in_top }
