-- Areas that were cleared: how long they are, and that they are zero. Assumes nothing.
use mathlib.Core.Path.{◌≡◌, ap, ◌∙◌}
use mathlib.Core.List.{List}
use Prim.Native.Nat.{ℕ}
use lib.ListN.{length, replicate}
use Rattle.statement.specs.declared.Room.{Room}
use Rattle.clearing.specs.Zeroed.{ListsZeroed}
use Rattle.survey.specs.Laid.{Blank}

-- the room that areas 1 to 7 and 9 give
pub record Lengths (r : Room) (permutation firsts starts groups tasks top words nine : List ℕ) : Type 0 where
  pub one : length permutation ≡ r.permutation
  pub two : length firsts ≡ r.firsts
  pub three : length starts ≡ r.starts
  pub four : length groups ≡ r.groups
  pub five : length tasks ≡ r.tasks
  pub six : length top ≡ r.top
  pub seven : length words ≡ r.words
  pub nine_long : length nine ≡ r.rows

cleared_blank : (m : ℕ) (d : List ℕ) {l : List ℕ} → length d ≡ m → l ≡ replicate (length d) 0 → l ≡ replicate m 0
cleared_blank m d k e = e ∙ ap (λ x. replicate x 0) k

module _ (r : Room) {p₀ f₀ s₀ g₀ t₀ o₀ w n p f s g t o : List ℕ} (z : ListsZeroed p₀ f₀ s₀ g₀ t₀ o₀ p f s g t o) (l : Lengths r p₀ f₀ s₀ g₀ t₀ o₀ w n) where
  pub blank_of : Blank r p f s g t o w n
  blank_of = record {
    one = cleared_blank r.permutation p₀ l.one z.one;
    two = cleared_blank r.firsts f₀ l.two z.two;
    three = cleared_blank r.starts s₀ l.three z.three;
    four = cleared_blank r.groups g₀ l.four z.four;
    five = cleared_blank r.tasks t₀ l.five z.five;
    six = cleared_blank r.top o₀ l.six z.six;
    seven = l.seven;
    nine_long = l.nine_long;
  }
