-- Areas that are zero over their whole length. Definitions only.
use Rattle.std.specs.Prelude.{◌≡◌, List, ℕ, length, replicate}

-- areas 1 to 6, before (₀) and after
pub record ListsZeroed (permutation₀ firsts₀ starts₀ groups₀ tasks₀ top₀ permutation firsts starts groups tasks top : List ℕ) : Type 0 where
  pub one : permutation ≡ replicate (length permutation₀) 0
  pub two : firsts ≡ replicate (length firsts₀) 0
  pub three : starts ≡ replicate (length starts₀) 0
  pub four : groups ≡ replicate (length groups₀) 0
  pub five : tasks ≡ replicate (length tasks₀) 0
  pub six : top ≡ replicate (length top₀) 0

-- and areas 7 and 9
pub record Zeroed (permutation₀ firsts₀ starts₀ groups₀ tasks₀ top₀ words₀ rows₀ permutation firsts starts groups tasks top words rows : List ℕ) : Type 0 where
  pub lists : ListsZeroed permutation₀ firsts₀ starts₀ groups₀ tasks₀ top₀ permutation firsts starts groups tasks top
  pub seven : words ≡ replicate (length words₀) 0
  pub nine : rows ≡ replicate (length rows₀) 0
