-- The rule of a deque, which holds at every moment.
use Rattle.std.specs.Prelude.{◌≡◌, ◌==◌, ℕ, ◌<◌, List, [], ◌∷◌, ◌++◌, All, count_by, sum_by}
use Rattle.steal_pool.specs.declared.view.DequeView.{DequeView}

-- how often the number x stands in a list
abbrev pub times : ℕ → List ℕ → ℕ
times x xs = count_by (λ y. y == x) xs

-- how often all passes took x
abbrev pub times_taken : ℕ → List DequeView → ℕ
times_taken x views = sum_by (λ v. times x v.taken) views

-- what the owner put, whose view is the first
abbrev pub put_of : List DequeView → List ℕ
put_of [] = []
put_of (v ∷ views) = v.put

-- the tickets that are gone and then those that wait are the tickets that the owner put, the passes took each number as
-- often as it is gone, and the numbers that wait are below 32
pub record DequeRule (waiting : List ℕ) (views : List DequeView) : Type 0 where
  pub gone : List ℕ
  pub order : gone ++ waiting ≡ put_of views
  pub taken : (x : ℕ) → times x gone ≡ times_taken x views
  pub small : All (λ x. x < 32) waiting
