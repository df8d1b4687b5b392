-- A family of queues of tickets, as a list of puts and takes.
use Rattle.std.specs.Prelude.{◌≡◌, ◌==◌, ℕ, List, [], ◌∷◌, ◌++◌, if◌then◌else◌}

-- a list for each queue
abbrev pub Family : Type 0
Family = ℕ → List ℕ

-- the same, with another list for the queue k
abbrev pub with_list : ℕ → List ℕ → Family → Family
with_list k l f = λ j. if j == k then l else f j

-- the same, with the ticket x at the end of the list of the queue k
abbrev pub with_last : ℕ → ℕ → Family → Family
with_last k x f = with_list k (f k ++ x ∷ []) f

-- History put taken waiting: from empty queues these were put, these were taken, and these wait
pub data History : Family → Family → Family → Type 0 where
  empty : History (λ k. []) (λ k. []) (λ k. [])
  puts : (put taken waiting : Family) (k x : ℕ)
      → History put taken waiting → History (with_last k x put) taken (with_last k x waiting)
  takes : (put taken waiting : Family) (k x : ℕ) (rest : List ℕ) → waiting k ≡ x ∷ rest
      → History put taken waiting → History put (with_last k x taken) (with_list k rest waiting)

-- of each queue, the tickets taken and then those that wait are the tickets put: first in, first out, each once
abbrev pub DequeLaw : Type 0
DequeLaw = (put taken waiting : Family) → History put taken waiting → (k : ℕ) → taken k ++ waiting k ≡ put k
