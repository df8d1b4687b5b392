-- What a worker does.
use Rattle.std.specs.Prelude.{◌≡◌, ℕ, ◌+◌, ◌≤◌, List, ◌++◌, count_by, nat_lt}
use Rattle.actor_pool.specs.declared.helper.Helper.{Helper}
use Rattle.actor_pool.specs.declared.pool.Pool.{Pool}
use Rattle.actor_pool.specs.Helpers.{HelperGoesOn, seat_of, pass_of, actor_count}

-- how many of the tickets are numbers of actors
abbrev pub actors_among : ℕ → List ℕ → ℕ
actors_among count tickets = count_by (λ ticket. nat_lt ticket count) tickets

-- it goes on, and took these tickets, from the pool's queue or elsewhere. The numbers say how many tickets that were taken
-- elsewhere are numbers of actors, before and now
pub record TakesTickets (p : Pool) (tickets : List ℕ) (before after : ℕ) (old now : Helper) : Type 0 where
  pub goes_on : HelperGoesOn p old now
  pub taken : List ℕ
  pub more : (pass_of now).taken ≡ (pass_of old).taken ++ taken
  pub counted : actors_among (actor_count p) taken + after ≡ actors_among (actor_count p) tickets + before

-- it goes on, and made a claim for each ticket that it took, wherever it was, and that is the number of an actor
pub record WorksFrom (p : Pool) (before after : ℕ) (old now : Helper) : Type 0 where
  pub goes_on : HelperGoesOn p old now
  pub taken : List ℕ
  pub more : (pass_of now).taken ≡ (pass_of old).taken ++ taken
  pub claims : (seat_of old).claims + actors_among (actor_count p) taken + after ≤ (seat_of now).claims + before

-- the same where all tickets are of the pool's queue
pub record Works (p : Pool) (old now : Helper) : Type 0 where
  pub goes_on : HelperGoesOn p old now
  pub taken : List ℕ
  pub more : (pass_of now).taken ≡ (pass_of old).taken ++ taken
  pub claims : (seat_of old).claims + actors_among (actor_count p) taken ≤ (seat_of now).claims

-- it found the queue empty
abbrev pub FindsNone : Helper → Helper → Type 0
FindsNone old now = (pass_of old).nones + 1 ≤ (pass_of now).nones
