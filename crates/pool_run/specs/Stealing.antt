-- A worker with a deque of tickets of its own.
use Rattle.std.specs.Prelude.{◌≡◌, ℕ}
use Rattle.actor_pool.specs.declared.nobody.Nobody.{Nobody}
use Rattle.steal_pool.specs.declared.pass.StealPass.{StealPass}
use Rattle.steal_pool.specs.Passes.{made_for}

-- its deque, and those that it steals from, were made for so many actors
abbrev pub OwnsDeque : {P : Type 0} → ℕ → StealPass P × Nobody → Type 0
OwnsDeque {P} actors worker = made_for (worker.0) ≡ actors
