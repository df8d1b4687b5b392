-- What a worker that steals does.
use Rattle.std.specs.Prelude.{ℕ, ◌+◌, ◌≤◌, sum_by}
use Rattle.actor_pool.specs.declared.helper.Helper.{Helper}
use Rattle.actor_pool.specs.declared.pool.Pool.{Pool}
use Rattle.actor_pool.specs.Helpers.{actor_count}
use Rattle.actor_pool.specs.Working.{WorksFrom, actors_among}
use Rattle.steal_pool.specs.declared.pass.StealPass.{StealPass}
use Rattle.steal_pool.specs.Passes.{own_view, views_of}

module _ {P : Type 0} where
  -- how many of the tickets that the pass took, in all deques, are below a number
  abbrev pub taken_below : ℕ → StealPass P → ℕ
  taken_below count p = sum_by (λ v. actors_among count v.taken) (views_of p)

  -- it made a claim for each ticket of an actor that it took, in its deques or in the pool's queue
  abbrev pub WorksStealing : Pool → StealPass P → StealPass P → Helper → Helper → Type 0
  WorksStealing p before after old now =
      WorksFrom p (taken_below (actor_count p) before) (taken_below (actor_count p) after) old now

  -- it found each deque empty
  abbrev pub FindsEmpty : StealPass P → StealPass P → Type 0
  FindsEmpty old now = (own_view old).nones + 1 ≤ (own_view now).nones
