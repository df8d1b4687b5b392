-- What contracts read of a pass.
use Rattle.std.specs.Prelude.{◌≡◌, Bool, ℕ, List, ◌∷◌, map}
use Rattle.std.specs.declared.alloc.Global.{Global}
use Rattle.atomic_blocks.specs.Lent.{RowsId}
use Rattle.crossbeam_deque.specs.Handles.{view, stealer_deque, worker_deque, worker_port, worker_view}
use Rattle.steal_pool.specs.declared.view.DequeView.{DequeView}
use Rattle.steal_pool.specs.declared.thief.Thief.{Thief}
use Rattle.steal_pool.specs.declared.pass.StealPass.{StealPass}

-- which deque it is
abbrev pub DequeId : Type 0
DequeId = RowsId × Global

module _ {P : Type 0} where
  -- another deque, the number that a pass has there, and what it knows of it
  abbrev pub thief_deque : Thief P → DequeId
  thief_deque t = stealer_deque t.stealer

  abbrev pub thief_number : Thief P → ℕ
  thief_number t = t.pass.id

  abbrev pub thief_view : Thief P → DequeView
  thief_view t = view t.pass

  -- the same of several
  abbrev pub deques_in : List (Thief P) → List DequeId
  deques_in thieves = map thief_deque thieves

  abbrev pub numbers_in : List (Thief P) → List ℕ
  numbers_in thieves = map thief_number thieves

  abbrev pub views_in : List (Thief P) → List DequeView
  views_in thieves = map thief_view thieves

  -- the same of the own deque
  abbrev pub own_deque : StealPass P → DequeId
  own_deque p = worker_deque p.own

  abbrev pub own_number : StealPass P → ℕ
  own_number p = worker_port p.own

  abbrev pub own_view : StealPass P → DequeView
  own_view p = worker_view p.own

  -- the same of all deques, the own one first
  abbrev pub deques_of : StealPass P → List DequeId
  deques_of p = own_deque p ∷ deques_in p.others.items

  abbrev pub numbers_of : StealPass P → List ℕ
  numbers_of p = own_number p ∷ numbers_in p.others.items

  abbrev pub other_views : StealPass P → List DequeView
  other_views p = views_in p.others.items

  abbrev pub views_of : StealPass P → List DequeView
  views_of p = own_view p ∷ other_views p

  -- how many actors the deques were made for: tickets are numbers below it
  abbrev pub made_for : StealPass P → ℕ
  made_for p = p.actors

  -- whether a worker looks into the pool's queue first, the next time, and else into the deques
  abbrev pub queue_first : StealPass P → Bool
  queue_first p = p.queue_first

  -- the same pass of the same deques
  pub record IsSamePass (p q : StealPass P) : Type 0 where
    pub deques : deques_of q ≡ deques_of p
    pub numbers : numbers_of q ≡ numbers_of p
    pub actors : made_for q ≡ made_for p
