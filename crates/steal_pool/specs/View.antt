-- What a pass knows of a deque, and what its steps make of it.
use Rattle.std.specs.Prelude.{ℕ, ◌+◌, List, [], ◌++◌}
use Rattle.steal_pool.specs.declared.view.DequeView.{DequeView}

-- nothing was done
abbrev pub new_view : DequeView
new_view = record { put = []; taken = []; nones = 0 }

-- these tickets were put
abbrev pub with_put : List ℕ → DequeView → DequeView
with_put xs v = record v { put = v.put ++ xs }

-- these tickets were taken
abbrev pub with_taken : List ℕ → DequeView → DequeView
with_taken xs v = record v { taken = v.taken ++ xs }

-- a take was answered None
abbrev pub with_none : DequeView → DequeView
with_none v = record v { nones = v.nones + 1 }
