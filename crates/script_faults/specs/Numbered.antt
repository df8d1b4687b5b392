-- Faults of lists with a most.
use Rattle.std.specs.Prelude.{ℕ, ◌+◌, ◌==◌, List, [], ◌∷◌, ◌++◌}
use Rattle.script_grammar.specs.declared.fault.ScriptCause.TheVariants.{TooMany}
use Rattle.script_faults.specs.declared.first.Fault.{Fault}
use Rattle.script_faults.specs.First.{fault_if}

-- the item of this number, from 0, is one too many
abbrev pub at_most : ℕ → ℕ → ℕ → List Fault
at_most most number place = fault_if (number == most) TooMany place

-- the faults of the items from this number on, each with its own
abbrev pub numbered_faults : {X : Type 0} → ℕ → (X → ℕ) → (X → List Fault) → ℕ → List X → List Fault
numbered_faults most place faults number [] = []
numbered_faults most place faults number (x ∷ xs) = (faults x ++ at_most most number (place x)) ++ numbered_faults most place faults (number + 1) xs
