-- What became of a message that doesn't wait.
use Rattle.std.specs.Prelude.{ℕ, List, [], ◌∷◌, ◌++◌, Bool, Option, None, Some, codes, if◌then◌else◌}
use Rattle.std.specs.Fmt.{decimal}
use Rattle.join_base.specs.Taken.{contains_number}
use Rattle.fair_semantics.specs.declared.run.Entry.{Entry}
use Rattle.fair_semantics.specs.declared.run.Firing.{Firing}

abbrev pub numbers_taken : Option Firing → List ℕ
numbers_taken None = []
numbers_taken (Some firing) = firing.taken

-- the firing of an arrival took the number
abbrev pub has_taken : ℕ → Entry → Bool
has_taken number entry = contains_number (numbers_taken entry.firing) number

-- the first of these arrivals whose firing did
abbrev pub taker : ℕ → List Entry → Option Entry
taker number [] = None
taker number (entry ∷ entries) = if has_taken number entry then Some entry else taker number entries

-- ` by rule R`
abbrev pub rule_text : Option Firing → List ℕ
rule_text None = []
rule_text (Some firing) = codes " by rule " ++ decimal firing.rule

-- ` at arrival M`
abbrev pub arrival_text : ℕ → List ℕ
arrival_text number = codes " at arrival " ++ decimal number

-- ` was taken by rule R at arrival M`; what no firing took, an actor lets go when it ends
abbrev pub fate_text : Option Entry → List ℕ
fate_text None = codes " was let go when the actor ended"
fate_text (Some entry) = codes " was taken" ++ (rule_text entry.firing ++ arrival_text entry.number)
