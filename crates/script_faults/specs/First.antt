-- Which of several faults is reported: the one at the least place, and of those at one place the first cause.
use Rattle.std.specs.Prelude.{ℕ, Bool, true, false, ◌&&◌, ◌||◌, ◌==◌, nat_lt, if◌then◌else◌, List, [], ◌∷◌, Option, None, Some, slice_get, fold}
use Rattle.script_grammar.specs.declared.fault.ScriptCause.{ScriptCause}
use Rattle.script_grammar.specs.declared.fault.ScriptCause.TheVariants.{NotText, BadToken, BadSyntax, TooMany, TwiceDeclared, UnknownMessage, UnknownActor, UnknownName, WrongCount, WrongType, StopNotLast, BadWindow, BadReply}
use Rattle.script_faults.specs.declared.first.Fault.{Fault}

-- causes at one place in the order in which they count; those of reading never stand beside them
abbrev pub rank : ScriptCause → ℕ
rank TooMany = 0
rank TwiceDeclared = 1
rank UnknownMessage = 2
rank UnknownActor = 3
rank UnknownName = 4
rank WrongCount = 5
rank WrongType = 6
rank StopNotLast = 7
rank BadWindow = 8
rank BadReply = 9
rank NotText = 10
rank BadToken = 11
rank BadSyntax = 12

abbrev pub is_before : Fault → Fault → Bool
is_before new first = nat_lt new.place first.place || (new.place == first.place && nat_lt (rank new.cause) (rank first.cause))

-- the one that comes before the other
abbrev pub earlier : Option Fault → Fault → Option Fault
earlier None new = Some new
earlier (Some first) new = if is_before new first then Some new else Some first

-- the first of the faults, and of the one found so far
abbrev pub first_of : Option Fault → List Fault → Option Fault
first_of found faults = fold earlier found faults

abbrev pub fault : ScriptCause → ℕ → Fault
fault cause place = record { place = place; cause = cause }

abbrev pub fault_if : Bool → ScriptCause → ℕ → List Fault
fault_if true cause place = fault cause place ∷ []
fault_if false cause place = []

-- the item behind so many is one too many
abbrev pub one_too_many : {X : Type 0} → (X → ℕ) → Option X → List Fault
one_too_many place None = []
one_too_many place (Some x) = fault TooMany (place x) ∷ []

abbrev pub too_many : {X : Type 0} → ℕ → (X → ℕ) → List X → List Fault
too_many most place xs = one_too_many place (slice_get xs most)
