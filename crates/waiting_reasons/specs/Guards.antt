-- The conjunct of a guard that is false, and the variables of a conjunct.
use Rattle.std.specs.Prelude.{List, [], ◌∷◌, Bool, not, ◌&&◌, ◌==◌, Option, None, Some, map, if◌then◌else◌}
use Rattle.std.specs.List.{list_any}
use Rattle.join_base.specs.declared.message.Message.{Message}
use Rattle.guard_eval.specs.Condition.{Condition}
use Rattle.guard_eval.specs.Meaning.{Assignment, Need, is_decided, is_true, needs_of}
use Rattle.guard_eval.specs.declared.term.Place.{Place}

-- the first conjunct that is decided and false
abbrev pub first_false : List Message → Assignment → List Condition → Option Condition
first_false messages slots [] = None
first_false messages slots (conjunct ∷ more) = if is_decided slots conjunct && not (is_true messages slots conjunct) then Some conjunct else first_false messages slots more

-- the first conjunct that is not true, where no pattern is empty
abbrev pub first_untrue : List Message → Assignment → List Condition → Option Condition
first_untrue messages slots [] = None
first_untrue messages slots (conjunct ∷ more) = if is_true messages slots conjunct then first_untrue messages slots more else Some conjunct

-- the places of some variables, and of those of a conjunct in the order of its text
abbrev pub places_in : List Need → List Place
places_in needs = map (λ (need : Need). need.0) needs

abbrev pub places_of : Condition → List Place
places_of conjunct = places_in (needs_of conjunct)

abbrev pub is_place : Place → Place → Bool
is_place place other = place.pattern == other.pattern && place.field == other.field

abbrev pub has_place : List Place → Place → Bool
has_place places place = list_any (is_place place) places
