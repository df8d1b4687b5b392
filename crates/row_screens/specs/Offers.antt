-- What a new number makes of a path: the patterns that may take it, and the matches that it completes.
use Rattle.std.specs.Prelude.{ℕ, ◌+◌, List, [], ◌∷◌, ◌++◌, Bool, true, false, not, ◌&&◌, Option, Some, None, map, slice_get, slice_index}
use Rattle.std.specs.List.{filter, flat_map}
use Rattle.join_base.specs.declared.message.Message.{Message}
use Rattle.guard_eval.specs.Meaning.{Assignment, recorded_message}
use Rattle.pattern_core.specs.declared.definition.Definition.{Definition}
use Rattle.pattern_core.specs.declared.candidate.Candidate.{Candidate}
use Rattle.pattern_core.specs.Matches.{is_of_kind, is_agreeable, is_full, is_complete_match}
use Rattle.pattern_core.specs.Choice.{candidate_of}
use Rattle.value_index.specs.Index.{Index}
use Rattle.tree_rows.specs.Routes.{Route, step, with_number, filled, is_seen}

-- a number of the recorded messages that is offered to the paths of a definition, which sees none before the oldest; an
-- index has messages by their values
pub record Offered : Type 0 where
  pub messages : List Message
  pub index : Index
  pub definition : Definition
  pub rule : ℕ
  pub number : ℕ
  pub oldest : ℕ

-- the places of a list, of which the first has this number
abbrev pub places : {X : Type 0} → ℕ → List X → List ℕ
places place [] = []
places place (x ∷ xs) = place ∷ places (place + 1) xs

abbrev pub is_open : Option (Option ℕ) → Bool
is_open None = false
is_open (Some None) = true
is_open (Some (Some n)) = false

-- the pattern has no number
abbrev pub is_free : Assignment → ℕ → Bool
is_free slots pattern = is_open (slice_get slots pattern)

-- the pattern may take the number beside the others: it is free, of the kind, and every conjunct that is then decided is true
abbrev pub may_take : Offered → Assignment → ℕ → Bool
may_take o slots pattern =
    is_free slots pattern && (is_of_kind (recorded_message o.messages o.number) (slice_index o.definition.patterns pattern) && is_agreeable o.messages o.definition.conjuncts (with_number slots pattern o.number))

-- the patterns that may take the number
abbrev pub takers : Offered → Assignment → List ℕ
takers o slots = filter (may_take o slots) (places 0 o.definition.patterns)

abbrev pub leaves_one_free : Offered → Assignment → ℕ → Bool
leaves_one_free o slots pattern = not (is_full (with_number slots pattern o.number))

abbrev pub completes : Offered → Assignment → ℕ → Bool
completes o slots pattern = is_complete_match o.messages o.definition (with_number slots pattern o.number)

-- the patterns that may take the number and leave another free
abbrev pub growing : Offered → Assignment → List ℕ
growing o slots = filter (leaves_one_free o slots) (takers o slots)

-- the matches that the number completes at one of the patterns
abbrev pub matches_of : Offered → Assignment → List ℕ → List Candidate
matches_of o slots patterns = map (λ p. candidate_of o.rule (with_number slots p o.number)) (filter (completes o slots) patterns)

-- the matches that the number completes
abbrev pub matches_at : Offered → Assignment → List Candidate
matches_at o slots = matches_of o slots (takers o slots)

-- the routes that the definition sees
abbrev pub seen : Offered → List Route → List Route
seen o routes = filter (is_seen o.oldest) routes

-- the routes that the number adds behind these
abbrev pub new_routes : Offered → Assignment → List Route → List Route
new_routes o slots routes = flat_map (λ r. map (λ p. r ++ step p o.number ∷ []) (growing o (filled slots r))) routes

-- the matches that the number completes behind these
abbrev pub new_matches : Offered → Assignment → List Route → List Candidate
new_matches o slots routes = flat_map (λ r. matches_at o (filled slots r)) routes
