-- Which words are a request.
use Rattle.std.specs.Prelude.{◌≤◌, ℕ, List, [], ◌∷◌, Option, None, Some, codes, length, if◌then◌else◌}
use Rattle.std.specs.Option.{option_map}
use Rattle.std.specs.Str.{bytes_eq}
use Rattle.command_words.specs.Number.{is_within, number_in}
use Rattle.command_words.specs.Views.{bytes_of, words_in}
use Rattle.look_command.specs.declared.request.AuditWords.{AuditWords}
use Rattle.look_command.specs.declared.request.ReactionsWords.{ReactionsWords}
use Rattle.look_command.specs.declared.request.WhyWords.{WhyWords}
use Rattle.look_command.specs.declared.request.Request.{Request as HeldRequest}
use Rattle.look_command.specs.declared.request.Request.TheVariants as held

-- a request, with the names of its files and of an actor, and the number of an arrival
pub data Request : Type 0 where
  Audit : (script log : List ℕ) (feeds : List (List ℕ)) → Request
  Reactions : (script log : List ℕ) (actor : Option (List ℕ)) → Request
  Why : (script log actor : List ℕ) (number : Option ℕ) → Request

-- a script, a log, and 1 to 16 feeds
abbrev pub audit_of : List (List ℕ) → Option Request
audit_of (script ∷ log ∷ feeds) = if is_within 1 16 (length feeds) then Some (Audit script log feeds) else None
audit_of words = None

-- a script, a log, and perhaps an actor
abbrev pub reactions_of : List (List ℕ) → Option Request
reactions_of (script ∷ log ∷ []) = Some (Reactions script log None)
reactions_of (script ∷ log ∷ actor ∷ []) = Some (Reactions script log (Some actor))
reactions_of words = None

-- a script, a log, an actor, and perhaps a number from 1 on
abbrev pub why_of : List (List ℕ) → Option Request
why_of (script ∷ log ∷ actor ∷ []) = Some (Why script log actor None)
why_of (script ∷ log ∷ actor ∷ number ∷ []) = option_map (λ n. Why script log actor (Some n)) (number_in 1 4294967295 number)
why_of words = None

abbrev pub request_by : List ℕ → List (List ℕ) → Option Request
request_by name words =
    if bytes_eq name (codes "audit") then audit_of words
    else if bytes_eq name (codes "reactions") then reactions_of words
    else if bytes_eq name (codes "why") then why_of words
    else None

-- the request that words are, or none; each word behind the name of the request stands for itself
abbrev pub request_of : List (List ℕ) → Option Request
request_of [] = None
request_of (name ∷ words) = request_by name words

-- ---- what the program holds of it

abbrev pub audit_in : AuditWords → Request
audit_in words = Audit words.script.now words.log.now (words_in words.feeds.items)

abbrev pub reactions_in : ReactionsWords → Request
reactions_in words = Reactions words.script.now words.log.now (option_map bytes_of words.actor)

abbrev pub why_in : WhyWords → Request
why_in words = Why words.script.now words.log.now words.actor.now words.number

abbrev pub request_in : HeldRequest → Request
request_in (held.Audit words) = audit_in words
request_in (held.Reactions words) = reactions_in words
request_in (held.Why words) = why_in words

-- at most 16 feeds
abbrev pub HasFewFeeds : Request → Type 0
HasFewFeeds (Audit script log feeds) = length feeds ≤ 16
HasFewFeeds (Reactions script log actor) = Unit {0}
HasFewFeeds (Why script log actor number) = Unit {0}
