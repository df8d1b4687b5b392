-- The choice: the complete match of least key among those of all definitions.
use Rattle.std.specs.Prelude.{◌≡◌, ◌⊎◌, ℕ, ◌+◌, List, [], ◌∷◌, ◌++◌, true, false, Option, Some, None, map, length, if◌then◌else◌}
use Rattle.std.specs.List.{filter_map}
use Rattle.std.specs.Ordering.{is_le, is_gt}
use Rattle.join_base.specs.declared.message.Message.{Message}
use Rattle.guard_eval.specs.Meaning.{Assignment}
use Rattle.pattern_core.specs.declared.definition.Definition.{Definition}
use Rattle.pattern_core.specs.declared.candidate.Candidate.{Candidate}
use Rattle.pattern_core.specs.Key.{key_cmp}
use Rattle.pattern_core.specs.Matches.{complete_matches, makes_all_true}
use Rattle.pattern_core.specs.Assigns.{Assigns}
use Rattle.pattern_core.specs.Window.{seen_of}
use Rattle.pattern_core.specs.Members.{IsIn}

-- the numbers of the filled patterns, in pattern order
abbrev pub taken_of : Assignment → List ℕ
taken_of slots = filter_map (λ slot. slot) slots

-- the assignment that gives each pattern its number
abbrev pub slots_of : List ℕ → Assignment
slots_of taken = map (λ n. Some n) taken

abbrev pub candidate_of : ℕ → Assignment → Candidate
candidate_of rule slots = record { rule = rule; taken = taken_of slots }

-- the definition has this number, where the first has the number from
abbrev pub NumberedFrom : ℕ → List Definition → ℕ → Definition → Type 0
NumberedFrom from [] rule definition = ⊥
NumberedFrom from (first ∷ more) rule definition = ((from ≡ rule) × (first ≡ definition)) ⊎ NumberedFrom (from + 1) more rule definition

-- the complete matches of the definitions, of which the first has this number
abbrev pub matches_from : List Message → List ℕ → ℕ → List Definition → List Candidate
matches_from messages live rule [] = []
matches_from messages live rule (definition ∷ definitions) = map (candidate_of rule) (complete_matches messages live definition) ++ matches_from messages live (rule + 1) definitions

-- the lesser of the two by the key, the first where they tie
abbrev pub lesser : Candidate → Option Candidate → Option Candidate
lesser a None = Some a
lesser a (Some b) = if is_le (key_cmp a b) then Some a else Some b

-- the lesser of two of which each may be missing
abbrev pub lesser_of : Option Candidate → Option Candidate → Option Candidate
lesser_of None b = b
lesser_of (Some a) b = lesser a b

abbrev pub least : List Candidate → Option Candidate
least [] = None
least (candidate ∷ candidates) = lesser candidate (least candidates)

abbrev pub choice : List Message → List ℕ → List Definition → Option Candidate
choice messages live definitions = least (matches_from messages live 1 definitions)

-- the best of the candidates of which P holds, or none where it holds of none
abbrev pub IsBestOf : (Candidate → Type 0) → Option Candidate → Type 0
IsBestOf P None = (c : Candidate) → ¬ P c
IsBestOf P (Some best) = P best × ((c : Candidate) → P c → is_gt (key_cmp best c) ≡ false)

-- what makes a candidate the least of some: it is one of them, and none of them has a smaller key
pub record IsLeast (candidates : List Candidate) (chosen : Candidate) : Type 0 where
  pub member : IsIn chosen candidates
  pub none_smaller : (other : Candidate) → IsIn other candidates → is_gt (key_cmp chosen other) ≡ false

-- a candidate is a complete match of the definition with its number: its numbers are live and seen, of the kinds of the patterns and each another, and every conjunct is true
pub record IsMatch (messages : List Message) (live : List ℕ) (definitions : List Definition) (candidate : Candidate) : Type 0 where
  pub definition : Definition
  pub numbered : NumberedFrom 1 definitions candidate.rule definition
  pub assigns : Assigns messages (seen_of definition (length messages) live) definition.patterns (slots_of candidate.taken)
  pub true_guard : makes_all_true messages definition.conjuncts (slots_of candidate.taken) ≡ true

-- the choice in words: it is a complete match, and no complete match of any definition has a smaller key
abbrev pub IsChosen : List Message → List ℕ → List Definition → Option Candidate → Type 0
IsChosen messages live definitions None = (other : Candidate) → ¬ IsMatch messages live definitions other
IsChosen messages live definitions (Some chosen) =
    IsMatch messages live definitions chosen × ((other : Candidate) → IsMatch messages live definitions other → is_gt (key_cmp chosen other) ≡ false)

-- the chosen one is the least; none is chosen only where there is none
abbrev pub IsChoice : List Candidate → Option Candidate → Type 0
IsChoice candidates None = (other : Candidate) → ¬ IsIn other candidates
IsChoice candidates (Some chosen) = IsLeast candidates chosen
