-- The number of the newest message.
use Rattle.std.proofs.Common.{◌≡◌, ◌∙◌, ℕ, ◌+◌, List, [], ◌∷◌, ◌++◌, length, length-append, ap}
use Rattle.std.proofs.lemmas.List.{length-map}
use Rattle.join_base.specs.declared.message.Message.{Message}
use Rattle.fair_semantics.specs.declared.run.Entry.{Entry}
use Rattle.fair_semantics.specs.Step.{recorded_messages}

pub number_of_newest : (entries : List Entry) (message : Message) → length (recorded_messages entries ++ message ∷ []) ≡ length entries + 1
number_of_newest entries message = length-append (recorded_messages entries) (message ∷ []) ∙ ap (λ (n : ℕ). n + 1) (length-map entries (λ (e : Entry). e.message))
