-- The text of reactions that were found.
use Rattle.std.proofs.Common.{◌≡◌, ◌∙◌, ℕ, List, Option, ap, subst}
use Rattle.std.specs.List.{flat_map}
use Rattle.script_types.specs.declared.plan.Plan.{Plan}
use Rattle.fair_semantics.specs.declared.run.Run.{Run}
use Rattle.feed_causes.specs.declared.reaction.Reaction.{Reaction}
use Rattle.feed_causes.specs.Causes.{Arrived, arrivals}
use Rattle.feed_causes.specs.Reactions.{AreReactions}
use Rattle.reaction_text.specs.ReactionText.{IsReactionsText, reaction_text}

-- the arrivals, the reactions and their text, each as it was handed on
pub text_is : (plan : Plan) (run : Run) (only : Option ℕ) (own all : List Arrived) (found shown : List Reaction) (text : List ℕ) → own ≡ arrivals run → all ≡ own → AreReactions all only found → shown ≡ found
    → text ≡ flat_map (reaction_text plan run.version all) shown → IsReactionsText plan run only text
text_is plan run only own all found shown text own_is all_is are shown_is is =
    let same : all ≡ arrivals run = all_is ∙ own_is in
    record {
      reactions = found;
      are = subst (λ (every : List Arrived). AreReactions every only found) same are;
      is =
          is
          ∙ ap (λ (rs : List Reaction). flat_map (reaction_text plan run.version all) rs) shown_is
          ∙ ap (λ (every : List Arrived). flat_map (reaction_text plan run.version every) found) same;
    }
