-- The posts of a body that can run: few, each for an actor that exists.
use Rattle.std.proofs.Common.{◌≡◌, ℕ, List, [], ◌∷◌, subst, sym}
use Rattle.std.specs.List.{AllByRecursion}
use Rattle.std.proofs.lemmas.List.Elements.{filter_map-append}
use Rattle.join_base.specs.declared.message.Message.{Message}
use Rattle.join_base.specs.declared.message.Stamped.{Stamped}
use Rattle.script_types.specs.declared.plan.Statement.{Statement}
use Rattle.script_types.specs.declared.plan.Statement.TheVariants as statement
use Rattle.fair_semantics.specs.declared.run.Effect.{Effect}
use Rattle.fair_semantics.specs.Body.{effects_of, statement_effects}
use Rattle.fair_semantics.proofs.ListLemmas.{each_append}
use Rattle.actor_turn.specs.Ready.{BodyReady, StatementReady}
use Rattle.actor_turn.specs.Sent.{IsFor, post_of, sent_by}

module _ (actors : ℕ) (messages : List Message) (taken : List ℕ) (stamp : ℕ) where
  one_for : (s : Statement) → StatementReady actors messages taken s → AllByRecursion (IsFor actors) (sent_by stamp (statement_effects messages taken s))
  one_for (statement.Print items) h = tt
  one_for (statement.Post target kind operands) h = (h.0, tt)
  one_for statement.Stop h = tt
  one_for (statement.Reply pattern operand) h = tt

  pub posts_for_actors : (body : List Statement) → AllByRecursion (StatementReady actors messages taken) body → AllByRecursion (IsFor actors) (sent_by stamp (effects_of messages taken body))
  posts_for_actors [] h = tt
  posts_for_actors (s ∷ body) h =
      subst (λ (ps : List (ℕ × Stamped)). AllByRecursion (IsFor actors) ps) (sym (filter_map-append (post_of stamp) (statement_effects messages taken s) (effects_of messages taken body)))
      (each_append (IsFor actors) (sent_by stamp (statement_effects messages taken s)) (sent_by stamp (effects_of messages taken body)) (one_for s h.0) (posts_for_actors body h.1))

-- what is asked to send the posts of a body that ran
pub posts_ready : (actors : ℕ) (known messages : List Message) (taken : List ℕ) (stamp : ℕ) (given body : List Statement) (effects : List Effect) → messages ≡ known → given ≡ body → effects ≡ effects_of messages taken body
    → BodyReady actors known taken given → AllByRecursion (IsFor actors) (sent_by stamp effects)
posts_ready actors known messages taken stamp given body effects known_as given_as ran ready =
    let here = subst (λ (ms : List Message). BodyReady actors ms taken body) (sym known_as) (subst (λ (b : List Statement). BodyReady actors known taken b) given_as ready) in
    subst (λ (es : List Effect). AllByRecursion (IsFor actors) (sent_by stamp es)) (sym ran) (posts_for_actors actors messages taken stamp body here.each)
