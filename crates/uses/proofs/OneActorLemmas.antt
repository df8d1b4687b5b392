-- What the firings of an actor say that was fed.
use Rattle.std.proofs.Common.{◌≡◌, ◌∙◌, ℕ, ◌+◌, ◌<◌, List, ◌∷◌, Option, length, map, drop, get_or, ap, sym, add-one, drop-cons}
use Rattle.join_base.specs.declared.message.Message.{Message}
use Rattle.join_base.specs.declared.message.Source.TheVariants.{Feed}
use Rattle.script_types.specs.declared.plan.Plan.{Plan}
use Rattle.fair_semantics.specs.declared.run.Firing.{Firing}
use Rattle.fair_semantics.specs.declared.run.Limits.{Limits}
use Rattle.fair_semantics.specs.declared.run.Outcome.{Outcome}
use Rattle.fair_semantics.specs.Fair.{after_all}
use Rattle.fair_semantics.specs.Step.{Setting, State, Stepped, fair_step}
use Rattle.actor_turn.specs.Held.{Held, new_actor}
use Rattle.uses.specs.OneActor.{firings_in, from_feed, rule_of, rules_fired}

pub fired_rules : (plan : Plan) (index : ℕ) (limits : Limits) (messages : List Message) (opening : Held) (state : State) (firings : List (Option Firing)) (rules : List (Option ℕ))
    → opening ≡ new_actor plan index limits 1 → state ≡ after_all opening.setting opening.state (from_feed messages) → firings ≡ firings_in state → rules ≡ map rule_of firings
    → rules ≡ rules_fired plan index limits messages
fired_rules plan index limits messages opening state firings rules opens fed fired are =
    are ∙ ap (map rule_of) (fired ∙ ap firings_in (fed ∙ ap (λ (held : Held). after_all held.setting held.state (from_feed messages)) opens))

next_split : {X : Type 0} (xs : List X) (i : ℕ) (x : X) → i < length xs → x ≡ get_or xs i x → drop i xs ≡ x ∷ drop (i + 1) xs
next_split {X} xs i x lt at = (rw (add-one, drop-cons xs i x)) ∙ ap (λ (y : X). y ∷ drop (i + 1) xs) (sym at)

-- one message more
pub fed_more : (start setting : Setting) (first before after : State) (messages : List Message) (i : ℕ) (message : Message) (outcome : Outcome) → i < length messages → message ≡ get_or messages i message
    → setting ≡ start → fair_step setting before (Feed 1) message 0 ≡ (after, outcome)
    → after_all start before (from_feed (drop i messages)) ≡ after_all start first (from_feed messages) → after_all start after (from_feed (drop (i + 1) messages)) ≡ after_all start first (from_feed messages)
fed_more start setting first before after messages i message outcome lt at same step fed =
    let stepped : (fair_step start before (Feed 1) message 0).0 ≡ after = ap (λ (s : Setting). (fair_step s before (Feed 1) message 0).0) (sym same) ∙ ap (λ (x : Stepped). x.0) step in
    sym (ap (λ (s : State). after_all start s (from_feed (drop (i + 1) messages))) stepped)
    ∙ sym (ap (λ (rest : List Message). after_all start before (from_feed rest)) (next_split messages i message lt at)) ∙ fed
