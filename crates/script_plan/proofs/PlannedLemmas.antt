-- What the visitor that collects a plan has behind all actors: the plan.
use Rattle.std.proofs.Common.{◌≡◌, ◌∙◌, ℕ, List, [], ◌∷◌, ◌++◌, map, Result, Ok, Err, refl, sym, ap, subst, append_assoc}
use Rattle.std.specs.Prelude.{fold}
use Rattle.std.proofs.lemmas.List.{append-nil}
use Rattle.script_tokens.specs.declared.token.Token.{Token}
use Rattle.script_grammar.specs.Outlines.{Outlines, outline_of}
use Rattle.script_grammar.specs.declared.outline.Outline.{Outline}
use Rattle.script_grammar.specs.declared.stop.Stop.{Stop}
use Rattle.script_grammar.specs.declared.stop.Stop.TheVariants as stop
use Rattle.script_grammar.specs.declared.tree.Tree.{Tree}
use Rattle.script_types.specs.Names.{AreNames, HasNames, actor_names}
use Rattle.script_types.specs.declared.plan.ActorPlan.{ActorPlan}
use Rattle.script_types.specs.declared.plan.Plan.{Plan}
use Rattle.script_types.specs.declared.plan.Rule.{Rule}
use Rattle.script_plan.specs.Collected.{begun_collected, end_collected, rule_collected}
use Rattle.script_plan.specs.PlanOf.{actor_of, plan_of}
use Rattle.script_plan.specs.Planned.{IsPlanOf, Plans}
use Rattle.script_plan.specs.Visited.{Visits, actor_taken, actors_taken, heads_of, name_alone}
use Rattle.script_plan.specs.declared.collector.Collector.{Collector}
use Rattle.script_plan.proofs.VisitedLemmas.{heads_are}

-- ---- actor by actor

rules_collected : (s : Collector) (rules : List Rule) → fold rule_collected s rules ≡ record { actors = s.actors; rules = s.rules ++ rules }
rules_collected s [] = λ i. record { actors = s.actors; rules = sym (append-nil s.rules) i }
rules_collected s (rule ∷ rules) =
    let with_rules : List Rule → Collector = λ l. record { actors = s.actors; rules = l } in
    rules_collected (rule_collected s rule) rules ∙ ap with_rules (append_assoc s.rules (rule ∷ []) rules)

actor_collected : (s : Collector) (actor : ActorPlan) → s.rules ≡ [] → (actor_taken begun_collected rule_collected end_collected s actor).actors ≡ s.actors ++ actor ∷ []
actor_collected s actor none =
    let all = rules_collected s actor.rules in
    let rules : (fold rule_collected s actor.rules).rules ≡ actor.rules = ap (λ (c : Collector). c.rules) all ∙ ap (λ (l : List Rule). l ++ actor.rules) none in
    let actors : (fold rule_collected s actor.rules).actors ≡ s.actors = ap (λ (c : Collector). c.actors) all in
    λ i. actors i ++ record { name = actor.name; rules = rules i } ∷ []

actors_collected : (s : Collector) (actors : List ActorPlan) → s.rules ≡ [] → (actors_taken begun_collected rule_collected end_collected s actors).actors ≡ s.actors ++ actors
actors_collected s [] none = sym (append-nil s.actors)
actors_collected s (actor ∷ actors) none =
    actors_collected (actor_taken begun_collected rule_collected end_collected s actor) actors refl
    ∙ ap (λ (l : List ActorPlan). l ++ actors) (actor_collected s actor none) ∙ append_assoc s.actors (actor ∷ []) actors

-- ---- the plan of a script

names_kept : (actors : List ActorPlan) → actor_names (map name_alone actors) ≡ actor_names actors
names_kept [] = refl
names_kept (actor ∷ actors) = ap (λ (l : List (List ℕ)). actor.name ∷ l) (names_kept actors)

module _ (outline : Outline) (heads : Plan) (start now : Collector) (headed : heads ≡ heads_of outline) (none : start.actors ≡ []) (no_rules : start.rules ≡ []) where
  abbrev collected : Plan
  collected = record { kinds = heads.kinds; actors = now.actors }

  of_tree : (tree : Tree) → outline ≡ outline_of tree → now ≡ actors_taken begun_collected rule_collected end_collected start (map (actor_of tree) tree.actors) → collected ≡ plan_of tree
  of_tree tree is taken =
      let kinds = ap (λ (p : Plan). p.kinds) (headed ∙ heads_are outline tree is) in
      let planned = map (actor_of tree) tree.actors in
      let actors : now.actors ≡ planned = ap (λ (c : Collector). c.actors) taken ∙ actors_collected start planned no_rules ∙ ap (λ (l : List ActorPlan). l ++ planned) none in
      λ i. record { kinds = kinds i; actors = actors i }

  pub collected_is : (read : Result Tree (List Token)) (u : Unit {0}) → Outlines outline read → Visits begun_collected rule_collected end_collected start now read (Ok u) → IsPlanOf collected read
  collected_is (Ok tree) u is taken = of_tree tree is taken
  collected_is (Err rest) u is taken = absurd is

  -- its names are those of the heads
  named : (tree : Tree) → outline ≡ outline_of tree → collected ≡ plan_of tree → HasNames heads → HasNames collected
  named tree is planned names =
      let same : actor_names heads.actors ≡ actor_names now.actors =
      ap (λ (p : Plan). actor_names p.actors) (headed ∙ heads_are outline tree is) ∙ names_kept (plan_of tree).actors ∙ sym (ap (λ (p : Plan). actor_names p.actors) planned) in
      record { kinds = names.kinds; fields = names.fields; actors = subst (λ (l : List (List ℕ)). AreNames l) same names.actors }

  pub collected_names : (read : Result Tree (List Token)) (u : Unit {0}) → Outlines outline read → Visits begun_collected rule_collected end_collected start now read (Ok u) → HasNames heads → HasNames collected
  collected_names (Ok tree) u is taken names = named tree is (of_tree tree is taken) names
  collected_names (Err rest) u is taken names = absurd is

pub collected_stops : (start now : Collector) (read : Result Tree (List Token)) (e : Stop) → Visits begun_collected rule_collected end_collected start now read (Err e) → Plans read (Err e)
collected_stops start now read stop.NoMemory stops = tt
collected_stops start now (Ok tree) stop.Refused stops = absurd stops
collected_stops start now (Err rest) stop.Refused stops = absurd stops
