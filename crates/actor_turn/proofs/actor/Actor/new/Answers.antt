use Rattle.std.proofs.Common.{◌≡◌, ◌∙◌, [], List, length, refl, ap, sym, subst, arith}
use Rattle.std.specs.List.{AllByRecursion}
use Rattle.std.proofs.lemmas.List.{length-map}
use Rattle.script_types.specs.declared.plan.Rule.{Rule}
use Rattle.mailbox_core.specs.Mail.{Mail}
use Rattle.fair_semantics.specs.declared.run.Ending.TheVariants.{Running}
use Rattle.fair_semantics.specs.Step.{Setting, definitions_of}
use Rattle.script_types.specs.Typed.{kind_types}
use Rattle.actor_turn.specs.Indexed.{IsIndexOf}
use Rattle.actor_turn.specs.Outbox.{Queue}
use Rattle.actor_turn.specs.Steady.{HasPatterns}
use Rattle.actor_turn.proofs.HeldLemmas.{none_waits, partial_held}
use Rattle.actor_turn.proofs.IndexLemmas.{none_indexed}
use Rattle.actor_turn.proofs.RestLemmas.{actor_at, boxes_count, new_rest, new_told}
use Rattle.actor_turn.proofs.ToldLemmas.{rules_patterns}
use Rattle.actor_turn.proofs.actor.Actor.new.Goals as goal

pub trees_of-requires-clause-patterns : goal.trees_of-requires-clause-patterns
trees_of-requires-clause-patterns c =
    let plan = c.args.plan.now in
    let own = actor_at plan c.args.index c.at-actor.result.now c.at-actor.ensures.item c.requires.typed in
    subst (λ (rs : List Rule). AllByRecursion HasPatterns (definitions_of rs)) (sym c.in_ok-rules.ensures) (rules_patterns (length plan.actors) (kind_types plan.kinds) c.at-actor.result.now.rules own.each)

pub invariant_of-result : goal.invariant_of-result
invariant_of-result c =
    let plan = c.args.plan.now in
    let own = actor_at plan c.args.index c.at-actor.result.now c.at-actor.ensures.item c.requires.typed in
    let setting : Setting = record { sorts = c.in_ok-sorts.sorts; rules = c.in_ok-rules.rules; limits = c.args.limits } in
    let boxes = c.in_ok-outboxes.outboxes.items in
    let count : length boxes ≡ length plan.actors = sym (length-map boxes (λ (o : Queue). o.posts)) ∙ boxes_count _ _ [] c.in_ok-outboxes.ensures.posts ∙ c.len-2.ensures.count in
    let told = new_told plan c.at-actor.result.now (length boxes) setting c.requires.typed own count c.in_ok-sorts.ensures c.in_ok-rules.ensures c.requires.limits in
    let none = ap (λ (m : Mail). length m.arrivals) c.in_ok-mail.ensures.empty in
    record {
      told = told;
      rest = new_rest (length boxes) setting _ _ c.in_ok-mail.mail.mail c.new-2.result.items c.in_ok-trees.trees.items told c.in_ok-mail.ensures.empty c.new-2.ensures.items c.in_ok-trees.ensures;
      indexed = subst (IsIndexOf c.in_ok-index.index) (sym c.in_ok-mail.ensures.empty) (none_indexed c.in_ok-index.index _ _);
      none = c.new-3.ensures.items;
      room = omega arith;
    }

pub returns-clause-partial : goal.returns-clause-partial
returns-clause-partial c =
    let plan = c.args.plan.now in
    let own = actor_at plan c.args.index c.at-actor.result.now c.at-actor.ensures.item c.requires.typed in
    let setting : Setting = record { sorts = c.in_ok-sorts.sorts; rules = c.in_ok-rules.rules; limits = c.args.limits } in
    let told = new_told plan c.at-actor.result.now (length plan.actors) setting c.requires.typed own refl c.in_ok-sorts.ensures c.in_ok-rules.ensures c.requires.limits in
    let rest = new_rest (length plan.actors) setting _ _ c.in_ok-mail.mail.mail c.new-2.result.items c.in_ok-trees.trees.items told c.in_ok-mail.ensures.empty c.new-2.ensures.items c.in_ok-trees.ensures in
    partial_held setting c.in_ok-mail.mail.mail c.new-2.result.items Running c.in_ok-trees.trees.items _ _ rest

pub returns-clause-waits : goal.returns-clause-waits
returns-clause-waits c =
    let plan = c.args.plan.now in
    let own = actor_at plan c.args.index c.at-actor.result.now c.at-actor.ensures.item c.requires.typed in
    let setting : Setting = record { sorts = c.in_ok-sorts.sorts; rules = c.in_ok-rules.rules; limits = c.args.limits } in
    let told = new_told plan c.at-actor.result.now (length plan.actors) setting c.requires.typed own refl c.in_ok-sorts.ensures c.in_ok-rules.ensures c.requires.limits in
    let rest = new_rest (length plan.actors) setting _ _ c.in_ok-mail.mail.mail c.new-2.result.items c.in_ok-trees.trees.items told c.in_ok-mail.ensures.empty c.new-2.ensures.items c.in_ok-trees.ensures in
    none_waits setting c.in_ok-mail.mail.mail c.new-2.result.items Running c.in_ok-trees.trees.items _ _ rest
