use Rattle.std.proofs.Common.{rules, ◌≡◌, ◌∙◌, ◌∷◌, [], List, Option, ap, refl, subst, sym}
use Rattle.std.specs.Prelude.{IfSome, reverse}
use Rattle.std.proofs.lemmas.List.{reverse-append, reverse-reverse}
use Rattle.fair_semantics.specs.declared.run.ActorRun.{ActorRun}
use Rattle.log_replay.specs.declared.handed.Remade.{Remade}
use Rattle.log_replay.specs.declared.shared.Shared.{Shared}
use Rattle.log_replay.specs.Handed.{IsRemade}
use Rattle.log_replay.proofs.HandedLemmas.{Hands, hands_end, hands_first, hands_on}
use Rattle.log_replay.proofs.handed.handed.Goals as goal

pub loop-section-init : goal.loop-section-init
loop-section-init g c =
    let run = c.args.run in
    let rest = reverse c.reverse.new.self.items in
    let all = ap reverse c.reverse.ensures.items ∙ reverse-reverse c.into_vec-sections.result.items ∙ c.into_vec-sections.ensures.same in
    subst (λ (rs : List ActorRun). Hands c.args.plan.now run.limits run.feeds rs c.new-made.result rest run.actors) (sym c.new-reads.ensures.empty)
    (subst (λ (ss : List Shared). Hands c.args.plan.now run.limits run.feeds [] ss rest run.actors) (sym c.new-made.ensures.empty)
    (hands_first c.args.plan.now run rest c.requires.fits all))

pub loop-section-preserved : goal.loop-section-preserved
loop-section-preserved g c =
    let run = c.args.run in
    let left = c.pop.new.self.items in
    let here : reverse c.loop-section.sections.items ≡ c.in-Some.section ∷ reverse left = ap reverse c.in-Some.ensures.items ∙ reverse-append left (c.in-Some.section ∷ []) in
    let is = subst (λ (o : Option Remade). IfSome o (IsRemade c.args.plan.now run.limits run.feeds c.len-index.result c.in-Some.section)) c.in-Some-2.is c.in_ok-remade.ensures.remade in
    hands_on c.args.plan.now run.limits run.feeds c.len-index.result c.loop-section.reads c.push.new.self c.loop-section.made c.push-in-Some.new.self (reverse c.loop-section.sections.items) (reverse left) run.actors c.in-Some.section c.in-Some-2.remade
    c.loop-section.invariant here c.len-index.ensures.count is c.in_ok-remade.ensures.texts c.in_ok-push.ensures.ok c.in_ok-push-2.ensures.ok

pub returns : goal.returns
returns g c =
    let none : c.loop-section.sections.items ≡ [] = search rules in
    record { handed = hands_end c.args.plan.now c.args.run c.loop-section.reads c.loop-section.made (reverse c.loop-section.sections.items) _ c.requires.fits c.loop-section.invariant (ap reverse none) refl }
