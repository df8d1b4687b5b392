use Rattle.std.proofs.Common.{◌∙◌, ◌∷◌, [], List, ap, subst, sym}
use Rattle.std.specs.List.{AllByRecursion}
use Rattle.join_base.proofs.EachLemmas.{each_left, each_right}
use Rattle.guard_eval.specs.Meaning.{Assignment}
use Rattle.waiting_reasons.specs.Inside.{HasPatterns}
use Rattle.waiting_reasons.specs.Ways.{fullest_before}
use Rattle.waiting_reasons.proofs.BestLemmas.{fullest_last}
use Rattle.waiting_reasons.proofs.finding.fullest.Goals as goal

pub fuller-best-requires-clause-count : goal.fuller-best-requires-clause-count
fuller-best-requires-clause-count c =
    let Has = HasPatterns c.args.definition.now in
    (each_right Has c.pop.new.self (c.in-Some.slots ∷ []) (subst (λ (ws : List Assignment). AllByRecursion Has ws) c.in-Some.ensures.last c.loop-slots.invariant.all)).0

pub loop-slots-preserved : goal.loop-slots-preserved
loop-slots-preserved c =
    let Has = HasPatterns c.args.definition.now in
    let before = c.loop-slots.invariant in
    let rest : List Assignment = c.pop.new.self in
    let last = c.in-Some.ensures.last in
    record {
      told = ap (λ o. fullest_before o rest) c.fuller-best.ensures.fuller
          ∙ sym (fullest_last c.loop-slots.best rest c.in-Some.slots)
          ∙ sym (ap (fullest_before c.loop-slots.best) last)
          ∙ before.told;
      all = each_left Has rest (c.in-Some.slots ∷ []) (subst (λ (ws : List Assignment). AllByRecursion Has ws) last before.all);
      best = c.fuller-best.ensures.count;
    }
