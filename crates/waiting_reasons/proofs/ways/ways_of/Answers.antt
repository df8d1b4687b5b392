use Rattle.std.proofs.Common.{◌∙◌, ◌<◌, ◌+◌, ℕ, List, ap, arith, drop, length, subst, sym}
use Rattle.std.specs.List.{AllByRecursion}
use Rattle.guard_eval.specs.Meaning.{Assignment}
use Rattle.waiting_reasons.specs.Ways.{grown_at}
use Rattle.waiting_reasons.proofs.WaysLemmas.{Suit, alone_suits, grown_step, grown_suits}
use Rattle.waiting_reasons.proofs.ways.ways_of.Goals as goal

pub loop-place-init : goal.loop-place-init
loop-place-init c =
    let messages = c.args.messages.now in
    let definition = c.args.definition.now in
    record {
      told = ap (grown_at messages definition c.args.seen.now 0 definition.patterns) c.in_ok-ways.ensures.alone;
      all = subst (λ (ws : List Assignment). AllByRecursion (Suit messages definition) ws) (sym c.in_ok-ways.ensures.alone) (alone_suits messages definition c.args.number 0 definition.patterns (omega arith));
    }

pub loop-place-preserved : goal.loop-place-preserved
loop-place-preserved c =
    let messages = c.args.messages.now in
    let definition = c.args.definition.now in
    let seen = c.args.seen.now in
    let place : ℕ = c.loop-place.place in
    let before = c.loop-place.invariant in
    let within : place < length definition.patterns = omega (arith, c.loop-place-test.true, c.len-place-end.ensures.count) in
    record {
      told = ap (grown_at messages definition seen (place + 1) (drop (place + 1) definition.patterns)) c.in_ok-longer.ensures.grown ∙ sym (grown_step messages definition seen place c.loop-place.ways within) ∙ before.told;
      all = subst (λ (ws : List Assignment). AllByRecursion (Suit messages definition) ws) (sym c.in_ok-longer.ensures.grown) (grown_suits messages definition seen place c.loop-place.ways within before.all);
    }
