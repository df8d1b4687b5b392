use Rattle.std.proofs.Common.{◌≡◌, ◌∙◌, [], arith, drop}
use Rattle.std.proofs.lemmas.List.{drop_all}
use Rattle.std.proofs.lemmas.Option.{IfSome_then}
use Rattle.arrival_log.specs.LogText.{effect_line}
use Rattle.arrival_log.proofs.PutLemmas.{none_put, one_put}
use Rattle.arrival_log.proofs.whole.put_effects.Goals as goal

pub returns-in-empty-clause-written : goal.returns-in-empty-clause-written
returns-in-empty-clause-written c = none_put (effect_line c.args.plan.now) c.args.effects.now (drop 512 c.args.room.now) c.in-empty.len_below (drop_all 512 c.args.room.now (omega arith))

pub returns-in-len1-clause-written : goal.returns-in-len1-clause-written
returns-in-len1-clause-written c =
    let nothing : drop 512 c.args.room.now ≡ [] = drop_all 512 c.args.room.now (omega arith) in
    let one = one_put (effect_line c.args.plan.now) c.args.effects.now c.effect-item.result (drop 512 c.args.room.now) c.in-len1.len_at_least c.in-len1.len_below c.effect-item.is nothing in
    IfSome_then c.put_effect.result c.put_effect.ensures.written (λ start is. is ∙ one)
