use Rattle.std.proofs.Common.{◌≡◌, [], arith, drop}
use Rattle.std.proofs.lemmas.List.{drop_all}
use Rattle.std.proofs.lemmas.Result.{on_ok_weaker}
use Rattle.arrival_log.specs.LogText.{effect_line}
use Rattle.arrival_log.proofs.HeadLemmas.{line_pushed}
use Rattle.arrival_log.proofs.lines.write_effect.Goals as goal

pub returns-in-Some-clause-ok : goal.returns-in-Some-clause-ok
returns-in-Some-clause-ok c =
    let nothing : drop 512 c.args.room.now ≡ [] = drop_all 512 c.args.room.now (omega arith) in
    on_ok_weaker c.push_line.result (line_pushed c.args.text.now (effect_line c.args.plan.now c.args.effect.now) c.push_line.new.text _ _ nothing c.in-Some.ensures.written) c.push_line.ensures.ok
