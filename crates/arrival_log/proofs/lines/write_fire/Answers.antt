use Rattle.std.proofs.Common.{◌≡◌, [], arith, drop}
use Rattle.std.proofs.lemmas.List.{drop_all}
use Rattle.std.proofs.lemmas.Result.{on_ok_weaker}
use Rattle.arrival_log.specs.LogText.{fire_line}
use Rattle.arrival_log.proofs.HeadLemmas.{line_pushed}
use Rattle.arrival_log.proofs.lines.write_fire.Goals as goal

pub returns-clause-ok : goal.returns-clause-ok
returns-clause-ok c =
    let nothing : drop 512 c.args.room.now ≡ [] = drop_all 512 c.args.room.now (omega arith) in
    on_ok_weaker c.push_line.result (line_pushed c.args.text.now (fire_line c.args.firing.now) c.push_line.new.text _ _ nothing c.put_fire-start.ensures.written) c.push_line.ensures.ok
