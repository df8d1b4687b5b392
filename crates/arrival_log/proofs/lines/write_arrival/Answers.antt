use Rattle.std.proofs.Common.{◌≡◌, ◌∙◌, ◌++◌, [], List, ℕ, ap, arith, drop}
use Rattle.std.proofs.lemmas.List.{drop_all}
use Rattle.std.proofs.lemmas.Result.{on_ok_weaker}
use Rattle.arrival_log.specs.LogText.{arrival_line, stamped}
use Rattle.arrival_log.proofs.HeadLemmas.{arrival_parts, line_pushed}
use Rattle.arrival_log.proofs.lines.write_arrival.Goals as goal

pub returns-in-Some-clause-ok : goal.returns-in-Some-clause-ok
returns-in-Some-clause-ok c =
    let nothing : drop 512 c.args.room.now ≡ [] = drop_all 512 c.args.room.now (omega arith) in
    on_ok_weaker c.push_line.result (line_pushed c.args.text.now (arrival_line c.args.plan.now c.args.version (stamped c.args.entry.now c.args.stamp)) c.push_line.new.text _ _ nothing c.in-Some.ensures.written) c.push_line.ensures.ok

pub returns-clause-ok : goal.returns-clause-ok
returns-clause-ok c =
    let room = c.put_arrival.new.room in
    let nothing : drop 512 room ≡ [] = drop_all 512 room (omega arith) in
    on_ok_weaker c.write_message_end.result
    (arrival_parts c.args.plan.now c.args.version (stamped c.args.entry.now c.args.stamp) c.args.text.now c.push_line-2.new.text c.write_message_end.new.text (drop 512 room) nothing
    (c.in_ok-push_line.ensures.ok ∙ ap (λ (piece : List ℕ). c.args.text.now ++ piece) c.put_front-start.ensures.written))
    c.write_message_end.ensures.ok
