use Rattle.std.proofs.Common.{◌∙◌, ◌++◌, ap, ℕ}
use Rattle.std.specs.Prelude.{codes}
use Rattle.std.specs.Fmt.{decimal}
use Rattle.std.proofs.lemmas.Result.{on_ok_weaker}
use Rattle.arrival_log.proofs.HeadLemmas.{head_written}
use Rattle.arrival_log.proofs.lines.write_head.Goals as goal

pub returns-clause-ok : goal.returns-clause-ok
returns-clause-ok c =
    on_ok_weaker c.push_all.result
    (head_written c.args.text.now (decimal c.args.run.now.version) (decimal c.args.run.now.limits.arrivals) (decimal c.args.run.now.limits.partials) (decimal c.args.run.now.feeds) c.write_labelled.new.text c.write_labelled-2.new.text c.write_labelled-3.new.text c.write_labelled-4.new.text c.push_all.new.self
    (c.in_ok-write_labelled.ensures.ok ∙ ap (λ (n : ℕ). c.args.text.now ++ (codes "joinlog " ++ decimal n)) (c.from.ensures ∙ c.number.ensures))
    (c.in_ok-write_labelled-2.ensures.ok ∙ ap (λ (n : ℕ). c.write_labelled.new.text ++ (codes " arrivals " ++ decimal n)) c.from-2.ensures)
    c.in_ok-write_labelled-3.ensures.ok
    (c.in_ok-write_labelled-4.ensures.ok ∙ ap (λ (n : ℕ). c.write_labelled-3.new.text ++ (codes " feeds " ++ decimal n)) c.from-3.ensures))
    c.push_all.ensures.ok
