use Rattle.std.proofs.Common.{◌∙◌, ◌++◌, ℕ, List, ap}
use Rattle.std.specs.List.{flat_map}
use Rattle.arrival_log.specs.LogText.{entry_lines, heading_line, last_lines}
use Rattle.log_posts.specs.Stamps.{with_stamps}
use Rattle.log_replay.specs.Apart.{behind}
use Rattle.log_replay.proofs.WrittenLemmas.{parts_behind}
use Rattle.log_replay.proofs.section.behind_section.Goals as goal

pub returns-clause-progress : goal.returns-clause-progress
returns-clause-progress c =
    parts_behind c.args.plan.now c.args.version c.args.bytes.now c.args.named.now c.args.read.now c.args.expected.now c.args.start c.behind-first.result c.in_ok-further.further c.behind.result
    (c.behind-first.ensures.progress ∙ ap (behind c.args.bytes.now c.args.start) (c.bytes.ensures.same ∙ c.in_ok-write_heading.ensures.ok ∙ ap (λ (t : List ℕ). t ++ heading_line c.args.named.now) c.new-heading.ensures.empty))
    (c.in_ok-further.ensures.progress ∙ (λ i. behind c.args.bytes.now c.behind-first.result (flat_map (entry_lines c.args.plan.now c.args.version) (with_stamps (c.shown_stamps-stamps.ensures i) (c.plain-entries.ensures i)))))
    (c.behind.ensures.progress ∙ ap (behind c.args.bytes.now c.in_ok-further.further) (c.bytes-2.ensures.same ∙ c.in_ok-write_last_lines.ensures.ok ∙ ap (λ (t : List ℕ). t ++ last_lines c.args.plan.now c.args.expected.now.own) c.new-last.ensures.empty))
