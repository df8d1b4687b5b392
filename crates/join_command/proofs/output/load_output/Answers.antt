use Rattle.std.proofs.Common.{◌∙◌, ℕ, List, ◌++◌, ap, refl}
use Rattle.script_types.specs.declared.plan.Plan.{Plan}
use Rattle.building_load.specs.Building.{load_plan}
use Rattle.building_load.specs.Rows.{load_feeds}
use Rattle.building_load.specs.Summary.{summary_text}
use Rattle.join_command.specs.Output.{load_limits}
use Rattle.join_command.proofs.RunLemmas.{linked_parts, usual_in_range, load_parts, scheduled_parts}
use Rattle.join_command.proofs.output.load_output.Goals as goal

pub run_feeds-requires : goal.run_feeds-requires
run_feeds-requires g c =
    (c.type_bounds.sync-R, (c.type_bounds.sync-G, (load_parts c.args.rows c.in_ok-plan.plan c.in_ok-feeds.feeds c.requires.rows.1 c.in_ok-plan.ensures.plan c.in_ok-feeds.ensures.feeds, usual_in_range)))

pub returns-clause-summary : goal.returns-clause-summary
returns-clause-summary g c = record {
  run = c.in_ok-run.run';
  version = c.in_ok-run.ensures.version;
  linked =
      linked_parts c.in_ok-plan.plan load_plan load_limits load_limits c.in_ok-feeds.feeds (load_feeds c.args.rows) c.in_ok-run.run' c.in_ok-plan.ensures.plan refl c.in_ok-feeds.ensures.feeds c.in_ok-run.ensures.linked;
  scheduled =
      scheduled_parts c.in_ok-plan.plan load_plan load_limits load_limits c.in_ok-feeds.feeds (load_feeds c.args.rows) c.in_ok-run.run' c.in_ok-plan.ensures.plan refl c.in_ok-feeds.ensures.feeds c.in_ok-run.ensures.scheduled;
  text =
      c.in_ok-summary.ensures.ok
      ∙ ap (λ (bytes : List ℕ). bytes ++ summary_text c.args.rows c.in_ok-plan.plan c.in_ok-run.run') c.new-bytes.ensures.empty
      ∙ ap (λ (plan : Plan). summary_text c.args.rows plan c.in_ok-run.run') c.in_ok-plan.ensures.plan;
  told = c.run_status-status.ensures.status;
}
