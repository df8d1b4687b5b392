use Rattle.std.proofs.Common.{◌≡◌, ◌∙◌, ◌≤◌, length, sym, ap, arith}
use Rattle.std.proofs.lemmas.List.{length-map}
use Rattle.feed_answers.specs.Answers.{targets_of}
use Rattle.join_command.specs.Verdict.{limits_of}
use Rattle.join_command.proofs.ask.ask_output.Goals as goal

pub print_told-requires : goal.print_told-requires
print_told-requires g c =
    let few = c.requires.parts.feed_count.1 in
    let same : length c.in_ok-targets.targets ≡ length c.args.feeds = ap length c.in_ok-targets.ensures.same ∙ length-map c.args.feeds targets_of in
    record {
      numbered = c.numbered_law.ensures c.args.plan.now (limits_of c.args.options) c.args.feeds c.in_ok-run.run' c.in_ok-run.ensures.linked;
      few = omega arith;
      of_board = c.in_ok-run.ensures.of_board;
      known = c.in_ok-run.ensures.known;
      answers = c.in_ok-run.ensures.answers;
    }
